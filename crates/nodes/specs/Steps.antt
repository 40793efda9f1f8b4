-- Terms read from bytes one after the other, as the program goes. Nothing to believe: `query_written`, `entry_written` and `final_written`
-- (proofs/Exact) say that the terms read from a tree's bytes are the tree's nodes.
use Rattle.std.specs.Prelude.{ℕ, zero, suc, ◌+◌, ◌*◌, min, Bool, cond, ◌||◌, List, [], ◌∷◌, leb, ltb, eqb, length, get_or}
use Rattle.path_fields.specs.Paths.{path_at, set_at}
use Rattle.wire.specs.Wire.{at32}
use Rattle.nodes.specs.declared.Term.{Term}
use Rattle.nodes.specs.declared.Term.TheVariants.{Empty, Path, PathSet, Literal, Apply, Reduce, ReduceWhere, ResultLiteral, ResultApply, PathIndex}
use Rattle.nodes.specs.declared.Term.TheVariants.{EntryIndex, Entry}
use Rattle.nodes.specs.Nodes.{padded}

-- the reduction byte of an entry, "1 to 5" or 128 more: no term starts with a byte below 0x10 or from 128 on
abbrev pub reduction_tag : ℕ → Bool
reduction_tag tag = ltb tag 0x10 || leb 128 tag

-- what another byte is than a term's first: an entry's reduction byte, or nothing
abbrev pub entry_tagged : ℕ → Term
entry_tagged tag = cond (reduction_tag tag) (Entry tag) Empty

-- the term that starts at index i, by its tag: "0x10, key count 1 to 3, the keys, a 16-bit start .. ; 0x11 and a 32-bit literal; 0x12, operator, ..", "0x20,
-- reduction, a place term; 0x21 and a 32-bit literal; 0x22, operator, ..", 0x13 with a set of starts, 0x23 with a condition, "0x30 and a chain's index for a
-- chain, 0x31 and an entry's index for a reduction"; "e entries, each a reduction byte and an expression"; empty for another byte
abbrev pub tagged : ℕ → List ℕ → ℕ → Term
tagged tag s i =
    cond (eqb tag 0x10) (Path (path_at s (i + 1)))
    (cond (eqb tag 0x11) (Literal (at32 s (i + 1)))
    (cond (eqb tag 0x12) (Apply (get_or s (i + 1) 0))
    (cond (eqb tag 0x13) (PathSet (set_at s (i + 1)))
    (cond (eqb tag 0x20) (Reduce (get_or s (i + 1) 0))
    (cond (eqb tag 0x21) (ResultLiteral (at32 s (i + 1)))
    (cond (eqb tag 0x22) (ResultApply (get_or s (i + 1) 0))
    (cond (eqb tag 0x23) (ReduceWhere (get_or s (i + 1) 0))
    (cond (eqb tag 0x30) (PathIndex (get_or s (i + 1) 0))
    (cond (eqb tag 0x31) (EntryIndex (get_or s (i + 1) 0))
    (entry_tagged tag))))))))))

-- where the next term starts behind a path reduction with a set of starts: three bytes, its keys and two bytes for each start
abbrev pub behind_set : List ℕ → ℕ → ℕ
behind_set s i =
    let n = get_or s (i + 1) 0 in
    i + 3 + n + 2 * get_or s (i + 2 + n) 0

-- where the next term starts: another path reduction has four bytes and its keys, a literal five, every other term two, a reduction byte is one
abbrev pub passed : ℕ → List ℕ → ℕ → ℕ
passed tag s i =
    cond (eqb tag 0x10) (i + 4 + get_or s (i + 1) 0)
    (cond (eqb tag 0x13) (behind_set s i)
    (cond (eqb tag 0x11) (i + 5) (cond (eqb tag 0x21) (i + 5) (cond (reduction_tag tag) (i + 1) (i + 2)))))

-- the term at index i; none starts past the end
unfoldable pub term_at : List ℕ → ℕ → Term
term_at s i = cond (leb (length s) i) Empty (tagged (get_or s i 0) s i)

-- and where the next one starts
unfoldable pub next_at : List ℕ → ℕ → ℕ
next_at s i = cond (leb (length s) i) i (passed (get_or s i 0) s i)

-- so many terms from index i on
unfoldable pub collected : ℕ → List ℕ → ℕ → List Term
collected zero s i = []
collected (suc k) s i = term_at s i ∷ collected k s (next_at s i)

-- the typed form: 64 terms, and 8 reduction bytes of entries
unfoldable pub nodes_read : ℕ → List ℕ → ℕ → List Term
nodes_read count s i = padded (collected (min count 72) s i)
