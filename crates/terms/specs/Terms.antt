-- Terms, "judged left to right: for a term 1, 12, 11, 9, then each field, missing (1) before wrong".
use Rattle.std.specs.Prelude.{ℕ, zero, suc, ◌+◌, ◌*◌, max, true, false, cond, List, Result, Ok, Err, leb, ltb, eqb, length, get_or, set}
use Rattle.terms.specs.declared.Head.{Head}
use Rattle.terms.specs.declared.TermKind.{TermKind}
use Rattle.terms.specs.declared.TermKind.TheVariants.{OfVertex, OfResult, OfEntry, OfFinal}
use Rattle.progress.specs.declared.Progress.{Progress}
use Rattle.progress.specs.Progress.{Scan, blank, going}
use Rattle.fields.specs.Fields.{code_of}
use Rattle.packed_path.specs.declared.PackedPath.{PackedPath}
use Rattle.packed_path.specs.Packed.{no_path, same_packed}
use Rattle.path_fields.specs.Paths.{path_at, path_code, set_at, set_code}
use Rattle.wire.specs.Refusal.{number}
use Rattle.wire.specs.declared.Refusal.{Refusal}

-- a term read without those that it contains: how far the reading has come, how many of them follow and of what kind they are
pub record Step : Type 0 where
  pub progress : Scan
  pub follow : ℕ
  pub inner : TermKind

-- a term that contains no other
abbrev pub alone : Scan → Step
alone w = record { progress = w; follow = 0; inner = OfVertex }

-- no term: the step of a refusal
abbrev pub refused_step : ℕ → Step
refused_step code = alone (blank code)

-- one term more, up to `next`
unfoldable pub advanced : Scan → ℕ → Scan
advanced w next = record { code = w.code; at = next; terms = w.terms + 1; paths = w.paths; reductions = w.reductions; table = w.table }

-- what the reader of a term's head leaves: one term more, up to the head's end, and those that follow; or the refusal
abbrev pub stepped : Result Head Refusal → Progress → Step
stepped (Ok h) w = record { progress = advanced (going w) h.end; follow = h.follow; inner = h.inner }
stepped (Err e) w = refused_step (number e)

-- "8 different chains": where a path reduction stands among those met, or a new one is to be put: the first of k slots of the table, from slot i on, that is
-- free or holds it
unfoldable pub slot_of : ℕ → ℕ → List PackedPath → PackedPath → ℕ → ℕ
slot_of zero paths table path i = i
slot_of (suc k) paths table path i =
    cond (leb paths i) i (cond (same_packed (get_or table i no_path) path) i (slot_of k paths table path (i + 1)))

-- the path reduction put after those met, unless it is among them: "14 | full sheet | a ninth chain"
unfoldable pub kept_path : Scan → PackedPath → Scan
kept_path w path =
    let i = slot_of 8 w.paths w.table path 0 in
    cond (leb 8 i) (blank 14)
    (record { code = w.code; at = w.at; terms = w.terms; paths = max w.paths (i + 1); reductions = w.reductions; table = set w.table i path })

-- "0x10, key count 1 to 3, the keys, a 16-bit start"; "In a chain, 14 comes after 13."
unfoldable pub path_step : List ℕ → Scan → Step
path_step s w =
    let at = w.at + 1 in
    cond (eqb (path_code s at) 0) (alone (kept_path (advanced w (at + 3 + get_or s at 256)) (path_at s at))) (refused_step (path_code s at))

-- "A place term 0x13 is a chain whose start is a set: key count, keys, a set count 1 to 16, the 16-bit starts strictly rising." (document 02, b)
unfoldable pub set_step : List ℕ → Scan → Step
set_step s w =
    let at = w.at + 1 in
    let count = at + 1 + get_or s at 256 in
    cond (eqb (set_code s at) 0) (alone (kept_path (advanced w (count + 1 + 2 * get_or s count 256)) (set_at s at))) (refused_step (set_code s at))

-- "0x20, reduction, a place term", and 0x23, "reduction, a place term as condition, a place term as value" (document 02, a): so many place terms follow; "A
-- reduction's 14 follows its byte."
unfoldable pub reduce_step : ℕ → List ℕ → Scan → Step
reduce_step follow s w =
    let c = code_of (get_or s (w.at + 1) 256) 5 in
    let a = advanced w (w.at + 1 + 1) in
    cond (eqb c 0)
    (cond (leb 8 w.reductions) (refused_step 14)
    (record {
      progress = record { code = a.code; at = a.at; terms = a.terms; paths = a.paths; reductions = w.reductions + 1; table = a.table };
      follow = follow;
      inner = OfVertex;
    }))
    (refused_step c)

-- "0x30 and a chain's index for a chain, 0x31 and an entry's index for a reduction"; "16 | no such row | an index not below its count"
unfoldable pub index_step : List ℕ → Scan → ℕ → Step
index_step s w count =
    let b = get_or s (w.at + 1) 256 in
    cond (ltb 255 b) (refused_step 1) (cond (leb count b) (refused_step 16) (alone (advanced w (w.at + 1 + 1))))

-- "0x11 and a 32-bit literal", "0x21 and a 32-bit literal"
unfoldable pub literal_step : List ℕ → Scan → Step
literal_step s w = cond (ltb 255 (get_or s (w.at + 4) 256)) (refused_step 1) (alone (advanced w (w.at + 4 + 1)))

-- "0x12, operator, two place terms", "0x22, operator, two result terms"
unfoldable pub apply_step : TermKind → List ℕ → Scan → Step
apply_step kind s w =
    let c = code_of (get_or s (w.at + 1) 256) 11 in
    cond (eqb c 0) (record { progress = advanced w (w.at + 1 + 1); follow = 2; inner = kind }) (refused_step c)

-- what each kind has instead of literals and operators, by its first byte: in place terms a chain, with one start or a set of them, in result terms a
-- reduction, without or with a condition, in an entry's expression a chain's index, in a final expression an entry's; "9 | code | an illegal .. term .. byte"
unfoldable pub leaf_step : TermKind → ℕ → List ℕ → Scan → Step
leaf_step OfVertex tag s w = cond (eqb tag 0x10) (path_step s w) (cond (eqb tag 0x13) (set_step s w) (refused_step 9))
leaf_step OfResult tag s w = cond (eqb tag 0x20) (reduce_step 1 s w) (cond (eqb tag 0x23) (reduce_step 2 s w) (refused_step 9))
leaf_step OfEntry tag s w = cond (eqb tag 0x30) (index_step s w w.paths) (refused_step 9)
leaf_step OfFinal tag s w = cond (eqb tag 0x31) (index_step s w w.reductions) (refused_step 9)

-- "An entry's expression has 0x11, 0x12 and 0x30 only, a final one 0x21, 0x22 and 0x31 only": the byte of a literal; that of an operator is one more
unfoldable pub literal_tag : TermKind → ℕ
literal_tag OfVertex = 0x11
literal_tag OfResult = 0x21
literal_tag OfEntry = 0x11
literal_tag OfFinal = 0x21

-- a term by its first byte
abbrev pub tagged_step : TermKind → ℕ → List ℕ → Scan → Step
tagged_step kind tag s w =
    cond (eqb tag (literal_tag kind)) (literal_step s w)
    (cond (eqb tag (literal_tag kind + 1)) (apply_step kind s w) (leaf_step kind tag s w))

-- a term without those that it contains, how many of them follow (0 to 2) and of what kind
unfoldable pub term_step : TermKind → ℕ → List ℕ → Scan → Step
term_step kind left s w =
    let tag = get_or s w.at 0 in
    cond (leb (length s) w.at) (refused_step 1)
    (cond (leb 64 w.terms) (refused_step 12)
    (cond (eqb left 0) (refused_step 11)
    (cond (eqb tag (literal_tag kind)) (literal_step s w)
    (cond (eqb tag (literal_tag kind + 1)) (apply_step kind s w) (leaf_step kind tag s w)))))

-- a term and all that it contains, with so many levels of depth left; a refusal is handed on
unfoldable pub read : TermKind → ℕ → List ℕ → Scan → Scan
read kind zero s w = cond (eqb w.code 0) (term_step kind zero s w).progress w
read kind (suc left) s w =
    let h = term_step kind (suc left) s w in
    elim (eqb w.code 0) [
      | true ↦ elim (eqb h.follow 0) [
        | true ↦ h.progress
        | false ↦ elim (eqb h.follow 1) [
          | true ↦ read h.inner left s h.progress
          | false ↦ read h.inner left s (read h.inner left s h.progress)
        ]
      ]
      | false ↦ w
    ]
