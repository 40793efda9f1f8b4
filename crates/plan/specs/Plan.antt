-- How the bytes of a plan (document 01: worksheet `LPW`) are read, left to right.
use Rattle.std.specs.Prelude.{ℕ, zero, suc, ◌+◌, ◌*◌, ◌%◌, cond, List, leb, ltb, eqb, length, get_or, set}
use Rattle.progress.specs.Progress.{Scan}
use Rattle.fields.specs.Fields.{code_of, key_code, opening_code, source_code}
use Rattle.packed_path.specs.declared.PackedPath.{PackedPath}
use Rattle.packed_path.specs.Packed.{keys_number}
use Rattle.path_fields.specs.Paths.{counted_sources, one_source, starts_code}
use Rattle.terms.specs.declared.TermKind.TheVariants.{OfEntry, OfFinal}
use Rattle.terms.specs.Terms.{read}
use Rattle.progress.specs.Progress.{blank, ended, started}
use Rattle.wire.specs.Header.{then}
use Rattle.wire.specs.Wire.{at16}

-- "an illegal .. filler byte": an unused key byte, or the reduction byte of kind 0, is 0
abbrev pub filler_code : ℕ → ℕ
filler_code b = cond (ltb 255 b) 1 (cond (eqb b 0) 0 9)

-- key byte j of n: a key, or "unused ones 0"
abbrev pub slot_code : ℕ → ℕ → ℕ → ℕ
slot_code n j b = cond (ltb j n) (key_code b (eqb (j + 1) n)) (filler_code b)

-- "key count, three key bytes with unused ones 0", of the chain at byte i
unfoldable pub listed_keys_code : List ℕ → ℕ → ℕ
listed_keys_code s i =
    let n = get_or s i 256 in
    then (code_of n 3)
    (then (slot_code n 0 (get_or s (i + 1) 256)) (then (slot_code n 1 (get_or s (i + 2) 256)) (slot_code n 2 (get_or s (i + 3) 256))))

-- "a set count (0 for anywhere)"; "a set count outside its range is 9" (document 02, b)
abbrev pub set_count_code : ℕ → ℕ
set_count_code k = cond (ltb 255 k) 1 (cond (ltb 16 k) 9 0)

-- and its starts, from byte j on: in version 1 a "16-bit start", in version 2 "a set count .. and its starts" (document 02, b)
unfoldable pub listed_starts_code : ℕ → List ℕ → ℕ → ℕ
listed_starts_code version s j =
    cond (eqb version 1) (source_code (get_or s j 256) (get_or s (j + 1) 256))
    (then (set_count_code (get_or s j 256)) (starts_code (get_or s j 256) 0 s (j + 1)))

unfoldable pub listed_code : ℕ → List ℕ → ℕ → ℕ
listed_code version s i = then (listed_keys_code s i) (listed_starts_code version s (i + 4))

-- the chain at byte i, as numbers
unfoldable pub listed_at : ℕ → List ℕ → ℕ → PackedPath
listed_at version s i =
    let keys = keys_number (get_or s i 0) (get_or s (i + 1) 0) (get_or s (i + 2) 0) (get_or s (i + 3) 0) in
    cond (eqb version 1) (one_source keys (at16 s (i + 4))) (counted_sources keys s (i + 4))

-- and where it ends: version 1 has "c chains of 6 bytes"
unfoldable pub listed_end : ℕ → List ℕ → ℕ → ℕ
listed_end version s i = cond (eqb version 1) (i + 6) (i + 5 + 2 * get_or s (i + 4) 0)

-- one chain more (equal chains stay apart: they are legal here); this 14 is never given, as c was judged
unfoldable pub listed_step : ℕ → List ℕ → Scan → Scan
listed_step version s w =
    cond (leb (length s) w.at) (blank 1)
    (cond (eqb (listed_code version s w.at) 0)
    (cond (leb 8 w.paths) (blank 14)
    (record {
      code = w.code;
      at = listed_end version s w.at;
      terms = w.terms;
      paths = w.paths + 1;
      reductions = w.reductions;
      table = set w.table w.paths (listed_at version s w.at);
    }))
    (blank (listed_code version s w.at)))

-- k of them; a refusal is handed on
unfoldable pub listed_scan : ℕ → ℕ → List ℕ → Scan → Scan
listed_scan zero version s w = w
listed_scan (suc k) version s w = cond (eqb w.code 0) (listed_scan k version s (listed_step version s w)) w

-- where k of them end, the first at byte i; and where the entry count of a plan stands, behind "chain count c (0 to 8) and c chains"
unfoldable pub chains_end : ℕ → ℕ → List ℕ → ℕ → ℕ
chains_end zero version s i = i
chains_end (suc k) version s i = chains_end k version s (listed_end version s i)

unfoldable pub count_at : List ℕ → ℕ
count_at s = chains_end (get_or s 6 0) (get_or s 3 0) s 7

-- "Kind 0 has .. reduction byte 0; kind 1 has .. reduction bytes 1 to 5"; with a condition "the entry's reduction byte has 128 added"
-- (document 02, a)
abbrev pub reduction_code : ℕ → ℕ → ℕ
reduction_code kind b = cond (eqb kind 0) (filler_code b) (cond (ltb 255 b) 1 (code_of (b % 128) 5))

-- the same state further on, with so many entries met
unfoldable pub moved : Scan → ℕ → ℕ → Scan
moved w at reductions = record { code = w.code; at = at; terms = w.terms; paths = w.paths; reductions = reductions; table = w.table }

-- the expressions behind the reduction byte b: "the condition's expression precedes the value's"
unfoldable pub expressions_scan : ℕ → List ℕ → Scan → Scan
expressions_scan b s w = read OfEntry 16 s (cond (leb 128 b) (read OfEntry 16 s w) w)

-- "e entries, each a reduction byte and an expression": one more is met; this 14 is never given, as e was judged
unfoldable pub entry_scan : ℕ → List ℕ → Scan → Scan
entry_scan kind s w =
    let b = get_or s w.at 256 in
    let c = reduction_code kind b in
    cond (leb (length s) w.at) (blank 1)
    (cond (eqb c 0)
    (cond (leb 8 w.reductions) (blank 14) (expressions_scan b s (moved w (w.at + 1) (w.reductions + 1))))
    (blank c))

-- k of them; a refusal is handed on
unfoldable pub entries_scan : ℕ → ℕ → List ℕ → Scan → Scan
entries_scan zero kind s w = w
entries_scan (suc k) kind s w = cond (eqb w.code 0) (entries_scan k kind s (entry_scan kind s w)) w

-- "Worksheet counts above 8 are 14 at that byte, but for kind 0 every e other than 1 is 9."
abbrev pub count_code : ℕ → ℕ → ℕ
count_code kind b = cond (ltb 255 b) 1 (cond (eqb kind 0) (cond (eqb b 1) 0 9) (cond (ltb 8 b) 14 0))

-- "for kind 1 a final expression"
unfoldable pub final_scan : ℕ → List ℕ → Scan → Scan
final_scan kind s w = cond (eqb kind 0) w (read OfFinal 16 s w)

-- from the entry count on
unfoldable pub body_scan : ℕ → List ℕ → Scan → Scan
body_scan kind s w =
    let e = get_or s w.at 256 in
    cond (eqb w.code 0)
    (cond (eqb (count_code kind e) 0)
    (cond (leb (length s) w.at) (blank 1) (final_scan kind s (entries_scan e kind s (moved w (w.at + 1) w.reductions))))
    (blank (count_code kind e)))
    w

-- the whole reading: header of version 1 or 2, kind, chain count, chains, entries, final expression, left-over bytes
unfoldable pub plan_scan : List ℕ → Scan
plan_scan s =
    let kind = get_or s 5 256 in
    let count = get_or s 6 256 in
    cond (eqb (opening_code 0x57 2 s) 0)
    (cond (ltb 255 count) (blank 1) (cond (ltb 8 count) (blank 14) (ended s (body_scan kind s (listed_scan count (get_or s 3 0) s (started 7))))))
    (blank (opening_code 0x57 2 s))

-- the number of the first refusal, 0 where the bytes are accepted
abbrev pub plan_code : List ℕ → ℕ
plan_code s = (plan_scan s).code
