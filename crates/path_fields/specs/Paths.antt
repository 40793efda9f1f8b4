-- The fields of a path reduction, judged in turn: "missing (1) before wrong"; and the path reduction read from them. A byte past the end reads as 256 where
-- it is judged.
use Rattle.std.specs.Prelude.{ℕ, zero, suc, ◌+◌, ◌*◌, min, cond, List, ltb, eqb, get_or}
use Rattle.fields.specs.Fields.{code_of, key_code, source_code}
use Rattle.packed_path.specs.declared.PackedPath.{PackedPath}
use Rattle.packed_path.specs.Packed.{keys_number, with_first}
use Rattle.wire.specs.Header.{then}
use Rattle.wire.specs.Wire.{at16}

-- n keys from byte i on
unfoldable pub keys_code : ℕ → List ℕ → ℕ → ℕ
keys_code zero s i = 0
keys_code (suc n) s i = then (key_code (get_or s i 256) (eqb n 0)) (keys_code n s (i + 1))

-- "key count 1 to 3, the keys", the key count at byte i
unfoldable pub key_fields_code : List ℕ → ℕ → ℕ
key_fields_code s i = then (code_of (get_or s i 256) 3) (keys_code (get_or s i 256) s (i + 1))

-- and "a 16-bit start" behind them (0x10)
unfoldable pub path_code : List ℕ → ℕ → ℕ
path_code s i =
    let n = get_or s i 256 in
    then (key_fields_code s i) (source_code (get_or s (i + 1 + n) 256) (get_or s (i + 1 + n + 1) 256))

-- a start of a set, by its two bytes: "65,535 inside a set is 13"; 'Checks: 17 "starts order" when a start doesn't exceed the one before, after 13 for that
-- start' (document 02, b): `least` is one more than the one before, 0 for the first
abbrev pub start_code : ℕ → ℕ → ℕ → ℕ
start_code least low high = cond (ltb 255 high) 1 (cond (ltb (low + 256 * high) 256) (cond (ltb low least) 17 0) 13)

-- k starts from byte i on: "the 16-bit starts strictly rising" (document 02, b)
unfoldable pub starts_code : ℕ → ℕ → List ℕ → ℕ → ℕ
starts_code zero least s i = 0
starts_code (suc k) least s i = then (start_code least (get_or s i 256) (get_or s (i + 1) 256)) (starts_code k (get_or s i 256 + 1) s (i + 2))

-- "key count, keys, a set count 1 to 16, the 16-bit starts strictly rising" (0x13; document 02, b), the key count at byte i
unfoldable pub set_code : List ℕ → ℕ → ℕ
set_code s i =
    let n = get_or s i 256 in
    let k = get_or s (i + 1 + n) 256 in
    then (key_fields_code s i) (then (code_of k 16) (starts_code k 0 s (i + 1 + n + 1)))

-- a byte that is used where there are more than j keys
abbrev pub used : ℕ → ℕ → ℕ → ℕ
used n j b = cond (ltb j n) b 0

-- the keys whose count stands at byte i, as one number
unfoldable pub keys_at : List ℕ → ℕ → ℕ
keys_at s i = let n = get_or s i 0 in keys_number n (get_or s (i + 1) 0) (used n 1 (get_or s (i + 2) 0)) (used n 2 (get_or s (i + 3) 0))

-- "a 16-bit start (0 to 255, or 65,535 for anywhere)" behind the number of the keys
unfoldable pub one_source : ℕ → ℕ → PackedPath
one_source keys source = record { keys = keys; count = cond (eqb source 65535) 0 1; low = cond (eqb source 65535) 0 source; high = 0 }

-- the path reduction whose key count stands at byte i, with one start or from anywhere
unfoldable pub path_at : List ℕ → ℕ → PackedPath
path_at s i = one_source (keys_at s i) (at16 s (i + 1 + get_or s i 0))

-- k starts from byte i on, behind the number of the keys: an accepted start is its low byte
unfoldable pub sources_at : ℕ → ℕ → List ℕ → ℕ → PackedPath
sources_at keys zero s i = record { keys = keys; count = 0; low = 0; high = 0 }
sources_at keys (suc k) s i = with_first (get_or s i 0) (sources_at keys k s (i + 2))

-- the starts behind a set count at byte i; an accepted one is at most 16
unfoldable pub counted_sources : ℕ → List ℕ → ℕ → PackedPath
counted_sources keys s i = sources_at keys (min (get_or s i 0) 16) s (i + 1)

-- the path reduction whose key count stands at byte i, with a set of starts
unfoldable pub set_at : List ℕ → ℕ → PackedPath
set_at s i = counted_sources (keys_at s i) s (i + 1 + get_or s i 0)
