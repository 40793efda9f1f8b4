-- What all readers share: refusals in turn, and the first five bytes (document 01, "Layouts" and "Numbers at the desk").
use Rattle.std.specs.Prelude.{ℕ, cond, List, [], ◌∷◌, ltb, eqb, length, get_or}
use Rattle.wire.specs.Wire.{at16}

-- the first refusal of two judgements, one after the other; 0 for none
abbrev pub then : ℕ → ℕ → ℕ
then a b = cond (eqb a 0) b a

-- "Each file starts with three letters and a 16-bit version": the third letter is given, and the version, which is below 256
abbrev pub header_bytes : ℕ → ℕ → List ℕ
header_bytes letter version = 0x4c ∷ 0x50 ∷ letter ∷ version ∷ 0 ∷ []

-- "3 | version | not 1"; "Both are read" (document 02, b): those known are 1 to the newest that the reader knows
abbrev pub version_code : ℕ → ℕ → ℕ
version_code newest version = cond (eqb version 0) 3 (cond (ltb newest version) 3 0)

-- "header (1 if under 5 bytes, or under 9 for a map), 2, 3": `least` is 9 for a map, 5 for the others
unfoldable pub header_code : ℕ → ℕ → ℕ → List ℕ → ℕ
header_code letter newest least s =
    cond (ltb (length s) 5) 1 (cond (ltb (length s) least) 1
    (cond (eqb (get_or s 0 0) 0x4c) (cond (eqb (get_or s 1 0) 0x50) (cond (eqb (get_or s 2 0) letter) (version_code newest (at16 s 3)) 2) 2) 2))
