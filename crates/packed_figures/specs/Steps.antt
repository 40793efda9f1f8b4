-- MIRRORS OF THE PROGRAM: the constants of three keys as it computes them, and a round on words, edge by edge, what `gather` of walks is on figures.
-- Nothing to believe: `three_unit` and `three_shift` (proofs/Three) say that the constants are those of Packed, `gathered_is` (proofs/Gathered) that a round
-- gathers the words of figures.
use Rattle.std.specs.Prelude.{ℕ, zero, suc, ◌+◌, ◌/◌, ◌%◌, ◌^◌, ◌≤◌, min, Bool, cond, ◌&&◌, List, [], ◌∷◌, eqb, ltb}
use Rattle.walks.specs.Keys.{measure}
use Rattle.walks.specs.Walks.{Edge}
use Rattle.packed_figures.specs.declared.PathConstants.{PathConstants}
use Rattle.packed_figures.specs.declared.Units.{Units}
use Rattle.packed_figures.specs.Packed.{absent, onward, width}

-- the bits of the second key and of the third, none where it is a key before
abbrev pub second_bits : ℕ → ℕ → ℕ
second_bits a b = cond (eqb a b) 0 (width (measure b))

abbrev pub third_bits : ℕ → ℕ → ℕ → ℕ
third_bits a b c = cond (eqb a c) 0 (cond (eqb b c) 0 (width (measure c)))

-- the units of the three, 0 for one that is a key before
unfoldable pub units_of : ℕ → ℕ → ℕ → Units
units_of a b c = record {
  first = 2 ^ (second_bits a b + third_bits a b c);
  second = cond (eqb a b) 0 (2 ^ third_bits a b c);
  third = cond (eqb a c) 0 (cond (eqb b c) 0 1);
}

pub record SmallUnits (u : Units) : Type 0 where
  pub first_fits : u.first ≤ 4503599627370496
  pub second_fits : u.second ≤ 4503599627370496
  pub third_fits : u.third ≤ 1

-- the unit of the key j
abbrev pub unit_among : ℕ → ℕ → ℕ → ℕ → Units → ℕ
unit_among j a b c u = cond (eqb a j) u.first 0 + cond (eqb b j) u.second 0 + cond (eqb c j) u.third 0

-- the bits after the third key, where it stands first
unfoldable pub last_shift : ℕ → ℕ → ℕ → ℕ
last_shift a b c = cond (eqb a c) (second_bits a b + third_bits a b c) (cond (eqb b c) (third_bits a b c) 0)

-- the keys in the number of a path reduction, the last one again where there are fewer than three
abbrev pub key_or_before : ℕ → ℕ → ℕ → ℕ → ℕ
key_or_before count at key before = cond (ltb count at) before key

abbrev pub key1 : ℕ → ℕ
key1 x = x / 256 % 256

abbrev pub key2 : ℕ → ℕ
key2 x = key_or_before (x % 256) 2 (x / 65536 % 256) (key1 x)

abbrev pub key3 : ℕ → ℕ
key3 x = key_or_before (x % 256) 3 (x / 16777216 % 256) (key2 x)

abbrev pub path_keys : ℕ → List ℕ
path_keys x = key1 x ∷ key2 x ∷ key3 x ∷ []

-- A ROUND ON WORDS

-- what the edge e brings from the words W, where the test says that it does
abbrev pub brought : Bool → PathConstants → Edge → (ℕ → ℕ) → ℕ
brought b c e W = cond b (onward c (W e.from) e.weight e.capacity) absent

-- the least at v of its own word and what the edges below i that pass the test `live` bring
unfoldable pub gathered : (ℕ → Edge) → PathConstants → (ℕ → Bool) → (ℕ → ℕ) → ℕ → ℕ → ℕ
gathered edge c live W v zero = W v
gathered edge c live W v (suc i) = min (gathered edge c live W v i) (brought (live i && eqb (edge i).to v) c (edge i) W)
