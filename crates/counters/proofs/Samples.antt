-- The tally after one more run, in samples written by hand from document 01: "adds one to asked and one to answered (number 0) or refused;
-- if any of the three is at its greatest, none changes".
use Prim.Native.Nat.{ℕ}
use mathlib.Core.Bool.{true, false}
use mathlib.Core.Path.{◌≡◌, refl}
use Rattle.counters.specs.Counted.{counted_by}
use Rattle.counters.specs.declared.Counters.{Counters}

abbrev counters : ℕ → ℕ → ℕ → Counters
counters a b c = record { asked = a; answered = b; refused = c }

abbrev top : ℕ
top = 18446744073709551615

-- done, refused, up to the greatest, and at it
pub counted_samples : (counted_by (counters 5 3 2) true ≡ counters 6 4 2)
    × (counted_by (counters 5 3 2) false ≡ counters 6 3 3)
    × (counted_by (counters 18446744073709551614 3 2) true ≡ counters top 4 2)
    × (counted_by (counters top 3 2) true ≡ counters top 3 2)
    × (counted_by (counters 5 top 2) false ≡ counters 5 top 2)
    × (counted_by (counters 5 3 top) true ≡ counters 5 3 top)
unfolding counted_by
counted_samples = (refl, refl, refl, refl, refl, refl)
