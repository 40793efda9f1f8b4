-- What a counted call of the C service leaves: the tally (document 01) as an array of three numbers.
use Rattle.std.specs.Prelude.{ℕ, ◌≡◌, List, [], ◌∷◌, get_or}
use Rattle.counted.specs.Counted.{counters_after}
use Rattle.counters.specs.declared.Counters.{Counters}
use Rattle.wire.specs.Wire.{Reply, Returned}

-- "asked, answered, refused, 64 bits each", in this order
abbrev pub tally_of : List ℕ → Counters
tally_of l = record { asked = get_or l 0 0; answered = get_or l 1 0; refused = get_or l 2 0 }

abbrev pub tally_array : Counters → List ℕ
tally_array c = c.asked ∷ c.answered ∷ c.refused ∷ []

-- the call's own number and buffer, and the tally from c to d, "changed in place"
abbrev pub Tallied : Reply → ℕ → List ℕ → List ℕ → List ℕ → List ℕ → Type 0
Tallied reply number before after c d = Returned reply number before after × (d ≡ tally_array (counters_after reply (tally_of c)))
