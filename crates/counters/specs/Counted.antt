-- THE TALLY (document 01) after one more run.
use Rattle.std.specs.Prelude.{ℕ, ◌+◌, Bool, cond, eqb}
use Rattle.counters.specs.declared.Counters.{Counters}

-- "at its greatest"
abbrev pub most : ℕ
most = 18446744073709551615

-- "adds one to asked and one to answered (number 0) or refused"
abbrev pub one_more : Counters → Bool → Counters
one_more c done = cond done
    (record { asked = c.asked + 1; answered = c.answered + 1; refused = c.refused })
    (record { asked = c.asked + 1; answered = c.answered; refused = c.refused + 1 })

-- "if any of the three is at its greatest, none changes"
unfoldable pub counted_by : Counters → Bool → Counters
counted_by c done = cond (eqb c.asked most) c (cond (eqb c.answered most) c (cond (eqb c.refused most) c (one_more c done)))
