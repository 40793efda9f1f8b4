-- The rows of an answer from the table of figures that a run has left, as the program goes. Nothing to believe: `answer_rows` (proofs/Exact) says that they are
-- the rows of the plan's body.
use Rattle.std.specs.Prelude.{ℕ, zero, ◌-◌, min, cond, List, ◌++◌, eqb, length, get_or, replicate}
use Rattle.meaning.specs.Run.{tabulate}
use Rattle.value.specs.declared.Row.{Row}
use Rattle.value.specs.declared.Value.{Value}
use Rattle.value.specs.declared.Value.TheVariants.{Absent, Number}
use Rattle.eval.specs.Steps.{eight, row}
use Rattle.table.specs.Table.{value_in}

-- the values of the path reductions at the vertex v, as eight rows: that of path reduction j stands in slot `get_or slots j 0` of the table
unfoldable pub rows_at : List ℕ → List ℕ → ℕ → ℕ → List Row
rows_at figures slots paths v = eight (tabulate (min paths 8) zero (λ j. value_in figures (get_or slots j 0) v))

-- the slots of the path reductions in use; 8, which is no slot, behind them
unfoldable pub used_slots : List ℕ → ℕ → List ℕ
used_slots slots paths = tabulate (min paths 8) zero (λ j. get_or slots j 0) ++ replicate (8 - min paths 8) 8

-- a result as a word and a slot: an absent one has none, which is slot 8
abbrev pub word_of : Value → ℕ
word_of Absent = 0
word_of (Number x) = x

abbrev pub slot_of : Value → ℕ → ℕ
slot_of Absent k = 8
slot_of (Number x) k = k

-- rows in an array of so many, absent ones behind them; in one of 256
abbrev pub padded : ℕ → List Row → List Row
padded size l = l ++ replicate (size - length l) (row Absent)

abbrev pub many : List Row → List Row
many l = l ++ replicate (256 - length l) (row Absent)

-- how many of the body's rows are rows of the answer: kind 0 has one for each of the n vertices, kind 1 has "one row"
unfoldable pub body_count : List ℕ → ℕ → ℕ
body_count s n = cond (eqb (get_or s 5 0) 0) n 1
