use mathlib.Core.Path.{◌≡◌}
use Rattle.eval.specs.Steps.{entries_end}
use Rattle.eval.proofs.Fill.{filled}
use Rattle.rows.specs.Steps.{rows_at}
use Rattle.rows.proofs.Laws.{result_slot, result_word}
use Rattle.rows.proofs.Body.final_of.Given as goal

abbrev pub invariant-loop-k : goal.invariant-loop-k
invariant-loop-k l =
    (l.next ≡ entries_end l.k l.self.plan.now l.at)
    × (l.words ≡ filled 8 (result_word l.self.plan.now (rows_at l.self.figures.now l.self.slots.now 8) l.self.n l.at) 0 l.k)
    × (l.places ≡ filled 8 (result_slot l.self.plan.now (rows_at l.self.figures.now l.self.slots.now 8) l.self.n l.at) 8 l.k)
