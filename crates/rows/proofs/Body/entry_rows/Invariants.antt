use mathlib.Core.Path.{◌≡◌}
use Rattle.value.specs.declared.Value.TheVariants.{Absent}
use Rattle.eval.specs.Steps.{row}
use Rattle.eval.proofs.Fill.{filled}
use Rattle.rows.specs.Steps.{rows_at}
use Rattle.rows.proofs.Laws.{entry_row}
use Rattle.rows.proofs.Body.entry_rows.Given as goal

abbrev pub invariant-loop-v : goal.invariant-loop-v
invariant-loop-v g l = l.rows ≡ filled g.row.N (entry_row l.self.plan.now (rows_at l.self.figures.now l.self.slots.now 8) l.at) (row Absent) l.v
