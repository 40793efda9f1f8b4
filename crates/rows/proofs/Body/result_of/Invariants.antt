use Prim.Native.Nat.{◌<◌}
use mathlib.Core.Path.{◌≡◌}
use Rattle.eval.specs.Steps.{entry_end}
use Rattle.rows.specs.Steps.{rows_at}
use Rattle.rows.proofs.Laws.{reached}
use Rattle.rows.proofs.Body.result_of.Given as goal

abbrev pub invariant-loop-u : goal.invariant-loop-u
invariant-loop-u l =
    (l.partial ≡ reached l.self.plan.now (rows_at l.self.figures.now l.self.slots.now 8) l.self.n l.reduction l.at l.u)
    × (0 < l.u → l.next ≡ entry_end l.self.plan.now l.at)
