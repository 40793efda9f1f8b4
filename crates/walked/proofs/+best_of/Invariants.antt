use Prim.Native.Nat.{◌-◌}
use mathlib.Core.Path.{◌≡◌}
use Rattle.walked.proofs.Laws.{over}
use Rattle.walked.proofs.+best_of.Given as goal

abbrev pub invariant-loop-i : goal.invariant-loop-i
invariant-loop-i l = l.best ≡ over l.rows l.k l.w (l.left - 1) l.initial.best l.i

abbrev pub decreases-best_of : goal.decreases-best_of
decreases-best_of l = l.left
