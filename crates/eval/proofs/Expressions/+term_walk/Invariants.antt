use Prim.Native.Nat.{◌+◌}
use Rattle.eval.proofs.Expressions.+term_walk.Given as goal

abbrev pub decreases-term : goal.decreases-term
decreases-term l = l.left + l.left + 1

abbrev pub decreases-evaluate : goal.decreases-evaluate
decreases-evaluate l = l.left + l.left
