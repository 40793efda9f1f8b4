use mathlib.Core.Path.{◌≡◌}
use mathlib.Core.Bool.{true}
use Rattle.walked.specs.Steps.{agrees}
use Rattle.walked.proofs.is_kept.Given as goal

abbrev pub invariant-loop-i : goal.invariant-loop-i
invariant-loop-i l = agrees l.k.path.keys l.k.best l.w l.i ≡ true
