use mathlib.Core.Path.{◌≡◌}
use mathlib.Core.Bool.{true}
use Rattle.walked.specs.Walked.{unchanged}
use Rattle.walked.proofs.unchanged.Given as goal

abbrev pub invariant-loop-v : goal.invariant-loop-v
invariant-loop-v l = unchanged l.rows l.v l.path l.fn.before ≡ true
