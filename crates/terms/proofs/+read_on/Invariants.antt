use Prim.Native.Nat.{◌-◌}
use mathlib.Core.Path.{◌≡◌}
use Rattle.progress.specs.Progress.{going}
use Rattle.terms.specs.Terms.{read}
use Rattle.terms.proofs.Reading.{several}
use Rattle.terms.proofs.+read_on.Given as goal

abbrev pub decreases-read_on : goal.decreases-read_on
decreases-read_on l = l.left

abbrev pub invariant-loop : goal.invariant-loop
invariant-loop l = read l.fn.kind l.left l.s (going l.fn.w) ≡ several (l.term.follow - l.counter) l.term.inner (l.left - 1) l.s (going l.w)
