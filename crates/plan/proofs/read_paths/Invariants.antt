use Rattle.std.proofs.Common.{◌≡◌, ◌-◌}
use Rattle.progress.specs.Progress.{going}
use Rattle.plan.specs.Plan.{listed_scan}
use Rattle.plan.proofs.read_paths.Given as goal

abbrev pub invariant-loop : goal.invariant-loop
invariant-loop l =
    listed_scan l.k l.version l.s (going l.initial.w) ≡ listed_scan (l.k - l.counter) l.version l.s (going l.w)
