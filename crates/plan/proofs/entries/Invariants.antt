use Rattle.std.proofs.Common.{◌≡◌, ◌-◌}
use Rattle.progress.specs.Progress.{going}
use Rattle.plan.specs.Plan.{entries_scan}
use Rattle.plan.specs.Steps.{kind_byte}
use Rattle.plan.proofs.entries.Given as goal

abbrev pub invariant-loop : goal.invariant-loop
invariant-loop l =
    entries_scan l.k (kind_byte l.kind) l.s (going l.initial.w) ≡ entries_scan (l.k - l.counter) (kind_byte l.kind) l.s (going l.w)
