use Rattle.std.proofs.Common.{◌≡◌, ◌+◌, ◌-◌, ◌*◌, ◌≤◌}
use Rattle.plan.specs.Plan.{chains_end}
use Rattle.plan.proofs.count_at.Given as goal

abbrev pub invariant-loop : goal.invariant-loop
invariant-loop l = (chains_end l.end l.version l.s 7 ≡ chains_end (l.end - l.counter) l.version l.s l.at) × (l.at ≤ 7 + 515 * l.counter)
