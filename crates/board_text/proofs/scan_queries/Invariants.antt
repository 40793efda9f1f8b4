use Rattle.std.proofs.Common.{◌≡◌, ◌-◌}
use Rattle.progress.specs.Progress.{scan_of, started}
use Rattle.board_text.specs.Steps.{joint_scan}
use Rattle.board_text.proofs.scan_queries.Given as goal

abbrev pub invariant-loop : goal.invariant-loop
invariant-loop l = joint_scan l.count l.queries (started 0) ≡ joint_scan (l.count - l.counter) l.rest (scan_of l.joint)
