use Rattle.std.proofs.Common.{◌-◌}
use Rattle.random_boards.proofs.with_query.Given as goal

abbrev pub decreases-loop-at : goal.decreases-loop-at
decreases-loop-at l = l.end - l.at
