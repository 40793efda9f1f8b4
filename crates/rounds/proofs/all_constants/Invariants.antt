use mathlib.Core.Path.{◌≡◌}
use lib.ListN.{length}
use Rattle.rounds.specs.Steps.{Constants}
use Rattle.rounds.proofs.all_constants.Given as goal

abbrev pub invariant-loop-j : goal.invariant-loop-j
invariant-loop-j l = (length l.all ≡ 8) × Constants l.j l.table l.all
