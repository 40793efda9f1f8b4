use mathlib.Core.Path.{◌≡◌}
use lib.ListN.{length}
use Rattle.rounds.specs.Prepared.{graph_in}
use Rattle.rounds.specs.Run.{AllStand}
use Rattle.rounds.proofs.Joint.{Unquiet}
use Rattle.rounds.proofs.PreparedRun.rounds.Given as goal

abbrev pub invariant-loop-r : goal.invariant-loop-r
invariant-loop-r l = AllStand (graph_in l.self) l.self.paths l.self.table l.r l.figures
    × Unquiet (graph_in l.self) l.self.paths l.self.table l.self.few l.r
    × (length l.figures ≡ length l.initial.figures) × (length l.work ≡ length l.initial.work)
