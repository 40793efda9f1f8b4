use mathlib.Core.Path.{◌≡◌}
use lib.ListN.{length}
use Rattle.rounds.specs.Prepared.{graph_in}
use Rattle.rounds.specs.Run.{AllStand}
use Rattle.rounds.proofs.PreparedRun.initialize_all.Given as goal

abbrev pub invariant-loop-j : goal.invariant-loop-j
invariant-loop-j l = AllStand (graph_in l.self) l.j l.self.table 0 l.figures × (length l.figures ≡ length l.initial.figures)
