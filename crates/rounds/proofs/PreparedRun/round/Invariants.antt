use mathlib.Core.Path.{◌≡◌}
use lib.ListN.{length}
use Rattle.rounds.specs.Prepared.{graph_in}
use Rattle.rounds.proofs.Joint.{Upto}
use Rattle.rounds.proofs.PreparedRun.round.Given as goal

abbrev pub invariant-loop-j : goal.invariant-loop-j
invariant-loop-j l = Upto (graph_in l.self) l.self.paths l.self.table l.self.few l.r l.j l.figures l.changed
    × (length l.figures ≡ length l.initial.figures) × (length l.work ≡ length l.initial.work)
