use Prim.Native.Nat.{min}
use mathlib.Core.Path.{◌≡◌}
use lib.ListN.{length}
use Rattle.walked.specs.Walked.{figures_at, sources_of, walks_to}
use Rattle.walked.proofs.Laws.{goes_on}
use Rattle.walked.proofs.figures_at.Given as goal

abbrev pub invariant-loop-passed : goal.invariant-loop-passed
invariant-loop-passed l = (length l.best ≡ 3)
    × (goes_on l.path.keys (min l.path.count 3) (walks_to l.rows (sources_of l.path) l.vertex l.most) l.best l.passed
    ≡ figures_at l.rows l.path l.vertex l.most)
