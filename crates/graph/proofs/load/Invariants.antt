use Prim.Native.Nat.{zero}
use mathlib.Core.Path.{◌≡◌}
use Rattle.meaning.specs.Run.{tabulate}
use Rattle.graph.specs.Graph.{edge_in, filled}
use Rattle.graph.proofs.load.Given as goal

abbrev pub invariant-loop-i : goal.invariant-loop-i
invariant-loop-i l = l.rows ≡ filled (tabulate l.i zero (edge_in l.s))
