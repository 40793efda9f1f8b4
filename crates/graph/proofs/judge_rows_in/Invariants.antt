use mathlib.Core.Path.{◌≡◌}
use lib.ListN.{drop}
use Rattle.graph.specs.Graph.{edges_code, edges_in}
use Rattle.graph.proofs.judge_rows_in.Given as goal

abbrev pub invariant-loop-i : goal.invariant-loop-i
invariant-loop-i l = edges_code l.n (drop l.i (edges_in l.s)) ≡ edges_code l.n (edges_in l.s)
