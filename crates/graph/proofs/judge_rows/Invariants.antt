use mathlib.Core.Path.{◌≡◌}
use mathlib.Core.List.{map}
use lib.ListN.{drop}
use Rattle.graph.specs.Encode.{row_edge}
use Rattle.graph.specs.Graph.{edges_code}
use Rattle.graph.proofs.judge_rows.Given as goal

abbrev pub invariant-loop-row : goal.invariant-loop-row
invariant-loop-row l = edges_code l.n (drop l.row-index (map row_edge l.rows)) ≡ edges_code l.n (map row_edge l.rows)
