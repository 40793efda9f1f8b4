use mathlib.Core.Path.{◌≡◌}
use mathlib.Core.List.{map}
use lib.ListN.{take}
use lib.Seq.{sets}
use Rattle.graph.specs.Encode.{edges_bytes, row_edge}
use Rattle.graph.proofs.put_rows.Given as goal

abbrev pub invariant-loop-i : goal.invariant-loop-i
invariant-loop-i l = l.out ≡ sets l.initial.out 9 (edges_bytes (map row_edge (take l.i l.rows)))
