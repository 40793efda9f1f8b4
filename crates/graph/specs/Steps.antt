-- The writer as the program goes. Nothing to believe: `judged` (proofs/Judged) says that the fields are judged as their bytes would be.
use Rattle.std.specs.Prelude.{ℕ}
use Rattle.wire.specs.Header.{then}
use Rattle.graph.specs.declared.EdgeTable.{EdgeTable}
use Rattle.graph.specs.Encode.{table_graph}
use Rattle.graph.specs.Graph.{counts_code, edges_code}

-- the typed form judged by its fields
unfoldable pub table_code : EdgeTable → ℕ
table_code t = then (counts_code t.vertices t.count) (edges_code t.vertices (table_graph t).edges)
