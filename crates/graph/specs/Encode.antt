-- The bytes of a graph (document 01: map `LPM`), the meaning of its typed form, and the writer's reply.
use Rattle.std.specs.Prelude.{ℕ, List, [], ◌∷◌, ◌++◌, map, length, take}
use Rattle.walks.specs.Walks.{Edge, Graph, edge}
use Rattle.wire.specs.Header.{header_bytes}
use Rattle.wire.specs.Wire.{Reply, fitted, le16, unless}
use Rattle.graph.specs.declared.EdgeRow.{EdgeRow}
use Rattle.graph.specs.declared.EdgeTable.{EdgeTable}
use Rattle.graph.specs.Graph.{graph_code}

-- "rows of four 16-bit numbers: from, to, seconds, crate size"
abbrev pub edge_bytes : Edge → List ℕ
edge_bytes e = le16 e.from ++ le16 e.to ++ le16 e.weight ++ le16 e.capacity

-- "m rows" in turn
unfoldable pub edges_bytes : List Edge → List ℕ
edges_bytes [] = []
edges_bytes (e ∷ es) = edge_bytes e ++ edges_bytes es

-- "places n (16 bits ..), passages m (16 bits ..)"
abbrev pub head_bytes : ℕ → ℕ → List ℕ
head_bytes n m = header_bytes 0x4d 1 ++ le16 n ++ le16 m

-- THE BYTES OF A GRAPH
abbrev pub encode : Graph → List ℕ
encode g = head_bytes g.vertices (length g.edges) ++ edges_bytes g.edges

-- the meaning of the typed form: a row as an edge
abbrev pub row_edge : EdgeRow → Edge
row_edge r = edge r.from r.to r.weight r.capacity

-- its first `count` rows are the edges
abbrev pub table_graph : EdgeTable → Graph
table_graph t = record { vertices = t.vertices; edges = map row_edge (take t.count t.rows) }

-- its bytes, with its own count (one above 1,024 included, which no graph of it has)
unfoldable pub table_bytes : EdgeTable → List ℕ
table_bytes t = head_bytes t.vertices t.count ++ edges_bytes (table_graph t).edges

-- "A writer judges what it is handed as the reader of its bytes would, then 15"
unfoldable pub write_reply : EdgeTable → ℕ → Reply
write_reply t room = unless (graph_code (table_bytes t)) (fitted (table_bytes t) room)
