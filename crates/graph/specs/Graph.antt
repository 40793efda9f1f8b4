-- How the bytes of a graph are read (document 01: map `LPM`): the refusal by the first number in the document's order, and the typed form.
use Rattle.std.specs.Prelude.{ℕ, zero, ◌+◌, ◌-◌, ◌*◌, cond, List, [], ◌∷◌, ◌++◌, map, leb, ltb, eqb, length, replicate}
use Rattle.meaning.specs.Run.{tabulate}
use Rattle.walks.specs.Walks.{Edge, Graph, edge}
use Rattle.wire.specs.Header.{header_code, then}
use Rattle.wire.specs.Wire.{at16}
use Rattle.graph.specs.declared.EdgeRow.{EdgeRow}
use Rattle.graph.specs.declared.EdgeTable.{EdgeTable}

-- "then m rows of four 16-bit numbers: from, to, seconds, crate size": row i, behind nine bytes
abbrev pub edge_in : List ℕ → ℕ → Edge
edge_in s i = edge (at16 s (9 + 8 * i)) (at16 s (9 + 8 * i + 2)) (at16 s (9 + 8 * i + 4)) (at16 s (9 + 8 * i + 6))

-- the m rows, where m is the field at 7
unfoldable pub edges_in : List ℕ → List Edge
edges_in s = tabulate (at16 s 7) zero (edge_in s)

-- the graph of some bytes; it counts where they are accepted
abbrev pub graph_of : List ℕ → Graph
graph_of s = record { vertices = at16 s 5; edges = edges_in s }

-- "4 | places | n is 0 or above 256", "5 | passages | m above 1,024"
unfoldable pub counts_code : ℕ → ℕ → ℕ
counts_code n m = cond (eqb n 0) 4 (cond (ltb 256 n) 4 (cond (ltb 1024 m) 5 0))

-- "6 | length | map length differs": "Length is 9 + 8 × m exactly."
abbrev pub length_code : List ℕ → ℕ
length_code s = cond (eqb (length s) (9 + 8 * at16 s 7)) 0 6

-- a row: "from, to, crate". "7 | no such place | a row's from or to is n or more", "8 | crate | crate size 0 or 65,535"
unfoldable pub edge_code : ℕ → Edge → ℕ
edge_code n e =
    cond (leb n e.from) 7 (cond (leb n e.to) 7
    (cond (eqb e.capacity 0) 8 (cond (eqb e.capacity 65535) 8 0)))

-- "its rows in turn"
unfoldable pub edges_code : ℕ → List Edge → ℕ
edges_code n [] = 0
edges_code n (e ∷ es) = then (edge_code n e) (edges_code n es)

-- the number of the first refusal, 0 where the bytes are accepted: "header ..., 2, 3; a map then 4, 5, 6, and its rows in turn"
unfoldable pub graph_code : List ℕ → ℕ
graph_code s = then (header_code 0x4d 1 9 s) (then (counts_code (at16 s 5) (at16 s 7)) (then (length_code s) (edges_code (at16 s 5) (edges_in s))))

-- the typed form of an edge
abbrev pub row_of : Edge → EdgeRow
row_of e = record { from = e.from; to = e.to; weight = e.weight; capacity = e.capacity }

-- a row of nothing
abbrev pub blank_row : EdgeRow
blank_row = record { from = 0; to = 0; weight = 0; capacity = 0 }

-- the first of 1,024 rows, and nothing behind them
unfoldable pub filled : List Edge → List EdgeRow
filled es = map row_of es ++ replicate (1024 - length es) blank_row

-- the typed form of a graph
unfoldable pub table_of : Graph → EdgeTable
table_of g = record { vertices = g.vertices; count = length g.edges; rows = filled g.edges }

-- the typed form of accepted bytes
abbrev pub graph_reading : List ℕ → EdgeTable
graph_reading s = table_of (graph_of s)
