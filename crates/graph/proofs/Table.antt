-- The edges that a typed form means. Assumes nothing.
use Prim.Native.Nat.{ℕ, ◌<◌, min}
use mathlib.Core.Path.{◌≡◌, refl, ap, ◌∙◌}
use mathlib.Core.List.{List, [], ◌∷◌, map}
use lib.ListN.{length, get_or, take, length-map, length-take, get_or-map}
use lib.Seq.{get_or-take, take_at}
use Rattle.walks.specs.Walks.{Edge, Graph, edge_at}
use Rattle.graph.specs.declared.EdgeRow.{EdgeRow}
use Rattle.graph.specs.Encode.{row_edge, table_graph}
use Rattle.graph.specs.Graph.{blank_row, filled, row_of, table_of}

-- how many: the count, or all rows where there are fewer
pub table_count : (m : ℕ) (rows : List EdgeRow) → length (map row_edge (take m rows)) ≡ min m (length rows)
table_count m rows = length-map (take m rows) row_edge ∙ length-take m rows

-- edge i is row i
pub table_there : (m : ℕ) (rows : List EdgeRow) (i : ℕ) → i < m → edge_at (map row_edge (take m rows)) i ≡ row_edge (get_or rows i blank_row)
table_there m rows i h = get_or-map row_edge (take m rows) i blank_row ∙ ap row_edge (get_or-take m rows i blank_row h)

edges_typed : (es : List Edge) → map row_edge (map row_of es) ≡ es
edges_typed [] = refl
edges_typed (e ∷ es) = ap (λ (l : List Edge). e ∷ l) (edges_typed es)

-- the typed form of a graph means that graph
pub typed : (g : Graph) → table_graph (table_of g) ≡ g
unfolding table_of filled
typed g = rw (take_at (map row_of g.edges) _ (length g.edges) (length-map g.edges row_of), edges_typed g.edges)
