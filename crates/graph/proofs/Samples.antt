-- Map A of document 01 byte by byte, and maps that are refused, each with its number, written by hand.
use Prim.Native.Nat.{ℕ}
use mathlib.Core.Path.{◌≡◌, refl}
use mathlib.Core.List.{List, [], ◌∷◌, ◌++◌, map}
use Rattle.walks.specs.Walks.{Graph, edge}
use Rattle.wire.specs.Header.{header_code}
use Rattle.graph.specs.Encode.{edges_bytes, encode}
use Rattle.graph.specs.Graph.{counts_code, edge_code, edges_code, edges_in, graph_code, graph_of}

-- "Map A: 4 places; 0→1 5 s size 10; 0→2 2 s size 4; 2→1 3 s size 20; 1→3 0 s size 7."
abbrev bytes_a : List ℕ
bytes_a =
    0x4c ∷ 0x50 ∷ 0x4d ∷ 1 ∷ 0 ∷ 4 ∷ 0 ∷ 4 ∷ 0
    ∷ 0 ∷ 0 ∷ 1 ∷ 0 ∷ 5 ∷ 0 ∷ 10 ∷ 0
    ∷ 0 ∷ 0 ∷ 2 ∷ 0 ∷ 2 ∷ 0 ∷ 4 ∷ 0
    ∷ 2 ∷ 0 ∷ 1 ∷ 0 ∷ 3 ∷ 0 ∷ 20 ∷ 0
    ∷ 1 ∷ 0 ∷ 3 ∷ 0 ∷ 0 ∷ 0 ∷ 7 ∷ 0 ∷ []

abbrev graph_a : Graph
graph_a = record { vertices = 4; edges = edge 0 1 5 10 ∷ edge 0 2 2 4 ∷ edge 2 1 3 20 ∷ edge 1 3 0 7 ∷ [] }

-- its bytes are accepted, mean it, and are its encoding
pub graph_a_read : (graph_code bytes_a ≡ 0) × (graph_of bytes_a ≡ graph_a) × (encode graph_a ≡ bytes_a)
unfolding graph_code header_code counts_code edges_in edges_code edge_code edges_bytes
graph_a_read = (refl, refl, refl)

-- n vertices and m edges, of two bytes each, and the bytes behind them
abbrev headed : ℕ → ℕ → ℕ → ℕ → List ℕ → List ℕ
headed n n' m m' l = 0x4c ∷ 0x50 ∷ 0x4d ∷ 1 ∷ 0 ∷ n ∷ n' ∷ m ∷ m' ∷ l

-- one row, with low bytes only but for the capacity
abbrev row : ℕ → ℕ → ℕ → ℕ → List ℕ
row from to low high = from ∷ 0 ∷ to ∷ 0 ∷ 0 ∷ 0 ∷ low ∷ high ∷ []

-- 4: no vertex, 257 vertices, before 5; 5: 1,025 edges, before 6; 6: a byte too few, too many; 7: to is n; 8: capacities 0 and 65,535, not 65,534; 256
-- vertices; from before capacity; the first row first; 1: eight bytes; 2; 3
pub graph_numbers : map graph_code
    (headed 0 0 255 255 [] ∷ headed 1 1 255 255 [] ∷ headed 1 0 1 4 [] ∷ headed 2 0 1 0 [] ∷ headed 2 0 0 0 (0 ∷ []) ∷ headed 2 0 1 0 (row 0 2 1 0)
    ∷ headed 2 0 1 0 (row 0 1 0 0) ∷ headed 2 0 1 0 (row 0 1 255 255) ∷ headed 2 0 1 0 (row 0 1 254 255) ∷ headed 0 1 1 0 (row 255 255 1 0)
    ∷ headed 2 0 1 0 (row 2 0 0 0) ∷ headed 2 0 2 0 (row 0 1 0 0 ++ row 2 0 1 0)
    ∷ (0x4c ∷ 0x50 ∷ 0x4d ∷ 1 ∷ 0 ∷ 1 ∷ 0 ∷ 0 ∷ []) ∷ (0x4c ∷ 0x50 ∷ 0x51 ∷ 1 ∷ 0 ∷ 1 ∷ 0 ∷ 0 ∷ 0 ∷ [])
    ∷ (0x4c ∷ 0x50 ∷ 0x4d ∷ 2 ∷ 0 ∷ 1 ∷ 0 ∷ 0 ∷ 0 ∷ []) ∷ [])
    ≡ 4 ∷ 4 ∷ 5 ∷ 6 ∷ 6 ∷ 7 ∷ 8 ∷ 8 ∷ 0 ∷ 0 ∷ 7 ∷ 8 ∷ 1 ∷ 2 ∷ 3 ∷ []
unfolding graph_code header_code counts_code edges_in edges_code edge_code
graph_numbers = refl
