-- What "the same places and the same rows equally often" tells apart, and what not.
use Prim.Native.Nat.{ℕ}
use mathlib.Core.Path.{◌≡◌}
use mathlib.Core.List.{[], ◌∷◌}
use native.Mathlib.Omega.{arith}
use Rattle.walks.specs.Often.{SameEdges, SameGraph, same_edge}
use Rattle.walks.specs.Walks.{Edge, Graph, edge}
use Rattle.walks.proofs.Often.{of_rearranged, swapped}
use Rattle.walks.proofs.Rows.{same_edge_eq, same_edge_refl}

-- not the order of two rows
pub rows_swapped : (e d : Edge) → SameEdges (e ∷ d ∷ []) (d ∷ e ∷ [])
rows_swapped e d = of_rearranged same_edge same_edge_eq same_edge_refl (swapped {l = []})

-- a row twice, and a row with another capacity
pub row_twice : SameEdges (edge 0 1 5 10 ∷ []) (edge 0 1 5 10 ∷ edge 0 1 5 10 ∷ []) → ⊥
row_twice f = let e : ◌≡◌ {A = ℕ} 1 2 = f (edge 0 1 5 10) in omega arith

pub other_capacity : SameEdges (edge 0 1 5 10 ∷ []) (edge 0 1 5 11 ∷ []) → ⊥
other_capacity f = let e : ◌≡◌ {A = ℕ} 1 0 = f (edge 0 1 5 10) in omega arith

-- another number of vertices
abbrev empty : ℕ → Graph
empty n = record { vertices = n; edges = [] }

pub other_places : SameGraph (empty 2) (empty 3) → ⊥
other_places s = let e : ◌≡◌ {A = ℕ} 2 3 = s.vertices_same in omega arith
