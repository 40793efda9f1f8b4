-- The meaning is a function: a term has at most one value at a vertex, a query at most one list of rows. Assumes nothing.
use Prim.Native.Nat.{ℕ}
use mathlib.Core.Path.{◌≡◌, sym, ap, ap₂, ◌∙◌}
use mathlib.Core.List.{List, [], ◌∷◌}
use native.Mathlib.Omega.{arith}
use lib.ListN.{get_or}
use lib.Seq.{ext_get_or}
use Rattle.value.specs.declared.Value.{Value}
use Rattle.value.specs.declared.Value.TheVariants.{Absent}
use Rattle.value.specs.Value.{chosen, operate, reduce}
use Rattle.walks.specs.Meaning.{value}
use Rattle.walks.specs.Walks.{AllTo, Graph, Network, WalkSet, Within}
use Rattle.walks.proofs.Optimal.{figures_unique}
use Rattle.meaning.specs.Meaning.{AtVertices, Means, PathOver, Rows, Unfused, UnfusedWithin}
use Rattle.meaning.specs.Query.{At, Kind, PathReduction, Query, QueryTerm, each, network_of, number, operator, over, over_where, path, path_set, single}

-- a path reduction has one value at a vertex
pub path_unique : (g : Graph) (W : Network → ℕ → WalkSet) (c : PathReduction) (v : ℕ) (x y : Value) → PathOver g W c v x → PathOver g W c v y
    → x ≡ y
path_unique g W c v x y p q =
    let N = network_of g c in
    p.2 ∙ ap value (figures_unique N c.keys (W N v) p.0 q.0 p.1 q.1) ∙ sym q.2

module _ (L : PathReduction → ℕ → Value → Type 0) (u : (c : PathReduction) (v : ℕ) (x y : Value) → L c v x → L c v y → x ≡ y) (n : ℕ) where
  -- the values at the vertices are one list, where each vertex has one value
  vertices_unique : (M : ℕ → Value → Type 0) → ((v : ℕ) (x y : Value) → M v x → M v y → x ≡ y) → (xs ys : List Value)
      → AtVertices n M xs → AtVertices n M ys → xs ≡ ys
  vertices_unique M m xs ys p q =
      ext_get_or Absent xs ys (p.0 ∙ sym q.0)
      (λ i h. m i (get_or xs i Absent) (get_or ys i Absent) (p.1 i (omega (arith, p.0))) (q.1 i (omega (arith, p.0))))

  -- a term has one value
  pub means_unique : {κ : Kind} (t : QueryTerm κ) (v : At κ) (x y : Value) → Means L n t v x → Means L n t v y → x ≡ y
  means_unique (path c) v x y p q = u c v x y p q
  means_unique (path_set c) v x y p q = u c v x y p q
  means_unique (over o t) v x y p q = p.2 ∙ ap (reduce o) (vertices_unique (Means L n t) (means_unique t) p.0 q.0 p.1 q.1) ∙ sym q.2
  means_unique (over_where o c t) v x y p q =
      p.4
      ∙ ap₂ (λ (cs xs : List Value). reduce o (chosen cs xs)) (vertices_unique (Means L n c) (means_unique c) p.0 q.0 p.2 q.2)
      (vertices_unique (Means L n t) (means_unique t) p.1 q.1 p.3 q.3)
      ∙ sym q.4
  means_unique (number z) v x y p q = p ∙ sym q
  means_unique (operator o s t) v x y p q =
      p.4 ∙ ap₂ (operate o) (means_unique s v p.0 q.0 p.2 q.2) (means_unique t v p.1 q.1 p.3 q.3) ∙ sym q.4

  -- the rows of a query
  rows_unique : (q : Query) (xs ys : List Value) → Rows L n q xs → Rows L n q ys → xs ≡ ys
  rows_unique (each t) xs ys p q = vertices_unique (Means L n t) (means_unique t) xs ys p q
  rows_unique (single t) xs ys p q = p.2 ∙ ap (λ (x : Value). x ∷ []) (means_unique t tt p.0 q.0 p.1 q.1) ∙ sym q.2

-- A QUERY HAS ONE MEANING, over all walks and over walks of at most r edges
pub unfused_unique : (g : Graph) (q : Query) (xs ys : List Value) → Unfused g q xs → Unfused g q ys → xs ≡ ys
unfused_unique g = rows_unique _ (path_unique g AllTo) g.vertices

pub within_unique : (g : Graph) (r : ℕ) (q : Query) (xs ys : List Value) → UnfusedWithin g r q xs → UnfusedWithin g r q ys → xs ≡ ys
within_unique g r = rows_unique _ (path_unique g (λ N v. Within N r v)) g.vertices
