-- THE UNFUSED VALUE (document 01: "worked out on the question's own terms, without worksheet or rounds"), and what an outcome must be.
use Rattle.std.specs.Prelude.{ℕ, suc, ◌*◌, ◌≤◌, ◌<◌, ◌≡◌, List, [], ◌∷◌, length, get_or}
use Rattle.std.proofs.Math.Option.{Option}
use Rattle.value.specs.declared.Value.{Value}
use Rattle.value.specs.declared.Value.TheVariants.{Absent, Number}
use Rattle.value.specs.Value.{chosen, operate, reduce}
use Rattle.walks.specs.Lists.{All}
use Rattle.walks.specs.Meaning.{Figures, value}
use Rattle.walks.specs.Walks.{AllTo, Graph, Network, WalkSet, Within}
use Rattle.meaning.specs.Query.{At, Kind, PathReduction, Query, QueryTerm, each, network_of, number, operator, over, over_where, path, path_set, single}
use Rattle.meaning.specs.Query.{written_paths}

-- "each chain where it is written, over all walks": W gives the set of walks to a vertex, on a network
abbrev pub PathOver : Graph → (Network → ℕ → WalkSet) → PathReduction → ℕ → Value → Type 0
PathOver g W c v x = (o : Option (List ℕ)) × Figures (network_of g c) c.keys (W (network_of g c) v) o × (x ≡ value o)

abbrev pub PathMeans : Graph → PathReduction → ℕ → Value → Type 0
PathMeans g = PathOver g AllTo

-- "After r rounds a chain's value is that over walks of at most r passages"
abbrev pub PathWithin : Graph → ℕ → PathReduction → ℕ → Value → Type 0
PathWithin g r = PathOver g (λ N v. Within N r v)

-- the values at the n vertices in order, where M says what there is at a vertex
abbrev pub AtVertices : ℕ → (ℕ → Value → Type 0) → List Value → Type 0
AtVertices n M xs = (length xs ≡ n) × ((v : ℕ) → v < n → M v (get_or xs v Absent))

-- what a term is worth on n vertices, where L says it of a path reduction at a vertex: "a reduction goes over all n places", or over those that count by a
-- condition (document 02, a); "a literal is its number, at every place in a place term; an operator joins the values of its two terms, at the same place in a
-- place term"
abbrev pub Means : (PathReduction → ℕ → Value → Type 0) → ℕ → {κ : Kind} → QueryTerm κ → At κ → Value → Type 0
Means L n (path c) v x = L c v x
Means L n (path_set c) v x = L c v x
Means L n (over o t) v x = (xs : List Value) × AtVertices n (Means L n t) xs × (x ≡ reduce o xs)
Means L n (over_where o c t) v x =
    (cs : List Value) × (xs : List Value) × AtVertices n (Means L n c) cs × AtVertices n (Means L n t) xs × (x ≡ reduce o (chosen cs xs))
Means L n (number y) v x = x ≡ Number y
Means L n (operator o s t) v x = (a : Value) × (b : Value) × Means L n s v a × Means L n t v b × (x ≡ operate o a b)

-- the rows of an answer: "n rows for kind 0 or one row for kind 1"
abbrev pub Rows : (PathReduction → ℕ → Value → Type 0) → ℕ → Query → List Value → Type 0
Rows L n (each t) xs = AtVertices n (Means L n t) xs
Rows L n (single t) xs = (x : Value) × Means L n t tt x × (xs ≡ x ∷ [])

-- THE MEANING OF A QUERY over all walks, and over walks of at most r edges
abbrev pub Unfused : Graph → Query → List Value → Type 0
Unfused g = Rows (PathMeans g) g.vertices

abbrev pub UnfusedWithin : Graph → ℕ → Query → List Value → Type 0
UnfusedWithin g r = Rows (PathWithin g r) g.vertices

-- an answer: the rounds reported, and the rows
pub record Outcome : Type 0 where
  pub rounds : ℕ
  pub rows : List Value

-- "each figure of [a] chain at each place is the same over walks of at most r [+ 1] passages as over walks of at most r"
abbrev pub Same : Graph → ℕ → PathReduction → Type 0
Same g r c =
    (v : ℕ) → v < g.vertices → (a b : Option (List ℕ)) → Figures (network_of g c) c.keys (Within (network_of g c) (suc r) v) a
    → Figures (network_of g c) c.keys (Within (network_of g c) r v) b → a ≡ b

-- "the rounds reported .. are the smallest r, one or more, for which" this holds of each path reduction
pub record Smallest (g : Graph) (cs : List PathReduction) (r : ℕ) : Type 0 where
  pub before : ℕ
  pub one_more : r ≡ suc before
  pub same : All (Same g before) cs
  pub none_smaller : (j : ℕ) → j < before → All (Same g j) cs → ⊥

-- WHAT THE OUTCOME OF A QUERY MUST BE: its rows, and its rounds
pub record Correct (g : Graph) (q : Query) (o : Outcome) : Type 0 where
  pub rows_mean : Unfused g q o.rows
  pub smallest : Smallest g (written_paths q) o.rounds
  pub at_most : o.rounds ≤ 2 * g.vertices
