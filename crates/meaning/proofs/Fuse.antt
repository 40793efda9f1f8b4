-- The rows of a fused query mean the query, whatever its path reductions mean: where each has at each vertex a value that L allows, the rows are as `Rows L`
-- says. Assumes nothing.
use Prim.Native.Nat.{ℕ, zero, ◌+◌, ◌<◌}
use mathlib.Core.Path.{◌≡◌, refl, sym, ap, ap₂, ◌∙◌, subst}
use mathlib.Core.List.{List, [], ◌∷◌, ◌++◌, map, append_assoc, append-nil}
use native.Mathlib.Omega.{arith}
use lib.Dec.{T}
use lib.ListN.{length, get_or, length-append, length-map}
use lib.Seq.{get_or-append-add}
use Rattle.value.specs.declared.Value.{Value}
use Rattle.value.specs.declared.Value.TheVariants.{Absent, Number}
use Rattle.value.specs.Value.{chosen, operate, reduce}
use Rattle.walks.specs.Lists.{All}
use Rattle.meaning.specs.Meaning.{AtVertices, Means, Rows}
use Rattle.meaning.specs.Plan.{among, entries, expression, final, fuse}
use Rattle.meaning.specs.Query.{At, Kind, PathReduction, Query, QueryTerm, ResultTerm, VertexTerm, each, number, operator, over, over_where, path}
use Rattle.meaning.specs.Query.{path_set}
use Rattle.meaning.specs.Query.{paths, result, single, vertex, reduction_count, written_paths}
use Rattle.meaning.specs.Run.{body_rows, evaluate, reduced, tabulate}
use Rattle.meaning.proofs.Limits.{entries_length}
use Rattle.meaning.proofs.Lists.{all_left, all_right, map_append, tabulate_at, tabulate_length, tabulate_same}
use Rattle.meaning.proofs.Paths.{position_at, put_all_has}

-- the value of a term, of the values of the path reductions
module _ (F : PathReduction → ℕ → Value) (n : ℕ) where
  abbrev value : {κ : Kind} → QueryTerm κ → At κ → Value
  value (path c) v = F c v
  value (path_set c) v = F c v
  value (over o t) v = reduce o (tabulate n zero (value t))
  value (over_where o c t) v = reduce o (chosen (tabulate n zero (value c)) (tabulate n zero (value t)))
  value (number x) v = Number x
  value (operator o s t) v = operate o (value s v) (value t v)

-- THE VALUES MEAN THE TERMS
module _ (L : PathReduction → ℕ → Value → Type 0) (F : PathReduction → ℕ → Value) (n : ℕ) where
  -- the value of c at each vertex is one that L allows
  abbrev Right : PathReduction → Type 0
  Right c = (v : ℕ) → v < n → L c v (F c v)

  -- a vertex term is looked at at a vertex
  abbrev In : (κ : Kind) → At κ → Type 0
  In vertex v = v < n
  In result v = Unit {0}

  -- a table of values that mean a term means it at the vertices
  table_means : (t : VertexTerm) → ((v : ℕ) → v < n → Means L n t v (value F n t v)) → AtVertices n (Means L n t) (tabulate n zero (value F n t))
  table_means t f = (tabulate_length n zero _, λ v h. subst (Means L n t v) (sym (tabulate_at n v (value F n t) Absent h)) (f v h))

  value_means : {κ : Kind} (t : QueryTerm κ) → All Right (paths t) → (v : At κ) → In κ v → Means L n t v (value F n t v)
  value_means (path c) h v i = h.0 v i
  value_means (path_set c) h v i = h.0 v i
  value_means (over o t) h v i = (tabulate n zero (value F n t), table_means t (value_means t h), refl)
  value_means (over_where o c t) h v i = (
    tabulate n zero (value F n c),
    tabulate n zero (value F n t),
    table_means c (value_means c (all_left _ (paths c) (paths t) h)),
    table_means t (value_means t (all_right _ (paths c) (paths t) h)),
    refl,
  )
  value_means (number x) h v i = refl
  value_means (operator o s t) h v i =
      (value F n s v, value F n t v, value_means s (all_left _ (paths s) (paths t) h) v i, value_means t (all_right _ (paths s) (paths t) h) v i, refl)

-- THE FUSED EXPRESSIONS HAVE THE VALUES OF THE TERMS
module _ (F : PathReduction → ℕ → Value) (n : ℕ) (cs : List PathReduction) where
  -- the values of the path reductions cs at v
  abbrev at : ℕ → List Value
  at v = map (λ c. F c v) cs

  -- they stand among cs
  abbrev Has : List PathReduction → Type 0
  Has = All (λ c. T (among c cs))

  -- an expression has the value of its vertex term
  expression_value : (t : VertexTerm) → Has (paths t) → (v : ℕ) → evaluate (at v) (expression cs t) ≡ value F n t v
  expression_value (path c) h v = position_at (λ c. F c v) Absent c cs h.0
  expression_value (path_set c) h v = position_at (λ c. F c v) Absent c cs h.0
  expression_value (number x) h v = refl
  expression_value (operator o s t) h v =
      ap₂ (operate o) (expression_value s (all_left _ (paths s) (paths t) h) v) (expression_value t (all_right _ (paths s) (paths t) h) v)

  -- the results of the entries
  abbrev made : ResultTerm → List Value
  made t = map (reduced at n) (entries cs t)

  made_length : (t : ResultTerm) → length (made t) ≡ reduction_count t
  made_length t = length-map (entries cs t) (reduced at n) ∙ entries_length cs t

  -- the value at an index behind those of ys
  there : (xs ys zs : List Value) (k : ℕ) (y : Value) → length ys ≡ k → xs ≡ ys ++ (y ∷ zs) → get_or xs k Absent ≡ y
  there xs ys zs k y l e =
      ap₂ (λ (r : List Value) (i : ℕ). get_or r i Absent) e (let p : k ≡ length ys + zero = omega (arith, l) in p)
      ∙ get_or-append-add ys (y ∷ zs) zero Absent

  -- where the results of its entries stand from k on, the final expression has the value of the result term
  final_value : (t : ResultTerm) → Has (paths t) → (xs ys zs : List Value) (k : ℕ) → length ys ≡ k → xs ≡ ys ++ (made t ++ zs)
      → evaluate xs (final k t) ≡ value F n t tt
  final_value (over o t) h xs ys zs k l e = there xs ys zs k _ l e ∙ ap (reduce o) (tabulate_same n zero _ _ (expression_value t h))
  final_value (over_where o c t) h xs ys zs k l e =
      there xs ys zs k _ l e
      ∙ ap₂ (λ (cs xs : List Value). reduce o (chosen cs xs)) (tabulate_same n zero _ _ (expression_value c (all_left _ (paths c) (paths t) h)))
      (tabulate_same n zero _ _ (expression_value t (all_right _ (paths c) (paths t) h)))
  final_value (number x) h xs ys zs k l e = refl
  final_value (operator o s t) h xs ys zs k l e =
      ap₂ (operate o) (final_value s (all_left _ (paths s) (paths t) h) xs ys (made t ++ zs) k l first)
      (final_value t (all_right _ (paths s) (paths t) h) xs (ys ++ made s) zs (k + reduction_count s)
      (length-append ys (made s) ∙ ap₂ ◌+◌ l (made_length s)) (first ∙ sym (append_assoc ys (made s) (made t ++ zs))))
    where
      first : xs ≡ ys ++ (made s ++ (made t ++ zs))
      first =
          e
          ∙ ap (λ (r : List Value). ys ++ r)
          (ap (λ (r : List Value). r ++ zs) (map_append (reduced at n) (entries cs s) (entries cs t)) ∙ append_assoc (made s) (made t) zs)

-- THE FUSED ROWS MEAN THE QUERY
module _ (L : PathReduction → ℕ → Value → Type 0) (F : PathReduction → ℕ → Value) (n : ℕ) where
  pub fuse_means : (q : Query) → All (Right L F n) (written_paths q) → Rows L n q (body_rows (fuse q).body (at F n (fuse q).paths) n)
  fuse_means (each t) right =
      subst (AtVertices n (Means L n t)) (sym (tabulate_same n zero _ _ (expression_value F n (fuse (each t)).paths t (put_all_has [] (paths t)))))
      (table_means L F n t (value_means L F n t right))
  fuse_means (single t) right =
      let cs = (fuse (single t)).paths in (
        value F n t tt,
        value_means L F n t right tt tt,
        ap (λ (x : Value). x ∷ []) (final_value F n cs t (put_all_has [] (paths t)) _ [] [] zero refl (sym (append-nil (made F n cs t)))),
      )
