-- THE PARTS OF A LEGAL QUERY'S NODES ARE THE NODES OF ITS FUSED PLAN. Assumes nothing.
use Prim.Native.Nat.{ℕ, zero, suc, ◌+◌, ◌%◌}
use mathlib.Core.Path.{◌≡◌, refl, sym, ap, ap₂, ◌∙◌}
use mathlib.Core.Bool.{Bool, true, false, cond, ◌||◌}
use mathlib.Core.List.{List, [], ◌∷◌, ◌++◌, map, append_assoc, append-nil}
use native.Mathlib.Omega.{arith}
use lib.Dec.{T}
use Rattle.meaning.specs.Limits.{PathFits, TermFits}
use Rattle.meaning.specs.Plan.{VertexReduction, among, entries, expression, final, position, same_path}
use Rattle.meaning.specs.Query.{Kind, PathReduction, QueryTerm, ResultTerm, VertexTerm, number, operator, over, over_where, path, path_set, paths}
use Rattle.meaning.specs.Query.{reduction_count, result, vertex}
use Rattle.meaning.proofs.Lists.{all_left, all_right}
use Rattle.nodes.specs.declared.Term.{Term}
use Rattle.nodes.specs.declared.Term.TheVariants.{Apply, Entry, EntryIndex, PathIndex, Reduce, ReduceWhere, ResultApply}
use Rattle.nodes.specs.Tree.{apply_node, entry_nodes, final_nodes, literal_node, query_nodes}
use Rattle.plan.specs.Text.{reduction_byte}
use Rattle.plan_form.specs.Form.{condition_nodes, entries_nodes}
use Rattle.terms.specs.Terms.{literal_tag}
use Rattle.packed_path.specs.declared.PackedPath.{PackedPath}
use Rattle.packed_path.specs.Packed.{packed}
use Rattle.packed_path.proofs.Packed.{same_as}
use Rattle.term_text.specs.Text.{of_kind}
use Rattle.walks.specs.Lists.{All}
use Rattle.fusion.specs.Steps.{entries_term, entry_term, final_term, index_of, reduces, size}
use Rattle.fusion.proofs.Selected.{reduced, reduced_append, selected, selected_append}

-- the number of a path reduction stands in the table where the path reduction stands in the list
pub index_position : (c : PathReduction) → PathFits 256 c → (cs : List PathReduction) → All (PathFits 256) cs → (rest : List PackedPath)
    → T (among c cs) → index_of (packed c) (map packed cs ++ rest) ≡ position c cs
unfolding index_of
index_position c f [] g rest t = absurd t
index_position c f (d ∷ ds) g rest t = rw (same_as c d f g.0) (go (same_path c d) t (index_position c f ds g.1 rest))
  where
    go : (b : Bool) → T (b || among c ds) → (T (among c ds) → index_of (packed c) (map packed ds ++ rest) ≡ position c ds)
        → cond b zero (suc (index_of (packed c) (map packed ds ++ rest))) ≡ cond b zero (suc (position c ds))
    go true t h = refl
    go false t h = ap suc (h t)

-- a term has as many reductions among its nodes
literal_reduces : (κ : Kind) (x : ℕ) → reduced (literal_node (literal_tag (of_kind κ)) x ∷ []) ≡ 0
unfolding reduced reduces literal_node literal_tag
literal_reduces vertex x = refl
literal_reduces result x = refl

operator_reduces : (κ : Kind) (o : ℕ) (l : List Term) → reduced (apply_node (literal_tag (of_kind κ)) o ∷ l) ≡ reduced l
unfolding reduced reduces apply_node literal_tag
operator_reduces vertex o l = omega arith
operator_reduces result o l = omega arith

term_reduced : (κ : Kind) (t : QueryTerm κ) → reduced (query_nodes κ t) ≡ reduction_count t
unfolding reduced reduces
term_reduced κ (path c) = refl
term_reduced κ (path_set c) = refl
term_reduced κ (over o t) = omega (arith, term_reduced vertex t)
term_reduced κ (over_where o c t) =
    omega (arith, reduced_append (query_nodes vertex c) (query_nodes vertex t), term_reduced vertex c, term_reduced vertex t)
term_reduced κ (number x) = literal_reduces κ x
term_reduced κ (operator o s t) =
    operator_reduces κ o (query_nodes κ s ++ query_nodes κ t)
    ∙ (let e : reduced (query_nodes κ s ++ query_nodes κ t) ≡ reduction_count s + reduction_count t =
    omega (arith, reduced_append (query_nodes κ s) (query_nodes κ t), term_reduced κ s, term_reduced κ t) in e)

-- nothing of a vertex term is in the final expression, and so nothing of two
vertices_final : (k : ℕ) (s t : VertexTerm) → selected final_term k (query_nodes vertex s) ≡ []
    → selected final_term (k + reduced (query_nodes vertex s)) (query_nodes vertex t) ≡ []
    → selected final_term k (query_nodes vertex s ++ query_nodes vertex t) ≡ []
vertices_final k s t p q = selected_append final_term k (query_nodes vertex s) (query_nodes vertex t) ∙ ap₂ ◌++◌ p q

pub vertex_final : (k : ℕ) (t : VertexTerm) → selected final_term k (query_nodes vertex t) ≡ []
unfolding selected final_term size apply_node literal_node literal_tag
vertex_final k (path c) = refl
vertex_final k (path_set c) = refl
vertex_final k (number x) = refl
vertex_final k (operator o s t) = vertices_final (k + reduces (Apply o)) s t (vertex_final (k + reduces (Apply o)) s)
    (vertex_final (k + reduces (Apply o) + reduced (query_nodes vertex s)) t)

-- THE FINAL EXPRESSION: the reductions are numbered as written
pub result_final : (k : ℕ) (t : ResultTerm) → selected final_term k (query_nodes result t) ≡ final_nodes (final k t)
unfolding selected final_term size reduces apply_node literal_node literal_tag
result_final k (over o t) = ap (λ (l : List Term). EntryIndex k ∷ l) (vertex_final (k + 1) t)
result_final k (over_where o c t) =
    ap (λ (l : List Term). EntryIndex k ∷ l)
    (vertices_final (k + 1) c t (vertex_final (k + 1) c) (vertex_final (k + 1 + reduced (query_nodes vertex c)) t))
result_final k (number x) = refl
result_final k (operator o s t) =
    let e : k + 0 ≡ k = omega arith in
    ap (λ (l : List Term). ResultApply o ∷ l)
    (selected_append final_term (k + 0) (query_nodes result s) (query_nodes result t)
    ∙ ap₂ ◌++◌ (ap (λ (j : ℕ). selected final_term j (query_nodes result s)) e ∙ result_final k s)
    (ap₂ (λ (i j : ℕ). selected final_term (i + j) (query_nodes result t)) e (term_reduced result s) ∙ result_final (k + reduction_count s) t))

-- the nodes of two lists of entries are one behind the other
entries_append : (es ds : List (VertexReduction ℕ)) → entries_nodes (es ++ ds) ≡ entries_nodes es ++ entries_nodes ds
entries_append [] ds = refl
entries_append (e ∷ es) ds =
    let a = condition_nodes e.condition in
    let b = entry_nodes e.body in
    ap (λ (l : List Term). Entry (reduction_byte e.reduction e.condition) ∷ l)
    (ap (λ (l : List Term). a ++ (b ++ l)) (entries_append es ds)
    ∙ ap (λ (l : List Term). a ++ l) (sym (append_assoc b (entries_nodes es) (entries_nodes ds)))
    ∙ sym (append_assoc a (b ++ entries_nodes es) (entries_nodes ds)))

-- over the different path reductions of the query
module _ (cs : List PathReduction) (legal : All (PathFits 256) cs) (rest : List PackedPath) where
  abbrev table : List PackedPath
  table = map packed cs ++ rest

  -- they are among them
  abbrev Known : List PathReduction → Type 0
  Known = All (λ c. T (among c cs))

  -- A VERTEX TERM IN AN ENTRY: each path reduction by its position
  pub vertex_entry : (k : ℕ) (t : VertexTerm) → TermFits 256 t → Known (paths t)
      → selected (entries_term table) k (query_nodes vertex t) ≡ entry_nodes (expression cs t)
  unfolding selected entry_term size apply_node literal_node literal_tag
  vertex_entry k (path c) f h = ap (λ (i : ℕ). PathIndex i ∷ []) (index_position c f.0 cs legal rest h.0)
  vertex_entry k (path_set c) f h = ap (λ (i : ℕ). PathIndex i ∷ []) (index_position c f.0 cs legal rest h.0)
  vertex_entry k (number x) f h = refl
  vertex_entry k (operator o s t) f h =
      let j = k + reduces (Apply o) in
      ap (λ (l : List Term). Apply o ∷ l)
      (selected_append (entries_term table) j (query_nodes vertex s) (query_nodes vertex t)
      ∙ ap₂ ◌++◌ (vertex_entry j s f.2 (all_left _ (paths s) (paths t) h))
      (vertex_entry (j + reduced (query_nodes vertex s)) t f.3 (all_right _ (paths s) (paths t) h)))

  -- THE ENTRIES: one for each reduction, in written order
  pub result_entries : (k : ℕ) (t : ResultTerm) → TermFits 256 t → Known (paths t)
      → selected (entries_term table) k (query_nodes result t) ≡ entries_nodes (entries cs t)
  unfolding selected entry_term size apply_node literal_node literal_tag
  result_entries k (over o t) f h =
      ap (λ (l : List Term). Entry o ∷ l)
      (vertex_entry (k + reduces (Reduce o)) t f.2 h ∙ sym (append-nil (entry_nodes (expression cs t))))
  result_entries k (over_where o c t) f h =
      let j = k + reduces (ReduceWhere o) in
      let byte : o % 128 + 128 ≡ 128 + o = omega (arith, f.1) in
      ap₂ (λ (b : ℕ) (l : List Term). Entry b ∷ l) byte
      (selected_append (entries_term table) j (query_nodes vertex c) (query_nodes vertex t)
      ∙ ap₂ ◌++◌ (vertex_entry j c f.2 (all_left _ (paths c) (paths t) h))
      (vertex_entry (j + reduced (query_nodes vertex c)) t f.3 (all_right _ (paths c) (paths t) h)
      ∙ sym (append-nil (entry_nodes (expression cs t)))))
  result_entries k (number x) f h = refl
  result_entries k (operator o s t) f h =
      let j = k + reduces (ResultApply o) in
      selected_append (entries_term table) j (query_nodes result s) (query_nodes result t)
      ∙ ap₂ ◌++◌ (result_entries j s f.2 (all_left _ (paths s) (paths t) h))
      (result_entries (j + reduced (query_nodes result s)) t f.3 (all_right _ (paths s) (paths t) h))
      ∙ sym (entries_append (entries cs s) (entries cs t))
