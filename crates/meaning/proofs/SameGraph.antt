-- GRAPHS WITH THE SAME VERTICES AND THE SAME EDGES EQUALLY OFTEN: every plan has the same outcome on both, every query the same meaning, and if the one is
-- legal the other is. Assumes nothing.
use Prim.Native.Nat.{ℕ, suc, ◌*◌, ◌≤◌, ◌<◌}
use mathlib.Core.Path.{◌≡◌, sym, ap, ◌∙◌, subst}
use mathlib.Core.Bool.{true}
use mathlib.Core.List.{List}
use lib.ListN.{length, get_or}
use Rattle.value.specs.declared.Value.{Value}
use Rattle.value.specs.declared.Value.TheVariants.{Absent}
use Rattle.walks.specs.Lists.{All}
use Rattle.walks.specs.Often.{SameGraph}
use Rattle.walks.specs.Walks.{AllTo, Edge, Graph, Within, edge, edge_at, network}
use Rattle.walks.proofs.Often.{length_rearranged, places_of, rearranged_back}
use Rattle.walks.proofs.Renumber.{Renumbered, all_figures, flipped, pushed_same, state_same, within_figures}
use Rattle.walks.proofs.Rows.{edges_rearranged, rows_renumbered}
use Rattle.meaning.specs.Limits.{GraphFits, GraphLegal, PathFits}
use Rattle.meaning.specs.Meaning.{Correct, Means, Outcome, PathOver, Rows, Same, Smallest, Unfused, UnfusedWithin}
use Rattle.meaning.specs.Plan.{Plan}
use Rattle.meaning.specs.Query.{At, Kind, PathReduction, Query, QueryTerm, each, every_edge, network_of, number, operator, over, over_where, path}
use Rattle.meaning.specs.Query.{path_set, single, starts, written_paths}
use Rattle.meaning.specs.Run.{pull, push, run, stopped}
use Rattle.meaning.proofs.Lists.{all_weaken}
use Rattle.meaning.proofs.Rounds.{path_in_order, run_same, stopped_same}

-- the other way round
same_graph_back : {g h : Graph} → SameGraph g h → SameGraph h g
same_graph_back s = record { vertices_same = sym s.vertices_same; edges_same = λ e. sym (s.edges_same e) }

module _ {g h : Graph} (s : SameGraph g h) where
  -- as the walks of a path reduction see it, the rows are renumbered one to one
  pub renumbered : (c : PathReduction) → Renumbered (network_of g c) (network_of h c)
  renumbered c =
      subst (λ (n : ℕ). Renumbered (network_of g c) (network h every_edge (starts n c.sources))) s.vertices_same
      (rows_renumbered g h (λ e. true) (starts g.vertices c.sources) s.edges_same)

  -- each path reduction holds the same figures at each vertex after each round
  pub pull_same : (c : PathReduction) → PathFits g.vertices c → pull g c ≡ pull h c
  pull_same c p = state_same (renumbered c) c.keys (path_in_order g.vertices c p)

  pub push_same : (c : PathReduction) → PathFits g.vertices c → push g c ≡ push h c
  push_same c p = pushed_same (renumbered c) c.keys (path_in_order g.vertices c p)

  -- EVERY PLAN HAS THE SAME OUTCOME ON BOTH: run to the first quiet round, and stopped after r rounds, by pull and by push
  module _ (p : Plan) (legal : All (PathFits g.vertices) p.paths) where
    pulls : All (λ c. pull g c ≡ pull h c) p.paths
    pulls = all_weaken p.paths pull_same legal

    pushes : All (λ c. push g c ≡ push h c) p.paths
    pushes = all_weaken p.paths push_same legal

    pub run_pull_same : run (pull g) g.vertices p ≡ run (pull h) h.vertices p
    run_pull_same = run_same (pull g) (pull h) g.vertices p pulls ∙ ap (λ (n : ℕ). run (pull h) n p) s.vertices_same

    pub run_push_same : run (push g) g.vertices p ≡ run (push h) h.vertices p
    run_push_same = run_same (push g) (push h) g.vertices p pushes ∙ ap (λ (n : ℕ). run (push h) n p) s.vertices_same

    pub stopped_pull_same : (r : ℕ) → stopped (pull g) g.vertices p r ≡ stopped (pull h) h.vertices p r
    stopped_pull_same r = stopped_same (pull g) (pull h) g.vertices p pulls r ∙ ap (λ (n : ℕ). stopped (pull h) n p r) s.vertices_same

    pub stopped_push_same : (r : ℕ) → stopped (push g) g.vertices p r ≡ stopped (push h) h.vertices p r
    stopped_push_same r = stopped_same (push g) (push h) g.vertices p pushes r ∙ ap (λ (n : ℕ). stopped (push h) n p r) s.vertices_same

-- a term is worth what it was, where its path reductions are
module _ {L M : PathReduction → ℕ → Value → Type 0} (f : (c : PathReduction) (v : ℕ) (x : Value) → L c v x → M c v x) (n : ℕ) where
  means_same : {κ : Kind} (t : QueryTerm κ) (v : At κ) (x : Value) → Means L n t v x → Means M n t v x
  means_same (path c) v x m = f c v x m
  means_same (path_set c) v x m = f c v x m
  means_same (over o t) v x m = (m.0, (m.1.0, λ u l. means_same t u (get_or m.0 u Absent) (m.1.1 u l)), m.2)
  means_same (over_where o c t) v x m = (
    m.0,
    m.1,
    (m.2.0, λ u l. means_same c u (get_or m.0 u Absent) (m.2.1 u l)),
    (m.3.0, λ u l. means_same t u (get_or m.1 u Absent) (m.3.1 u l)),
    m.4,
  )
  means_same (number y) v x m = m
  means_same (operator o s t) v x m = (m.0, m.1, means_same s v m.0 m.2, means_same t v m.1 m.3, m.4)

  rows_same : (q : Query) (xs : List Value) → Rows L n q xs → Rows M n q xs
  rows_same (each t) xs m = (m.0, λ v l. means_same t v (get_or xs v Absent) (m.1 v l))
  rows_same (single t) xs m = (m.0, means_same t tt m.0 m.1, m.2)

module _ {g h : Graph} (s : SameGraph g h) where
  -- EVERY QUERY MEANS THE SAME ON BOTH, over all walks and over walks of at most r edges
  pub unfused_same : (q : Query) (xs : List Value) → Unfused g q xs → Unfused h q xs
  unfused_same q xs m =
      subst (λ (n : ℕ). Rows (PathOver h AllTo) n q xs) s.vertices_same
      (rows_same (λ c v x p. (p.0, all_figures (renumbered s c) c.keys v p.0 p.1, p.2)) g.vertices q xs m)

  pub within_same : (r : ℕ) (q : Query) (xs : List Value) → UnfusedWithin g r q xs → UnfusedWithin h r q xs
  within_same r q xs m =
      subst (λ (n : ℕ). Rows (PathOver h (λ N v. Within N r v)) n q xs) s.vertices_same
      (rows_same (λ c v x p. (p.0, within_figures (renumbered s c) c.keys r v p.0 p.1, p.2)) g.vertices q xs m)

  -- figures that stay the same over walks of one more edge do so on both; so the smallest count is the same
  same_back : (r : ℕ) (c : PathReduction) → Same g r c → Same h r c
  same_back r c f v l a b x y =
      let back = flipped (renumbered s c) in
      f v (subst (λ (n : ℕ). v < n) (sym s.vertices_same) l) a b (within_figures back c.keys (suc r) v a x) (within_figures back c.keys r v b y)

  -- an edge of the other graph is one of this
  edge_back : (j : ℕ) → j < length h.edges → (i : ℕ) × (i < length g.edges) × (edge_at g.edges i ≡ edge_at h.edges j)
  edge_back j l =
      let p = places_of (edge 0 0 0 0) (rearranged_back (edges_rearranged g.edges h.edges s.edges_same)) in
      (p.there j, p.there_fits j l, p.same_at j l)

-- WHAT IS CORRECT ON THE ONE IS CORRECT ON THE OTHER
pub smallest_same : {g h : Graph} → SameGraph g h → (cs : List PathReduction) (r : ℕ) → Smallest g cs r → Smallest h cs r
smallest_same s cs r t = record {
  before = t.before;
  one_more = t.one_more;
  same = all_weaken cs (same_back s t.before) t.same;
  none_smaller = λ j l f. t.none_smaller j l (all_weaken cs (same_back (same_graph_back s) j) f);
}

pub correct_same : {g h : Graph} → SameGraph g h → (q : Query) (o : Outcome) → Correct g q o → Correct h q o
correct_same s q o c = record {
  rows_mean = unfused_same s q o.rows c.rows_mean;
  smallest = smallest_same s (written_paths q) o.rounds c.smallest;
  at_most = subst (λ (n : ℕ). o.rounds ≤ 2 * n) s.vertices_same c.at_most;
}

module _ {g h : Graph} (s : SameGraph g h) where
  -- THE OTHER IS LEGAL TOO
  graph_fits_same : GraphFits g → GraphFits h
  graph_fits_same f = record {
    some_vertex = subst (λ (n : ℕ). 0 < n) s.vertices_same f.some_vertex;
    ends_fit = λ j l.
        let b = edge_back s j l in
        subst (λ (n : ℕ). ((edge_at h.edges j).from < n) × ((edge_at h.edges j).to < n)) s.vertices_same
        (subst (λ (e : Edge). (e.from < g.vertices) × (e.to < g.vertices)) b.2 (f.ends_fit b.0 b.1));
  }

  pub graph_legal_same : GraphLegal g → GraphLegal h
  graph_legal_same f = record {
    fits = graph_fits_same f.fits;
    few_vertices = subst (λ (n : ℕ). n ≤ 256) s.vertices_same f.few_vertices;
    few_edges = subst (λ (n : ℕ). n ≤ 1024) (length_rearranged (edges_rearranged g.edges h.edges s.edges_same)) f.few_edges;
    weights = λ j l. let b = edge_back s j l in subst (λ (e : Edge). e.weight ≤ 65535) b.2 (f.weights b.0 b.1);
    capacities = λ j l.
        let b = edge_back s j l in subst (λ (e : Edge). (1 ≤ e.capacity) × (e.capacity ≤ 65534)) b.2 (f.capacities b.0 b.1);
  }
