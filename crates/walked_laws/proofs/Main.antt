-- THE SECOND PROGRAM OF THE TESTS COMPUTES WHAT DOCUMENT 01 MEANS: on a graph, the figures and the value of a path reduction that crate `walked`
-- finds by listing walks are those over walks of at most r edges, for r up to 64. Assumes nothing.
use Prim.Native.Nat.{ℕ, zero, suc, ◌+◌, ◌*◌, ◌<◌, ◌≤◌, min}
use mathlib.Core.Path.{◌≡◌, refl, ap}
use mathlib.Core.Bool.{◌&&◌, ◌||◌}
use mathlib.Core.List.{List, [], ◌∷◌}
use mathlib.Core.Option.{Option, none, some}
use native.Mathlib.Omega.{arith}
use native.Mathlib.Nat.{not-suc-le-zero, le_of_suc-le-suc}
use borrow.Author.Tests.{lt-ltb, ne_eqb}
use lib.Dec.{T, eqb, leb}
use lib.ListN.{length, get_or, take}
use Rattle.value.specs.declared.Value.TheVariants.{Number}
use Rattle.walks.specs.Keys.{all_known, in_order, legal_keys}
use Rattle.walks.specs.Meaning.{Figures, last, value}
use Rattle.walks.specs.Walks.{Edge, Graph, Leads, Network, WalkSet, Within, edge, edge_at}
use Rattle.walks.proofs.Tests.{and_left, and_right}
use Rattle.meaning.specs.Limits.{GraphFits}
use Rattle.meaning.specs.Meaning.{PathWithin}
use Rattle.meaning.specs.Query.{member, network_of, starts}
use Rattle.meaning.specs.Query as query
use Rattle.walked.specs.declared.PathReduction.{PathReduction}
use Rattle.walked.specs.declared.Walk.{Walk}
use Rattle.walked.specs.Walked as spec
use Rattle.walked.specs.Walked.{all_figures, among, figures, last_of, sources_of, value_at, walks_to}
use Rattle.walked.proofs.Laws.{figures_length}
use Rattle.walked_laws.proofs.Best.{Shown, figures_shown}
use Rattle.walked_laws.proofs.Listing.{Rows, shown}

-- a graph's edges as rows of four numbers
abbrev pub numbers : List Edge → List ℕ
numbers [] = []
numbers (e ∷ es) = e.from ∷ e.to ∷ e.weight ∷ e.capacity ∷ numbers es

numbers_length : (es : List Edge) → length (numbers es) ≡ 4 * length es
numbers_length [] = refl
numbers_length (e ∷ es) = omega (arith, numbers_length es)

numbers_at : (es : List Edge) (i : ℕ) → i < length es
    → edge_at es i ≡ edge (get_or (numbers es) (4 * i) 0) (get_or (numbers es) (4 * i + 1) 0) (get_or (numbers es) (4 * i + 2) 0)
    (get_or (numbers es) (4 * i + 3) 0)
numbers_at [] i h = absurd (not-suc-le-zero h)
numbers_at (e ∷ es) zero h = refl
numbers_at (e ∷ es) (suc i) h =
    let a : 4 * suc i ≡ suc (suc (suc (suc (4 * i)))) = omega arith in
    let b : 4 * suc i + 1 ≡ suc (suc (suc (suc (4 * i + 1)))) = omega arith in
    let c : 4 * suc i + 2 ≡ suc (suc (suc (suc (4 * i + 2)))) = omega arith in
    let d : 4 * suc i + 3 ≡ suc (suc (suc (suc (4 * i + 3)))) = omega arith in
    rw (d, c, b, a) (numbers_at es i (le_of_suc-le-suc h))

-- a path reduction as crate `walked` takes it, and as a query has it
abbrev pub query_path : PathReduction → query.PathReduction
query_path path = record { keys = take (min path.count 3) path.keys; sources = sources_of path }

member_among : (v : ℕ) (ss : List ℕ) → member v ss ≡ among ss v
member_among v [] = refl
member_among v (s ∷ ss) = ap (◌||◌ (eqb s v)) (member_among v ss)

-- legal keys: one at least, and all known
some_key : (ks : List ℕ) → T (legal_keys ks) → 1 ≤ length ks
some_key [] t = absurd t
some_key (k ∷ ks) t = omega arith

all_keys : (ks : List ℕ) → T (legal_keys ks) → T (all_known ks)
all_keys ks t =
    and_right (leb 1 (length ks) && leb (length ks) 3) (all_known ks)
    (and_left (leb 1 (length ks) && leb (length ks) 3 && all_known ks) (in_order ks) t)

any_keys : (N : Network) (ks : List ℕ) → T (legal_keys ks) → (ws : List Walk) (P : WalkSet) → Shown N ws P → Figures N ks P (figures ks ws)
any_keys N [] t ws P r = absurd t
any_keys N (k ∷ ks) t ws P r = figures_shown N k ks (all_keys (k ∷ ks) t) ws P r

-- the last figure
last_number : (x : ℕ) (xs : List ℕ) → spec.last (x ∷ xs) ≡ Number (last (x ∷ xs))
last_number x [] = refl
last_number x (y ∷ ys) = last_number y ys

last_value : (o : Option (List ℕ)) → ((xs : List ℕ) → o ≡ some xs → 1 ≤ length xs) → last_of o ≡ value o
last_value none f = refl
last_value (some []) f = absurd (not-suc-le-zero (f [] refl))
last_value (some (x ∷ xs)) f = last_number x xs

module _ (g : Graph) (fits : GraphFits g) (path : PathReduction) where
  abbrev N : Network
  N = network_of g (query_path path)

  rows_are : Rows N (numbers g.edges)
  rows_are = record { count = omega (arith, numbers_length g.edges); at = numbers_at g.edges; usable = λ i. tt }

  -- a walk to a vertex starts at a vertex
  start_fits : (s : ℕ) (p : List ℕ) (v : ℕ) → v < g.vertices → Leads N s p v → s < g.vertices
  start_fits s [] v h l = omega arith
  start_fits s (i ∷ p) v h l = start_fits s p (edge_at g.edges i).from (fits.ends_fit i l.0).0 l.3

  may : (v : ℕ) → v < g.vertices → (s : ℕ) (p : List ℕ) → Leads N s p v
      → starts g.vertices (sources_of path) s ≡ (eqb (length (sources_of path)) 0 || among (sources_of path) s)
  may v h s p l = go (sources_of path)
    where
      go : (ss : List ℕ) → starts g.vertices ss s ≡ (eqb (length ss) 0 || among ss s)
      go [] = lt-ltb s g.vertices (start_fits s p v h l)
      go (x ∷ ss) = rw (ne_eqb (length (x ∷ ss)) 0 (λ e. omega arith)) (member_among s (x ∷ ss))

  module _ (legal : T (legal_keys (query_path path).keys)) (v r : ℕ) (vertex : v < g.vertices) (few : r ≤ 64) where
    -- THE FIGURES
    pub walked_figures : Figures N (query_path path).keys (Within N r v) (all_figures (numbers g.edges) path v r)
    walked_figures = any_keys N (query_path path).keys legal (walks_to (numbers g.edges) (sources_of path) v r) (Within N r v) show
      where
        show : Shown N (walks_to (numbers g.edges) (sources_of path) v r) (Within N r v)
        show = let e : min r 64 ≡ r = omega arith in rw e (shown N (numbers g.edges) rows_are (sources_of path) v r (may v vertex))

    -- THE VALUE
    pub walked_value : PathWithin g r (query_path path) v (value_at (numbers g.edges) path v r)
    unfolding value_at
    walked_value =
        let ks = (query_path path).keys in
        let o = all_figures (numbers g.edges) path v r in
        (o, walked_figures, last_value o (λ xs e. omega (arith, figures_length ks _ xs e, some_key ks legal)))
