-- The rounds of a run by pull: the smallest count, at most 2n, and what the figures are then; by push everything is the same. Assumes nothing.
use Prim.Native.Nat.{ℕ, zero, suc, ◌*◌, ◌≤◌, ◌<◌}
use mathlib.Core.Path.{◌≡◌, refl, sym, ap, ◌∙◌, subst, fun_ext}
use mathlib.Core.Bool.{Bool, true, false, ◌&&◌, ◌||◌}
use mathlib.Core.List.{List, [], ◌∷◌, map}
use native.Mathlib.Omega.{arith}
use borrow.Author.Tests.{eqb-true}
use lib.Dec.{T, leb, eqb, ltb→lt}
use lib.ListN.{length}
use Rattle.value.specs.declared.Value.{Value}
use Rattle.walks.specs.Keys.{all_known, in_order}
use Rattle.walks.specs.Lists.{All}
use Rattle.walks.specs.Meaning.{Figures, value}
use Rattle.walks.specs.Rounds.{State, quiet, rounds, unchanged}
use Rattle.walks.specs.Walks.{AllTo, Fits, Graph, Within}
use Rattle.walks.proofs.First.{First, first_unique}
use Rattle.walks.proofs.Joint.{Settles, quiet_round_figures, rounds_bound, rounds_first, state_settles}
use Rattle.walks.proofs.Optimal.{figures_unique}
use Rattle.walks.proofs.Push.{push_state}
use Rattle.walks.proofs.Rounds.{state_figures}
use Rattle.walks.proofs.Same.{quiet_of, quiet_yes, unchanged_of, unchanged_yes}
use Rattle.walks.proofs.Tests.{and_right}
use Rattle.meaning.specs.Limits.{GraphFits, PathFits, SourcesFit}
use Rattle.meaning.specs.Meaning.{Outcome, Same, Smallest}
use Rattle.meaning.specs.Plan.{Plan}
use Rattle.meaning.specs.Query.{PathReduction, member, network_of, starts}
use Rattle.meaning.specs.Run.{Way, body_rows, pull, push, run, run_rounds, stopped}
use Rattle.meaning.proofs.Lists.{all_both, all_mapped, all_unmapped, all_weaken, map_same}

-- legal keys are in order
pub path_in_order : (n : ℕ) (c : PathReduction) → PathFits n c → T (in_order c.keys)
path_in_order n c p = and_right (leb 1 (length c.keys) && leb (length c.keys) 3 && all_known c.keys) (in_order c.keys) p.0

-- a walk starts at a vertex: at any of the sources, by a proof over the set, or anywhere
member_fits : (n : ℕ) (ss : List ℕ) → All (λ s. s < n) ss → (v : ℕ) → T (member v ss) → v < n
member_fits n [] h v t = absurd t
member_fits n (s ∷ ss) h v t = go (eqb s v) refl (member_fits n ss h.1 v) t
  where
    go : (b : Bool) → eqb s v ≡ b → (T (member v ss) → v < n) → T (b || member v ss) → v < n
    go true e f t = omega (arith, eqb-true s v e, h.0)
    go false e f t = f t

source_fits : (n : ℕ) (ss : List ℕ) → SourcesFit n ss → (v : ℕ) → T (starts n ss v) → v < n
source_fits n [] h v t = ltb→lt v n t
source_fits n (s ∷ ss) h v t = member_fits n (s ∷ ss) h.0 v t

module _ (g : Graph) (fits : GraphFits g) where
  -- what the theory asks of a network holds of a legal path reduction's
  pub network_fits : (c : PathReduction) → PathFits g.vertices c → Fits (network_of g c)
  network_fits c p = record {
    some_vertex = fits.some_vertex;
    from_fits = λ i l t. (fits.ends_fit i l).0;
    to_fits = λ i l t. (fits.ends_fit i l).1;
    source_fits = source_fits g.vertices c.sources p.1;
  }

  -- the rounds of legal path reductions settle
  pub settle : (cs : List PathReduction) → All (PathFits g.vertices) cs → All (Settles g.vertices) (map (pull g) cs)
  settle cs h =
      all_mapped (Settles g.vertices) (pull g) cs
      (all_weaken cs (λ c p. state_settles (network_of g c) c.keys (path_in_order g.vertices c p) (network_fits c p)) h)

  -- a round changes nothing for a path reduction exactly where its figures are the same over walks of one more edge
  module _ (c : PathReduction) (p : PathFits g.vertices c) (r : ℕ) where
    over : (j v : ℕ) → Figures (network_of g c) c.keys (Within (network_of g c) j v) (pull g c j v)
    over = state_figures (network_of g c) c.keys (path_in_order g.vertices c p)

    same_of : T (unchanged (pull g c) r g.vertices) → Same g r c
    same_of t v h a b x y =
        let u = figures_unique (network_of g c) c.keys in
        u _ a (pull g c (suc r) v) x (over (suc r) v) ∙ unchanged_yes (pull g c) r g.vertices t v h ∙ u _ (pull g c r v) b (over r v) y

    of_same : Same g r c → T (unchanged (pull g c) r g.vertices)
    of_same s = unchanged_of (pull g c) r g.vertices (λ v h. s v h (pull g c (suc r) v) (pull g c r v) (over (suc r) v) (over r v))

  module _ (cs : List PathReduction) (h : All (PathFits g.vertices) cs) where
    -- the rounds of the path reductions together
    abbrev R : ℕ
    R = rounds g.vertices (map (pull g) cs)

    first_quiet : First (quiet g.vertices (map (pull g) cs)) zero R
    first_quiet = rounds_first g.vertices (map (pull g) cs) (settle cs h)

    each_quiet : (r : ℕ) → T (quiet g.vertices (map (pull g) cs) r) → All (λ c. T (unchanged (pull g c) r g.vertices)) cs
    each_quiet r t = all_unmapped (λ S. T (unchanged S r g.vertices)) (pull g) cs (quiet_yes g.vertices (map (pull g) cs) r t)

    all_quiet : (r : ℕ) → All (λ c. T (unchanged (pull g c) r g.vertices)) cs → T (quiet g.vertices (map (pull g) cs) r)
    all_quiet r u = quiet_of g.vertices (map (pull g) cs) r (all_mapped (λ S. T (unchanged S r g.vertices)) (pull g) cs u)

    -- THE SMALLEST COUNT WHOSE LAST ROUND CHANGES NO FIGURE, AT MOST 2n
    pub rounds_smallest : Smallest g cs R
    rounds_smallest = record {
      before = first_quiet.at;
      one_more = first_quiet.number;
      same = all_both cs (λ c p t. same_of c p first_quiet.at t) h (each_quiet first_quiet.at first_quiet.passes);
      none_smaller = λ j l s. first_quiet.none_before j (omega arith) l (all_quiet j (all_both cs (λ c p t. of_same c p j t) h s));
    }

    pub rounds_at_most : R ≤ 2 * g.vertices
    rounds_at_most = rounds_bound g.vertices fits.some_vertex (map (pull g) cs) (settle cs h)

    -- after them the figures are those over all walks
    pub rounds_final : All (λ c. (v : ℕ) → v < g.vertices → Figures (network_of g c) c.keys (AllTo (network_of g c) v) (pull g c R v)) cs
    rounds_final =
        all_both cs
        (λ c p t v l.
        subst (λ (r : ℕ). Figures (network_of g c) c.keys (AllTo (network_of g c) v) (pull g c r v)) (sym first_quiet.number)
        (quiet_round_figures (network_of g c) c.keys (path_in_order g.vertices c p) (network_fits c p) first_quiet.at t v l))
        h (each_quiet first_quiet.at first_quiet.passes)

    -- what a loop needs that stops at the first quiet round: the count is that of the round where it stops, and before it there is room below 2n
    pub rounds_stop : (r : ℕ) → T (quiet g.vertices (map (pull g) cs) r)
        → ((j : ℕ) → j < r → T (quiet g.vertices (map (pull g) cs) j) → ⊥) → R ≡ suc r
    rounds_stop r t f =
        first_unique (quiet g.vertices (map (pull g) cs)) zero R (suc r) first_quiet
        (record { at = r; number = refl; after = omega arith; passes = t; none_before = λ j l m u. f j m u })

    pub rounds_go_on : (r : ℕ) → ((j : ℕ) → j < suc r → T (quiet g.vertices (map (pull g) cs) j) → ⊥) → suc r < 2 * g.vertices
    rounds_go_on r f =
        let n : ¬ (first_quiet.at < suc r) = λ l. f first_quiet.at l first_quiet.passes in
        omega (arith, first_quiet.number, rounds_at_most)

-- there is one smallest count; with no path reduction it is 1
pub smallest_unique : (g : Graph) (cs : List PathReduction) (a b : ℕ) → Smallest g cs a → Smallest g cs b → a ≡ b
smallest_unique g cs a b s t =
    let x : ¬ (s.before < t.before) = λ h. t.none_smaller s.before h s.same in
    let y : ¬ (t.before < s.before) = λ h. s.none_smaller t.before h t.same in
    omega (arith, s.one_more, t.one_more)

pub smallest_none : (g : Graph) (r : ℕ) → Smallest g [] r → r ≡ 1
smallest_none g r s =
    let x : ¬ (0 < s.before) = λ h. s.none_smaller 0 h tt in
    omega (arith, s.one_more)

-- two ways to run that agree on the path reductions of a plan have the same outcome
module _ (W W' : Way) (n : ℕ) (p : Plan) (agree : All (λ c. W c ≡ W' c) p.paths) where
  pub stopped_same : (r : ℕ) → stopped W n p r ≡ stopped W' n p r
  unfolding stopped
  stopped_same r = ap (λ (F : ℕ → List Value). outcome F)
      (fun_ext (λ v. map_same _ _ p.paths (all_weaken p.paths (λ c e. ap (λ (f : ℕ → State). value (f r v)) e) agree)))
    where
      outcome : (ℕ → List Value) → Outcome
      outcome F = record { rounds = r; rows = body_rows p.body F n }

  pub run_same : run W n p ≡ run W' n p
  unfolding run
  run_same = stopped_same (run_rounds W n p) ∙ ap (λ (Ss : List (ℕ → State)). stopped W' n p (rounds n Ss)) (map_same W W' p.paths agree)

module _ (g : Graph) (p : Plan) (legal : All (PathFits g.vertices) p.paths) where
  push_agrees : All (λ c. push g c ≡ pull g c) p.paths
  push_agrees = all_weaken p.paths (λ c f. push_state (network_of g c) c.keys (path_in_order g.vertices c f)) legal

  -- PUSH AND PULL GIVE THE SAME OUTCOME
  pub push_pull_run : run (push g) g.vertices p ≡ run (pull g) g.vertices p
  push_pull_run = run_same (push g) (pull g) g.vertices p push_agrees

  pub push_pull_stopped : (r : ℕ) → stopped (push g) g.vertices p r ≡ stopped (pull g) g.vertices p r
  push_pull_stopped = stopped_same (push g) (pull g) g.vertices p push_agrees
