-- The state after r rounds is the figures over the walks of at most r edges. Assumes nothing.
use Prim.Native.Nat.{ℕ, zero, suc, ◌<◌, suc-le-suc}
use mathlib.Core.Path.{◌≡◌, refl, sym, subst}
use mathlib.Core.Logic.{◌⊎◌, inl, inr}
use mathlib.Core.Bool.{Bool, true, false, ◌&&◌}
use mathlib.Core.List.{List, [], ◌∷◌}
use mathlib.Core.Option.{Option}
use native.Mathlib.Omega.{arith}
use native.Mathlib.Nat.{not-suc-le-zero, le_of_suc-le-suc}
use native.Mathlib.Decide.{ℕ_discrete}
use lib.Dec.{T, eqb, eqb→eq}
use Rattle.walks.specs.Keys.{in_order}
use Rattle.walks.specs.Meaning.{Figures}
use Rattle.walks.specs.Rounds.{bases, brings, gather, initial, state, through}
use Rattle.walks.specs.Walks.{Network, WalkSet, Within, figures}
use Rattle.walks.proofs.Optimal.{Either, Optimal, Then, optimal_best, optimal_figures, optimal_iff, optimal_through}
use Rattle.walks.proofs.Order.{Lex, bases_figures, lex_refl}
use Rattle.walks.proofs.Tests.{T_of, and_both, and_left, and_right, eqb_of, le_step}

module _ (N : Network) (ks : List ℕ) (ok : T (in_order ks)) where
  -- the walks of the sets `At`, one for each vertex, that end at v, and those with one more edge below m that passes the test
  abbrev pub One : (ℕ → Bool) → (ℕ → WalkSet) → ℕ → ℕ → WalkSet
  One live At v m s w = At v s w ⊎ ((i : ℕ) × (w₀ : List ℕ) × (i < m) × T (live i) × ((N.edge i).to ≡ v) × (w ≡ i ∷ w₀)
      × At (N.edge i).from s w₀)

  -- the walks that the edge i brings to v
  abbrev ByEdge : Bool → (ℕ → WalkSet) → ℕ → WalkSet
  ByEdge b At i s w = T b × Then i (At (N.edge i).from) s w

  brings_optimal : (At : ℕ → WalkSet) (S : ℕ → Option (List ℕ)) → ((u : ℕ) → Optimal N ks (At u) (S u))
      → (i : ℕ) (b : Bool) → Optimal N ks (ByEdge b At i) (brings b ks (N.edge i) S)
  brings_optimal At S f i false = λ s w h. h.0
  brings_optimal At S f i true =
      optimal_iff N ks (Then i (At (N.edge i).from)) (ByEdge true At i) (through ks (N.edge i) (S (N.edge i).from))
      (optimal_through N ks ok i (At (N.edge i).from) (S (N.edge i).from) (f (N.edge i).from)) (λ s w h. (tt, h)) (λ s w h. h.1)

  none_below : (live : ℕ → Bool) (At : ℕ → WalkSet) (v s : ℕ) (w : List ℕ) → One live At v zero s w → At v s w
  none_below live At v s w (inl h) = h
  none_below live At v s w (inr h) = absurd (not-suc-le-zero h.2)

  module _ (live : ℕ → Bool) (At : ℕ → WalkSet) (v i s : ℕ) (w : List ℕ) where
    -- one edge more: the walks that it brings are among those of the edges below i + 1; and back
    one_more : Either (One live At v i) (ByEdge (live i && eqb (N.edge i).to v) At i) s w → One live At v (suc i) s w
    one_more (inl (inl h)) = inl h
    one_more (inl (inr h)) = inr (h.0, h.1, le_step h.2, h.3, h.4, h.5, h.6)
    one_more (inr h) =
        inr (
          i,
          h.1.0,
          omega arith,
          and_left (live i) (eqb (N.edge i).to v) h.0,
          eqb→eq (N.edge i).to v (and_right (live i) (eqb (N.edge i).to v) h.0),
          h.1.1,
          h.1.2,
        )

    abbrev Last : List ℕ → ℕ → Type 0
    Last w₀ j = T (live j) × ((N.edge j).to ≡ v) × (w ≡ j ∷ w₀) × At (N.edge j).from s w₀

    at_last : (w₀ : List ℕ) → Last w₀ i → ByEdge (live i && eqb (N.edge i).to v) At i s w
    at_last w₀ h = (and_both (live i) (eqb (N.edge i).to v) h.0 (eqb_of (N.edge i).to v h.1), (w₀, h.2, h.3))

    last_or_not : (j : ℕ) (w₀ : List ℕ) → j < suc i → Last w₀ j → Dec (j ≡ i)
        → Either (One live At v i) (ByEdge (live i && eqb (N.edge i).to v) At i) s w
    last_or_not j w₀ l h (yes e) = inr (at_last w₀ (subst (Last w₀) e h))
    last_or_not j w₀ l h (no e) = inl (inr (j, w₀, omega arith, h.0, h.1, h.2, h.3))

    one_less : One live At v (suc i) s w → Either (One live At v i) (ByEdge (live i && eqb (N.edge i).to v) At i) s w
    one_less (inl h) = inl (inl h)
    one_less (inr h) = last_or_not h.0 h.1 h.2 (h.3, h.4, h.5, h.6) (ℕ_discrete h.0 i)

  -- what the edges below m bring to v is the best of the walks that they make
  pub gather_optimal : (live : ℕ → Bool) (At : ℕ → WalkSet) (S : ℕ → Option (List ℕ)) → ((u : ℕ) → Optimal N ks (At u) (S u))
      → (v m : ℕ) → Optimal N ks (One live At v m) (gather N ks live S v m)
  unfolding gather
  gather_optimal live At S f v zero = optimal_iff N ks (At v) (One live At v zero) (S v) (f v) (λ s w h. inl h) (none_below live At v)
  gather_optimal live At S f v (suc i) =
      optimal_iff N ks (Either (One live At v i) (ByEdge (live i && eqb (N.edge i).to v) At i)) (One live At v (suc i)) (gather N ks live S v (suc i))
      (optimal_best N ks (One live At v i) (ByEdge (live i && eqb (N.edge i).to v) At i) (gather N ks live S v i)
      (brings (live i && eqb (N.edge i).to v) ks (N.edge i) S)
      (gather_optimal live At S f v i) (brings_optimal At S f i (live i && eqb (N.edge i).to v)))
      (one_more live At v i) (one_less live At v i)

  -- before the first round: the empty walk at a source, and nothing elsewhere
  first_optimal : (v : ℕ) (b : Bool) → N.source v ≡ b → Optimal N ks (Within N zero v) (initial b ks v)
  first_optimal v true e = (v, [], (T_of e, refl, omega arith), sym (bases_figures N ks v), below)
    where
      below : (s : ℕ) (w : List ℕ) → Within N zero v s w → Lex ks (bases ks v) (figures N ks s w)
      below s [] h = rw (bases_figures N ks v, h.1) (lex_refl N ks v [])
      below s (i ∷ w) h = absurd (not-suc-le-zero h.2)
  first_optimal v false e = below
    where
      below : (s : ℕ) (w : List ℕ) → Within N zero v s w → ⊥
      below s [] h = subst T e (rw h.1 at h.0)
      below s (i ∷ w) h = absurd (not-suc-le-zero h.2)

  -- walks of at most r edges, and those with one more, are the walks of at most r + 1; and back
  pub within_step : (r v s : ℕ) (w : List ℕ) → One N.usable (Within N r) v N.edges s w → Within N (suc r) v s w
  within_step r v s w (inl h) = (h.0, h.1, le_step h.2)
  within_step r v s w (inr h) =
      subst (λ (l : List ℕ). Within N (suc r) v s l) (sym h.5) (h.6.0, (h.2, h.3, h.4, h.6.1), suc-le-suc h.6.2)

  pub within_back : (r v s : ℕ) (w : List ℕ) → Within N (suc r) v s w → One N.usable (Within N r) v N.edges s w
  within_back r v s [] h = inl (h.0, h.1, omega arith)
  within_back r v s (i ∷ w) h = inr (i, w, h.1.0, h.1.1, h.1.2, refl, (h.0, h.1.3, le_of_suc-le-suc h.2))

  -- after r rounds each vertex holds the best of the walks of at most r edges
  pub state_optimal : (r v : ℕ) → Optimal N ks (Within N r v) (state N ks r v)
  unfolding state
  state_optimal zero v = first_optimal v (N.source v) refl
  state_optimal (suc r) v =
      optimal_iff N ks (One N.usable (Within N r) v N.edges) (Within N (suc r) v) (state N ks (suc r) v)
      (gather_optimal N.usable (Within N r) (state N ks r) (state_optimal r) v N.edges) (within_step r v) (within_back r v)

  -- AFTER r ROUNDS: THE FIGURES OVER WALKS OF AT MOST r EDGES
  pub state_figures : (r v : ℕ) → Figures N ks (Within N r v) (state N ks r v)
  state_figures r v = optimal_figures N ks (Within N r v) (state N ks r v) (state_optimal r v)
