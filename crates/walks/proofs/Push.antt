-- By push each round leaves the state that it leaves by pull: an edge whose `from` did not change brings nothing new. Assumes nothing.
use Prim.Native.Nat.{ℕ, zero, suc, ◌<◌, suc-le-suc}
use mathlib.Core.Path.{◌≡◌, refl, ap, ◌∙◌, subst, fun_ext}
use mathlib.Core.Logic.{inl, inr}
use mathlib.Core.Bool.{Bool, true, false, not, ◌&&◌}
use mathlib.Core.List.{List, ◌∷◌}
use mathlib.Core.Option.{Option, none, some}
use borrow.Author.Tests.{not-false}
use lib.Dec.{T}
use lib.ListN.{length}
use Rattle.walks.specs.Keys.{in_order}
use Rattle.walks.specs.Rounds.{Marked, State, marked, push_round, pushed, reached, same, state}
use Rattle.walks.specs.Walks.{Leads, Network, Within, figures}
use Rattle.walks.proofs.Optimal.{Optimal, optimal_larger, optimal_shared, optimal_unique}
use Rattle.walks.proofs.Order.{Lex, extend_figures, lex_ext, lex_refl}
use Rattle.walks.proofs.Rounds.{One, gather_optimal, state_optimal, within_back, within_step}
use Rattle.walks.proofs.Same.{same_eq}
use Rattle.walks.proofs.Tests.{T_of, and_both, and_left}

-- nothing reached: no figures
none_of : (a : Option (List ℕ)) → reached a ≡ false → a ≡ none
none_of none e = refl
none_of (some xs) e = absurd (subst T e tt)

-- did the state at u change in round r? Before any round: has it figures?
unfoldable pub fresh : Network → List ℕ → ℕ → ℕ → Bool
fresh N ks zero u = reached (state N ks zero u)
fresh N ks (suc r) u = not (same (state N ks (suc r) u) (state N ks r u))

-- the state by pull, with the vertices that changed
abbrev pub marked_state : Network → List ℕ → ℕ → Marked
marked_state N ks r = record { holds = state N ks r; changed = fresh N ks r }

module _ (N : Network) (ks : List ℕ) (ok : T (in_order ks)) where
  -- where the state at u did not change, a walk to u is matched by a shorter one
  stale : (r u : ℕ) → fresh N ks r u ≡ false → (s : ℕ) (w : List ℕ) → Within N r u s w
      → (s' : ℕ) × (w' : List ℕ) × (T (N.source s') × Leads N s' w' u × (length w' < r))
      × Lex ks (figures N ks s' w') (figures N ks s w)
  unfolding fresh
  stale zero u e s w h = absurd (subst (Optimal N ks (Within N zero u)) (none_of (state N ks zero u) e) (state_optimal N ks ok zero u) s w h)
  stale (suc r) u e s w h =
      let x =
      optimal_shared N ks (Within N (suc r) u) (Within N r u) (state N ks r u) (state_optimal N ks ok r u)
      (subst (Optimal N ks (Within N (suc r) u)) (same_eq (state N ks (suc r) u) (state N ks r u)
      (T_of (not-false (same (state N ks (suc r) u) (state N ks r u)) e))) (state_optimal N ks ok (suc r) u))
      s w h in
      (x.0, x.1, (x.2.0, x.2.1, suc-le-suc x.2.2), x.3)

  -- the edges that a round by push goes over
  abbrev live : ℕ → ℕ → Bool
  live r i = N.usable i && fresh N ks r (N.edge i).from

  -- a walk over an edge that is left out is matched by a walk that was there before
  module _ (r v s : ℕ) (w : List ℕ) where
    abbrev Matched : Type 0
    Matched = (s' : ℕ) × (w' : List ℕ) × One N ks ok (live r) (Within N r) v N.edges s' w'
        × Lex ks (figures N ks s' w') (figures N ks s w)

    by_fresh : (i : ℕ) (w₀ : List ℕ) → i < N.edges → T (N.usable i) → (N.edge i).to ≡ v → w ≡ i ∷ w₀
        → Within N r (N.edge i).from s w₀
        → (b : Bool) → fresh N ks r (N.edge i).from ≡ b → Matched
    by_fresh i w₀ l t e p h true f = (s, w, inr (i, w₀, l, and_both (N.usable i) (fresh N ks r (N.edge i).from) t (T_of f), e, p, h), lex_refl N ks s w)
    by_fresh i w₀ l t e p h false f =
        let x = stale r (N.edge i).from f s w₀ h in (
          x.0,
          i ∷ x.1,
          inl (x.2.0, (l, t, e, x.2.1), x.2.2),
          rw p (rw (← (extend_figures N ks i s w₀), ← (extend_figures N ks i x.0 x.1)) (lex_ext ks ok (N.edge i) _ _ x.3)),
        )

    matched : One N ks ok N.usable (Within N r) v N.edges s w → Matched
    matched (inl h) = (s, w, inl h, lex_refl N ks s w)
    matched (inr h) = by_fresh h.0 h.1 h.2 h.3 h.4 h.5 h.6 (fresh N ks r (N.edge h.0).from) refl

    widen : One N ks ok (live r) (Within N r) v N.edges s w → One N ks ok N.usable (Within N r) v N.edges s w
    widen (inl h) = inl h
    widen (inr h) = inr (h.0, h.1, h.2, and_left (N.usable h.0) (fresh N ks r (N.edge h.0).from) h.3, h.4, h.5, h.6)

  -- a round by push from the state after r rounds
  step_optimal : (r v : ℕ) → Optimal N ks (Within N (suc r) v) (push_round N ks (marked_state N ks r) v)
  step_optimal r v =
      optimal_larger N ks (One N ks ok (live r) (Within N r) v N.edges) (Within N (suc r) v) (push_round N ks (marked_state N ks r) v)
      (gather_optimal N ks ok (live r) (Within N r) (state N ks r) (state_optimal N ks ok r) v N.edges)
      (λ s w h. within_step N ks ok r v s w (widen r v s w h)) (λ s w h. matched r v s w (within_back N ks ok r v s w h))

  -- over the edges whose `from` changed it gives the same state as a round over all
  pub push_pull : (r v : ℕ) → push_round N ks (marked_state N ks r) v ≡ state N ks (suc r) v
  push_pull r v =
      optimal_unique N ks (Within N (suc r) v) (push_round N ks (marked_state N ks r) v) (state N ks (suc r) v) (step_optimal r v)
      (state_optimal N ks ok (suc r) v)

  -- round by round, state and marks
  pub marked_is : (r : ℕ) → marked N ks r ≡ marked_state N ks r
  unfolding marked state fresh
  marked_is zero = refl
  marked_is (suc r) = ap next (marked_is r) ∙ ap after (fun_ext (push_pull r))
    where
      next : Marked → Marked
      next p = record { holds = push_round N ks p; changed = λ v. not (same (push_round N ks p v) (p.holds v)) }

      after : State → Marked
      after S = record { holds = S; changed = λ v. not (same (S v) (state N ks r v)) }

  -- BY PUSH EACH ROUND LEAVES THE STATE THAT IT LEAVES BY PULL
  pub push_state : pushed N ks ≡ state N ks
  push_state = fun_ext (λ r. ap (λ (p : Marked). p.holds) (marked_is r))
