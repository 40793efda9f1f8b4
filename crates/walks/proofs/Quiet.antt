-- After a quiet round every state is the same, and is the figures over all walks. Assumes nothing.
use Prim.Native.Nat.{ℕ, zero, suc, ◌+◌, ◌<◌}
use mathlib.Core.Path.{◌≡◌, refl, ap, ap₂, ◌∙◌, subst}
use mathlib.Core.Bool.{Bool, true, false, ◌&&◌}
use mathlib.Core.List.{List}
use mathlib.Core.Option.{Option}
use native.Mathlib.Omega.{arith}
use native.Mathlib.Nat.{add-zero, add-suc}
use lib.Dec.{T, eqb}
use lib.ListN.{length}
use Rattle.walks.specs.Keys.{in_order}
use Rattle.walks.specs.Meaning.{Figures}
use Rattle.walks.specs.Rounds.{best, brings, gather, state, through}
use Rattle.walks.specs.Walks.{AllTo, Edge, Fits, Network, Within}
use Rattle.walks.proofs.Optimal.{Optimal, optimal_figures, optimal_larger, optimal_shared}
use Rattle.walks.proofs.Rounds.{state_optimal}
use Rattle.walks.proofs.Tests.{and_left, le_step}

-- the round after r changes nothing
abbrev pub Quiet : Network → List ℕ → ℕ → Type 0
Quiet N ks r = (v : ℕ) → v < N.vertices → state N ks (suc r) v ≡ state N ks r v

brings_same : (ks : List ℕ) (b : Bool) (r : Edge) (S S' : ℕ → Option (List ℕ)) → (T b → S r.from ≡ S' r.from) → brings b ks r S
    ≡ brings b ks r S'
brings_same ks true r S S' f = ap (through ks r) (f tt)
brings_same ks false r S S' f = refl

-- two states that agree at the vertices of the network make the same next state there
pub gather_same : (N : Network) (ks : List ℕ) (live : ℕ → Bool) (S S' : ℕ → Option (List ℕ))
    → ((u : ℕ) → u < N.vertices → S u ≡ S' u)
    → (v : ℕ) → v < N.vertices → (m : ℕ) → ((i : ℕ) → i < m → T (live i) → (N.edge i).from < N.vertices) → gather N ks live S v m
    ≡ gather N ks live S' v m
unfolding gather
gather_same N ks live S S' f v h zero g = f v h
gather_same N ks live S S' f v h (suc i) g =
    ap₂ (best ks) (gather_same N ks live S S' f v h i (λ j l t. g j (le_step l) t))
    (brings_same ks (live i && eqb (N.edge i).to v) (N.edge i) S S'
    (λ t. f (N.edge i).from (g i (omega arith) (and_left (live i) (eqb (N.edge i).to v) t))))

module _ (N : Network) (ks : List ℕ) (fits : Fits N) where
  -- the round after a quiet one is quiet, and so are all after it
  pub quiet_next : (r : ℕ) → Quiet N ks r → Quiet N ks (suc r)
  unfolding state
  quiet_next r q v h = gather_same N ks N.usable (state N ks (suc r)) (state N ks r) q v h N.edges fits.from_fits

  quiet_later : (r : ℕ) → Quiet N ks r → (j : ℕ) → Quiet N ks (r + j)
  quiet_later r q zero = rw add-zero q
  quiet_later r q (suc j) = rw add-suc (quiet_next (r + j) (quiet_later r q j))

  -- every later state is the same
  pub quiet_same : (r : ℕ) → Quiet N ks r → (j v : ℕ) → v < N.vertices → state N ks (r + j) v ≡ state N ks r v
  quiet_same r q zero v h = ap (λ (t : ℕ). state N ks t v) (add-zero r)
  quiet_same r q (suc j) v h = ap (λ (t : ℕ). state N ks t v) (add-suc r j) ∙ quiet_later r q j v h ∙ quiet_same r q j v h

  -- and is the best over all walks: each walk is within some number of rounds
  quiet_optimal : T (in_order ks) → (r : ℕ) → Quiet N ks r → (v : ℕ) → v < N.vertices → Optimal N ks (AllTo N v) (state N ks r v)
  quiet_optimal ok r q v h =
      optimal_larger N ks (Within N r v) (AllTo N v) (state N ks r v) (state_optimal N ks ok r v) (λ s w p. (p.0, p.1))
      (λ s w p.
      optimal_shared N ks (Within N (r + length w) v) (Within N r v) (state N ks r v) (state_optimal N ks ok r v)
      (subst (Optimal N ks (Within N (r + length w) v)) (quiet_same r q (length w) v h) (state_optimal N ks ok (r + length w) v))
      s w (p.0, p.1, omega arith))

  -- the same in the words of the meaning
  pub quiet_figures : T (in_order ks) → (r : ℕ) → Quiet N ks r → (v : ℕ) → v < N.vertices → Figures N ks (AllTo N v) (state N ks r v)
  quiet_figures ok r q v h = optimal_figures N ks (AllTo N v) (state N ks r v) (quiet_optimal ok r q v h)
