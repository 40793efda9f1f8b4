-- What a loop over the edges cites: a round done edge by edge (`gather`), on any table that agrees with the state after r rounds at the vertices, is the next
-- state, by pull and by push. Assumes nothing.
use Prim.Native.Nat.{ℕ, zero, suc, ◌<◌}
use mathlib.Core.Path.{◌≡◌, refl, ap, ap₂, ◌∙◌}
use mathlib.Core.Bool.{Bool, true, false, ◌&&◌}
use mathlib.Core.List.{List}
use native.Mathlib.Omega.{arith}
use lib.Dec.{T, eqb}
use Rattle.walks.specs.Keys.{in_order}
use Rattle.walks.specs.Rounds.{State, best, brings, gather, state}
use Rattle.walks.specs.Walks.{Fits, Network}
use Rattle.walks.proofs.Push.{fresh, push_pull}
use Rattle.walks.proofs.Quiet.{gather_same}
use Rattle.walks.proofs.Tests.{and_left, le_step}

-- by another test that agrees
pub gather_live : (N : Network) (ks : List ℕ) (live live' : ℕ → Bool) (S : State) (v m : ℕ) → ((i : ℕ) → i < m → live i ≡ live' i)
    → gather N ks live S v m ≡ gather N ks live' S v m
unfolding gather
gather_live N ks live live' S v zero f = refl
gather_live N ks live live' S v (suc i) f =
    ap₂ (best ks) (gather_live N ks live live' S v i (λ j h. f j (le_step h)))
    (ap (λ (b : Bool). brings (b && eqb (N.edge i).to v) ks (N.edge i) S) (f i (omega arith)))

-- two tests that agree where a first one holds
by_test : (a b c : Bool) → (T a → b ≡ c) → a && b ≡ a && c
by_test true b c e = e tt
by_test false b c e = refl

module _ (N : Network) (ks : List ℕ) (fits : Fits N) (r : ℕ) (S : State) (agrees : (u : ℕ) → u < N.vertices → S u ≡ state N ks r u) where
  -- over all usable edges
  pub pull_steps : (v : ℕ) → v < N.vertices → gather N ks N.usable S v N.edges ≡ state N ks (suc r) v
  unfolding state
  pull_steps v h = gather_same N ks N.usable S (state N ks r) agrees v h N.edges fits.from_fits

  -- over the edges from marked vertices: those that changed in the round before (`fresh`)
  pub push_steps : T (in_order ks) → (marks : ℕ → Bool) → ((u : ℕ) → u < N.vertices → marks u ≡ fresh N ks r u) → (v : ℕ)
      → v < N.vertices
      → gather N ks (λ i. N.usable i && marks (N.edge i).from) S v N.edges ≡ state N ks (suc r) v
  push_steps ok marks m v h =
      gather_live N ks (λ i. N.usable i && marks (N.edge i).from) (λ i. N.usable i && fresh N ks r (N.edge i).from) S v N.edges same
      ∙ gather_same N ks (λ i. N.usable i && fresh N ks r (N.edge i).from) S (state N ks r) agrees v h N.edges
      (λ i l t. fits.from_fits i l (and_left (N.usable i) (fresh N ks r (N.edge i).from) t))
      ∙ push_pull N ks ok r v
    where
      same : (i : ℕ) → i < N.edges → (N.usable i && marks (N.edge i).from) ≡ (N.usable i && fresh N ks r (N.edge i).from)
      same i l = by_test (N.usable i) (marks (N.edge i).from) (fresh N ks r (N.edge i).from) (λ t. m (N.edge i).from (fits.from_fits i l t))
