-- Several path reductions run together: the first round in which none changes is the greatest of the separate ones, at most round 2n, and each then has its
-- figures over all walks. Assumes nothing.
use Prim.Native.Nat.{ℕ, zero, suc, ◌-◌, ◌*◌, ◌≤◌, ◌<◌, max}
use mathlib.Core.Path.{◌≡◌, sym, ap, subst, fun_ext}
use mathlib.Core.Bool.{Bool, ◌&&◌, and-true}
use mathlib.Core.List.{List, [], ◌∷◌}
use native.Mathlib.Omega.{arith}
use lib.Dec.{T}
use Rattle.walks.specs.Keys.{in_order}
use Rattle.walks.specs.Lists.{All}
use Rattle.walks.specs.Meaning.{Figures}
use Rattle.walks.specs.Rounds.{State, quiet, rounds, state, unchanged}
use Rattle.walks.specs.Walks.{AllTo, Fits, Network}
use Rattle.walks.proofs.Bound.{settled_quiet}
use Rattle.walks.proofs.First.{First, Stays, at_once, first_both, first_finds, first_le, first_unique}
use Rattle.walks.proofs.Quiet.{quiet_figures, quiet_next}
use Rattle.walks.proofs.Same.{unchanged_of, unchanged_yes}
use Rattle.walks.proofs.Tests.{and_both, and_left, and_right}

-- what is used of one: a round that changes nothing is followed by such rounds, and round 2n is one
abbrev pub Settles : ℕ → (ℕ → State) → Type 0
Settles n S = Stays (λ r. unchanged S r n) × T (unchanged S (2 * n - 1) n)

-- the rounds of a network settle
pub state_settles : (N : Network) (ks : List ℕ) → T (in_order ks) → Fits N → Settles N.vertices (state N ks)
state_settles N ks ok fits = (
  λ r t. unchanged_of (state N ks) (suc r) N.vertices (quiet_next N ks fits r (unchanged_yes (state N ks) r N.vertices t)),
  unchanged_of (state N ks) (2 * N.vertices - 1) N.vertices (settled_quiet N ks ok fits (2 * N.vertices - 1) (omega arith)),
)

module _ (n : ℕ) where
  -- and so they do together
  all_settle : (Ss : List (ℕ → State)) → All (Settles n) Ss → Stays (quiet n Ss) × T (quiet n Ss (2 * n - 1))
  all_settle [] s = (λ r t. tt, tt)
  all_settle (S ∷ Ss) s = go (all_settle Ss s.1)
    where
      go : Stays (quiet n Ss) × T (quiet n Ss (2 * n - 1)) → Stays (quiet n (S ∷ Ss)) × T (quiet n (S ∷ Ss) (2 * n - 1))
      go t = (
        λ r u.
            and_both (unchanged S (suc r) n) (quiet n Ss (suc r)) (s.0.0 r (and_left (unchanged S r n) (quiet n Ss r) u))
            (t.0 r (and_right (unchanged S r n) (quiet n Ss r) u)),
        and_both (unchanged S (2 * n - 1) n) (quiet n Ss (2 * n - 1)) s.0.1 t.1,
      )

  -- THE ROUNDS ARE THE FIRST THAT CHANGES NOTHING, AT MOST 2n
  pub rounds_first : (Ss : List (ℕ → State)) → All (Settles n) Ss → First (quiet n Ss) zero (rounds n Ss)
  unfolding rounds
  rounds_first Ss s = first_finds (quiet n Ss) (2 * n) zero (2 * n - 1) (omega arith) (omega arith) (all_settle Ss s).1

  pub rounds_bound : 0 < n → (Ss : List (ℕ → State)) → All (Settles n) Ss → rounds n Ss ≤ 2 * n
  rounds_bound h Ss s =
      let b = first_le (quiet n Ss) zero (rounds n Ss) (2 * n - 1) (rounds_first Ss s) (omega arith) (all_settle Ss s).1 in
      omega arith

  -- "With no chain that is round 1."
  pub rounds_none : rounds n [] ≡ 1
  rounds_none = first_unique (quiet n []) zero (rounds n []) 1 (rounds_first [] tt) (at_once (quiet n []) zero tt)

  -- the greatest of the separate counts
  abbrev pub greatest_rounds : List (ℕ → State) → ℕ
  greatest_rounds [] = 1
  greatest_rounds (S ∷ Ss) = max (rounds n (S ∷ [])) (greatest_rounds Ss)

  greatest_first : (Ss : List (ℕ → State)) → All (Settles n) Ss → First (quiet n Ss) zero (greatest_rounds Ss)
  greatest_first [] s = at_once (quiet n []) zero tt
  greatest_first (S ∷ Ss) s =
      subst (λ (q : ℕ → Bool). First q zero (greatest_rounds (S ∷ Ss)))
      (fun_ext (λ r. ap (λ (t : Bool). t && quiet n Ss r) (and-true (unchanged S r n))))
      (first_both (quiet n (S ∷ [])) (quiet n Ss) (all_settle (S ∷ []) (s.0, tt)).0 (all_settle Ss s.1).0 (rounds n (S ∷ [])) (greatest_rounds Ss)
      (rounds_first (S ∷ []) (s.0, tt)) (greatest_first Ss s.1))

  pub rounds_greatest : (Ss : List (ℕ → State)) → All (Settles n) Ss → rounds n Ss ≡ greatest_rounds Ss
  rounds_greatest Ss s = first_unique (quiet n Ss) zero (rounds n Ss) (greatest_rounds Ss) (rounds_first Ss s) (greatest_first Ss s)

-- after a round that changed nothing, the figures are those over all walks
pub quiet_round_figures : (N : Network) (ks : List ℕ) → T (in_order ks) → Fits N → (r : ℕ) → T (unchanged (state N ks) r N.vertices)
    → (v : ℕ) → v < N.vertices → Figures N ks (AllTo N v) (state N ks (suc r) v)
quiet_round_figures N ks ok fits r t v h =
    let q = unchanged_yes (state N ks) r N.vertices t in
    subst (Figures N ks (AllTo N v)) (sym (q v h)) (quiet_figures N ks fits ok r q v h)
