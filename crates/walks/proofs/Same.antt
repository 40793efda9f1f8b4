-- The tests of a round are what they test: equal figures, a vertex that keeps its own, a round that changes none. Assumes nothing.
use Prim.Native.Nat.{ℕ, zero, suc, ◌<◌}
use mathlib.Core.Path.{◌≡◌, refl, sym, ap, subst}
use mathlib.Core.List.{List, [], ◌∷◌}
use mathlib.Core.Option.{Option, none, some}
use native.Mathlib.Omega.{arith}
use native.Mathlib.Nat.{not-suc-le-zero}
use native.Mathlib.Decide.{ℕ_discrete}
use lib.Dec.{T, eqb, eqb→eq, eqb_refl}
use Rattle.walks.specs.Lists.{All}
use Rattle.walks.specs.Rounds.{State, quiet, same, same_list, unchanged}
use Rattle.walks.proofs.Tests.{and_both, and_left, and_right, le_step}

-- figures that pass the test are equal; equal ones pass it
pub same_list_eq : (xs ys : List ℕ) → T (same_list xs ys) → xs ≡ ys
same_list_eq [] [] t = refl
same_list_eq [] (y ∷ ys) t = absurd t
same_list_eq (x ∷ xs) [] t = absurd t
same_list_eq (x ∷ xs) (y ∷ ys) t =
    cc (eqb→eq x y (and_left (eqb x y) (same_list xs ys) t), same_list_eq xs ys (and_right (eqb x y) (same_list xs ys) t))

pub same_eq : (a b : Option (List ℕ)) → T (same a b) → a ≡ b
same_eq none none t = refl
same_eq none (some ys) t = absurd t
same_eq (some xs) none t = absurd t
same_eq (some xs) (some ys) t = ap some (same_list_eq xs ys t)

pub same_list_refl : (xs : List ℕ) → T (same_list xs xs)
same_list_refl [] = tt
same_list_refl (x ∷ xs) = and_both (eqb x x) (same_list xs xs) (eqb_refl x) (same_list_refl xs)

same_refl : (a : Option (List ℕ)) → T (same a a)
same_refl none = tt
same_refl (some xs) = same_list_refl xs

pub same_of : (a b : Option (List ℕ)) → a ≡ b → T (same a b)
same_of a b e = subst (λ (c : Option (List ℕ)). T (same a c)) e (same_refl a)

-- one path reduction: the round after r changes no vertex below n
module _ (S : ℕ → State) (r : ℕ) where
  -- each vertex keeps its figures; and where each does, the test passes
  pub unchanged_yes : (n : ℕ) → T (unchanged S r n) → (v : ℕ) → v < n → S (suc r) v ≡ S r v
  unchanged_yes zero t v h = absurd (not-suc-le-zero h)
  unchanged_yes (suc n) t v h = go (ℕ_discrete v n) (unchanged_yes n (and_right (same (S (suc r) n) (S r n)) (unchanged S r n) t) v)
    where
      go : Dec (v ≡ n) → (v < n → S (suc r) v ≡ S r v) → S (suc r) v ≡ S r v
      go (yes e) f =
          subst (λ (x : ℕ). S (suc r) x ≡ S r x) (sym e) (same_eq (S (suc r) n) (S r n) (and_left (same (S (suc r) n) (S r n)) (unchanged S r n) t))
      go (no e) f = f (omega arith)

  pub unchanged_of : (n : ℕ) → ((v : ℕ) → v < n → S (suc r) v ≡ S r v) → T (unchanged S r n)
  unchanged_of zero f = tt
  unchanged_of (suc n) f =
      and_both (same (S (suc r) n) (S r n)) (unchanged S r n) (same_of (S (suc r) n) (S r n) (f n (omega arith))) (unchanged_of n (λ v h. f v (le_step h)))

-- several path reductions: the round is quiet where it changes nothing for each
module _ (n : ℕ) where
  pub quiet_yes : (Ss : List (ℕ → State)) (r : ℕ) → T (quiet n Ss r) → All (λ S. T (unchanged S r n)) Ss
  quiet_yes [] r t = tt
  quiet_yes (S ∷ Ss) r t = (and_left (unchanged S r n) (quiet n Ss r) t, quiet_yes Ss r (and_right (unchanged S r n) (quiet n Ss r) t))

  pub quiet_of : (Ss : List (ℕ → State)) (r : ℕ) → All (λ S. T (unchanged S r n)) Ss → T (quiet n Ss r)
  quiet_of [] r h = tt
  quiet_of (S ∷ Ss) r h = and_both (unchanged S r n) (quiet n Ss r) h.0 (quiet_of Ss r h.1)
