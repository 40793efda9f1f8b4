-- A list of different numbers below n has at most n. Assumes nothing.
use Prim.Native.Nat.{ℕ, zero, suc, ◌≤◌, ◌<◌}
use mathlib.Core.Path.{◌≡◌, refl, sym, ap, ◌∙◌, subst}
use mathlib.Core.Logic.{◌⊎◌, inl, inr}
use mathlib.Core.List.{List, [], ◌∷◌}
use native.Mathlib.Omega.{arith}
use native.Mathlib.Nat.{not-suc-le-zero}
use native.Mathlib.Decide.{ℕ_discrete}
use lib.ListN.{length}

-- v stands in the list; no element stands twice
module _ {A : Type 0} where
  abbrev pub In : A → List A → Type 0
  In v [] = ⊥
  In v (x ∷ l) = (v ≡ x) ⊎ In v l

  abbrev pub Distinct : List A → Type 0
  Distinct [] = Unit {0}
  Distinct (x ∷ l) = (In x l → ⊥) × Distinct l

in_cons : (v x : ℕ) (l : List ℕ) → Dec (v ≡ x) → Dec (In v l) → Dec (In v (x ∷ l))
in_cons v x l (yes e) d = yes (inl e)
in_cons v x l (no n) (yes h) = yes (inr h)
in_cons v x l (no n) (no m) = no neither
  where
    neither : In v (x ∷ l) → ⊥
    neither (inl e) = n e
    neither (inr h) = m h

-- whether a number stands in a list is decided
pub in_dec : (v : ℕ) (l : List ℕ) → Dec (In v l)
in_dec v [] = no (λ h. h)
in_dec v (x ∷ l) = in_cons v x l (ℕ_discrete v x) (in_dec v l)

-- the list without y
abbrev Without : ℕ → List ℕ → Type 0
Without y l = (l' : List ℕ) × (length l ≡ suc (length l')) × Distinct l' × ((x : ℕ) → In x l' → In x l × (x ≡ y → ⊥))

without_cons : (y x : ℕ) (l : List ℕ) → Distinct (x ∷ l) → In y l → Without y l → Without y (x ∷ l)
without_cons y x l d h (l') = (x ∷ l'.0, ap suc l'.1, (λ i. d.0 (l'.3 x i).0, l'.2), back)
  where
    back : (z : ℕ) → In z (x ∷ l'.0) → In z (x ∷ l) × (z ≡ y → ⊥)
    back z (inl e) = (inl e, λ f. d.0 (subst (λ (t : ℕ). In t l) (sym f ∙ e) h))
    back z (inr i) = (inr (l'.3 z i).0, (l'.3 z i).1)

without : (y : ℕ) (l : List ℕ) → Distinct l → In y l → Without y l
without y [] d h = absurd h
without y (x ∷ l) d (inl e) = (l, refl, d.1, λ z i. (inr i, λ f. d.0 (subst (λ (t : ℕ). In t l) (f ∙ e) i)))
without y (x ∷ l) d (inr h) = without_cons y x l d h (without y l d.1 h)

-- A LIST OF DIFFERENT NUMBERS BELOW n IS NO LONGER THAN n
pub pigeons : (n : ℕ) (l : List ℕ) → Distinct l → ((x : ℕ) → In x l → x < n) → length l ≤ n
pigeons zero [] d f = omega arith
pigeons zero (x ∷ l) d f = absurd (not-suc-le-zero (f x (inl refl)))
pigeons (suc n) l d f = go (λ l'. pigeons n l') (in_dec n l)
  where
    below : (x : ℕ) → x < suc n → (x ≡ n → ⊥) → x < n
    below x h g = omega arith

    go : ((l' : List ℕ) → Distinct l' → ((x : ℕ) → In x l' → x < n) → length l' ≤ n) → Dec (In n l) → length l ≤ suc n
    go ih (yes h) =
        let u = without n l d h in
        let b : length u.0 ≤ n = ih u.0 u.2 (λ x i. below x (f x (u.3 x i).0) (u.3 x i).1) in
        omega (arith, u.1)
    go ih (no h) =
        let b : length l ≤ n = ih l d (λ x i. below x (f x i) (λ e. h (subst (λ (t : ℕ). In t l) e i))) in
        omega arith
