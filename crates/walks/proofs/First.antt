-- The search finds the first round that passes its test; of two tests that pass ever after, the first round that passes both is the later one. Assumes nothing.
use Prim.Native.Nat.{ℕ, zero, suc, ◌+◌, ◌-◌, ◌≤◌, ◌<◌, max}
use mathlib.Core.Path.{◌≡◌, refl, subst}
use mathlib.Core.Bool.{Bool, true, false, ◌&&◌}
use native.Mathlib.Omega.{arith}
use native.Mathlib.Nat.{add-zero, add-suc}
use native.Mathlib.Decide.{ℕ_discrete, dec_lt}
use lib.Dec.{T}
use Rattle.walks.specs.Rounds.{first}
use Rattle.walks.proofs.Tests.{T_of, and_both, and_left, and_right}

-- a is the number, counted from 1, of the first round after round r that passes
pub record First (q : ℕ → Bool) (r a : ℕ) : Type 0 where
  pub at : ℕ
  pub number : a ≡ suc at
  pub after : r ≤ at
  pub passes : T (q at)
  pub none_before : (j : ℕ) → r ≤ j → j < at → T (q j) → ⊥

-- once it passes it passes ever after
abbrev pub Stays : (ℕ → Bool) → Type 0
Stays q = (r : ℕ) → T (q r) → T (q (suc r))

module _ (q : ℕ → Bool) where
  -- the next round, where it passes
  pub at_once : (r : ℕ) → T (q r) → First q r (suc r)
  at_once r t = record { at = r; number = refl; after = omega arith; passes = t; none_before = λ j h g u. omega arith }

  not_yet : (r a : ℕ) → (T (q r) → ⊥) → First q (suc r) a → First q r a
  not_yet r a n f = record { at = f.at; number = f.number; after = omega (arith, f.after); passes = f.passes; none_before = before }
    where
      go : (j : ℕ) → r ≤ j → j < f.at → T (q j) → Dec (j ≡ r) → ⊥
      go j h g t (yes e) = n (subst (λ (x : ℕ). T (q x)) e t)
      go j h g t (no e) = f.none_before j (omega arith) g t

      before : (j : ℕ) → r ≤ j → j < f.at → T (q j) → ⊥
      before j h g t = go j h g t (ℕ_discrete j r)

  step : (d r j : ℕ) → r ≤ j → T (q j) → (suc r ≤ j → First q (suc r) (first q d (suc r))) → (b : Bool) → q r ≡ b
      → First q r (elim b [ true ↦ suc r | false ↦ first q d (suc r) ])
  step d r j h t f true e = at_once r (T_of e)
  step d r j h t f false e = not_yet r _ (subst T e) (f (later (ℕ_discrete j r)))
    where
      later : Dec (j ≡ r) → suc r ≤ j
      later (yes p) = absurd (subst T e (subst (λ (x : ℕ). T (q x)) p t))
      later (no p) = omega arith

  -- the search finds it, where a round within its reach passes
  pub first_finds : (d r j : ℕ) → r ≤ j → j ≤ r + d → T (q j) → First q r (first q d r)
  unfolding first
  first_finds zero r j h g t = at_once r (subst (λ (x : ℕ). T (q x)) (let e : j ≡ r = omega arith in e) t)
  first_finds (suc d) r j h g t = step d r j h t (λ l. first_finds d (suc r) j l (omega arith) t) (q r) refl

  -- no passing round comes before it; so it is unique
  pub first_le : (r a j : ℕ) → First q r a → r ≤ j → T (q j) → a ≤ suc j
  first_le r a j f h t =
      let n : ¬ (j < f.at) = λ l. f.none_before j h l t in
      omega (arith, f.number)

  pub first_unique : (r a b : ℕ) → First q r a → First q r b → a ≡ b
  first_unique r a b f g =
      let x : a ≤ suc g.at = first_le r a g.at f g.after g.passes in
      let y : b ≤ suc f.at = first_le r b f.at g f.after f.passes in
      omega (arith, f.number, g.number)

  stays_add : Stays q → (r j : ℕ) → T (q r) → T (q (r + j))
  stays_add s r zero t = rw add-zero t
  stays_add s r (suc j) t = rw add-suc (s (r + j) (stays_add s r j t))

  -- passed once, passed in every later round
  stays_later : Stays q → (r r' : ℕ) → r ≤ r' → T (q r) → T (q r')
  stays_later s r r' h t = go (r' - r) (omega arith)
    where
      go : (j : ℕ) → r + j ≡ r' → T (q r')
      go j e = subst (λ (x : ℕ). T (q x)) e (stays_add s r j t)

-- the first round that passes two tests is the later of their own
module _ (q p : ℕ → Bool) (sq : Stays q) (sp : Stays p) where
  pub first_both : (a b : ℕ) → First q zero a → First p zero b → First (λ r. q r && p r) zero (max a b)
  first_both a b f g = record {
    at = max f.at g.at;
    number = omega (arith, f.number, g.number);
    after = omega arith;
    passes = and_both (q _) (p _) (stays_later q sq f.at _ (omega arith) f.passes) (stays_later p sp g.at _ (omega arith) g.passes);
    none_before = before;
  }
    where
      before : (j : ℕ) → zero ≤ j → j < max f.at g.at → T (q j && p j) → ⊥
      before j h l t = go (dec_lt j f.at)
        where
          go : Dec (j < f.at) → ⊥
          go (yes x) = f.none_before j h x (and_left (q j) (p j) t)
          go (no x) = g.none_before j h (omega arith) (and_right (q j) (p j) t)
