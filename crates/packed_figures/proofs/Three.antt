-- The constants of three keys, as the program computes them, are those of their list, and those of a number of keys are its keys'. Assumes nothing.
use Prim.Native.Nat.{ℕ, zero, suc, ◌+◌, ◌*◌, ◌/◌, ◌%◌}
use mathlib.Core.Path.{◌≡◌, refl, sym, ap, ap₂, ◌∙◌}
use mathlib.Core.Bool.{Bool, true, false, cond}
use mathlib.Core.List.{List, [], ◌∷◌}
use native.Mathlib.Omega.{arith}
use native.Mathlib.Nat.{add-zero, zero-add}
use borrow.Author.Tests.{eq-eqb, le-ltb}
use lib.Dec.{T, eqb, ltb}
use lib.ListN.{take}
use lib.Seq.{take-nil}
use Rattle.walks.specs.Keys.{legal_keys, measure}
use Rattle.packed_figures.specs.Packed.{bits, constants, distinct, shift_of, total, unit_of, width, without}
use Rattle.packed_figures.specs.Steps.{last_shift, path_keys, unit_among, units_of}

pick : (b : Bool) (u : ℕ) → cond b u 0 ≡ cond b 1 0 * u
pick true u = omega arith
pick false u = omega arith

module _ (a b c : ℕ) where
  three_total : (f : ℕ → ℕ) → f a * (units_of a b c).first + f b * (units_of a b c).second + f c * (units_of a b c).third
      ≡ total f (distinct (a ∷ b ∷ c ∷ []))
  unfolding units_of total bits distinct without
  three_total f = go (eqb b c) (eqb a b) (eqb a c) refl refl refl
    where
      go : (z x y : Bool) → eqb b c ≡ z → eqb a b ≡ x → eqb a c ≡ y
          → f a * (units_of a b c).first + f b * (units_of a b c).second + f c * (units_of a b c).third ≡ total f (distinct (a ∷ b ∷ c ∷ []))
      go true true true r p q = rw (r, p, q) (omega arith)
      go true true false r p q = rw (r, p, q) (omega arith)
      go true false true r p q = rw (r, p, q) (omega arith)
      go true false false r p q = rw (r, p, q) (omega arith)
      go false true true r p q = rw (r, p, q) (omega arith)
      go false true false r p q = rw (r, p, q, zero-add (width (measure c)), add-zero (width (measure c))) (omega arith)
      go false false true r p q = rw (r, p, q) (omega arith)
      go false false false r p q = rw (r, p, q, add-zero (width (measure c))) (omega arith)

  pub three_unit : (j : ℕ) → unit_among j a b c (units_of a b c) ≡ unit_of j (distinct (a ∷ b ∷ c ∷ []))
  three_unit j =
      ap₂ ◌+◌ (ap₂ ◌+◌ (pick (eqb a j) (units_of a b c).first) (pick (eqb b j) (units_of a b c).second)) (pick (eqb c j) (units_of a b c).third)
      ∙ three_total (λ k. cond (eqb k j) 1 0)

  pub three_shift : last_shift a b c ≡ shift_of c (distinct (a ∷ b ∷ c ∷ []))
  unfolding last_shift shift_of bits distinct without
  three_shift = go (eqb b c) (eqb a b) (eqb a c) refl refl refl
    where
      go : (z x y : Bool) → eqb b c ≡ z → eqb a b ≡ x → eqb a c ≡ y → last_shift a b c ≡ shift_of c (distinct (a ∷ b ∷ c ∷ []))
      go true true true r p q = rw (r, p, q) (omega arith)
      go true true false r p q = rw (r, p, q) (omega arith)
      go true false true r p q = rw (r, p, q) (omega arith)
      go true false false r p q = rw (r, p, q, r) (omega arith)
      go false true true r p q = rw (r, p, q) (omega arith)
      go false true false r p q = rw (r, p, q, eq-eqb c c refl) (omega arith)
      go false false true r p q = rw (r, p, q) (omega arith)
      go false false false r p q = rw (r, p, q, r, eq-eqb c c refl) (omega arith)

-- the first q of three keys, and the same with the last again
again : (q a b d : ℕ) → T (legal_keys (take q (a ∷ b ∷ d ∷ [])))
    → constants (a ∷ cond (ltb q 2) a b ∷ cond (ltb q 3) (cond (ltb q 2) a b) d ∷ []) ≡ constants (take q (a ∷ b ∷ d ∷ []))
unfolding constants distinct without
again zero a b d t = absurd t
again (suc zero) a b d t = rw (eq-eqb a a refl) refl
again (suc (suc zero)) a b d t = rw (eq-eqb b b refl) refl
again (suc (suc (suc q))) a b d t =
    ap₂ (λ (s u : Bool). constants (a ∷ cond s a b ∷ cond u (cond s a b) d ∷ []))
    (le-ltb (suc (suc (suc q))) 2 (omega arith)) (le-ltb (suc (suc (suc q))) 3 (omega arith))
    ∙ ap (λ (l : List ℕ). constants (a ∷ b ∷ d ∷ l)) (sym (take-nil q))

-- THE CONSTANTS OF A NUMBER OF KEYS are those of its keys
pub path_constants_are : (x : ℕ) → T (legal_keys (take (x % 256) (x / 256 % 256 ∷ x / 65536 % 256 ∷ x / 16777216 % 256 ∷ [])))
    → constants (path_keys x) ≡ constants (take (x % 256) (x / 256 % 256 ∷ x / 65536 % 256 ∷ x / 16777216 % 256 ∷ []))
path_constants_are x = again (x % 256) (x / 256 % 256) (x / 65536 % 256) (x / 16777216 % 256)
