-- The order of words is the order of figures by the keys, the first key first. Assumes nothing.
use Prim.Native.Nat.{ℕ, ◌+◌, ◌*◌, ◌-◌, ◌^◌, ◌≤◌, ◌<◌}
use mathlib.Core.Path.{◌≡◌, refl, sym, ap, ◌∙◌}
use mathlib.Core.Bool.{Bool, true, false, cond}
use mathlib.Core.List.{List, [], ◌∷◌, map}
use native.Mathlib.Omega.{arith}
use native.Mathlib.Decide.{dec_le}
use borrow.Author.Tests.{eqb-true, eqb-false, eq-eqb, le-leb, lt-leb, leb-true, leb-false}
use lib.Dec.{eqb, leb}
use Rattle.walks.specs.declared.Extreme.{Extreme}
use Rattle.walks.specs.declared.Extreme.TheVariants.{Least, Greatest}
use Rattle.walks.specs.Keys.{good?, kept}
use Rattle.walks.specs.Lists.{All}
use Rattle.walks.specs.Rounds.{precedes}
use Rattle.packed_figures.specs.Packed.{bits, code, distinct, flipped, room, total, without}
use Rattle.packed_figures.proofs.Sums.{lead, total_lt}

-- a figure as it stands in the word has room there, and is the figure again when it is flipped once more
pub flipped_lt : (d : Extreme) (n x : ℕ) → x < n → flipped d (n - 1) x < n
flipped_lt Least n x h = h
flipped_lt Greatest n x h = omega arith

pub flipped_twice : (d : Extreme) (n x : ℕ) → x < n → flipped d (n - 1) (flipped d (n - 1) x) ≡ x
flipped_twice Least n x h = refl
flipped_twice Greatest n x h = omega arith

-- the better of two different figures is the lesser there
better_lt : (d : Extreme) (n x y : ℕ) → x < n → y < n → (x ≡ y → ⊥) → (b : Bool) → good? d x y ≡ b
    → cond b (flipped d (n - 1) x < flipped d (n - 1) y) (flipped d (n - 1) y < flipped d (n - 1) x)
better_lt Least n x y h g o true e = omega (arith, leb-true x y e)
better_lt Least n x y h g o false e = omega (arith, leb-false x y e)
better_lt Greatest n x y h g o true e = omega (arith, leb-true y x e)
better_lt Greatest n x y h g o false e = omega (arith, leb-false y x e)

leb_add : (a t s : ℕ) → leb (a + t) (a + s) ≡ leb t s
leb_add a t s = go (dec_le t s)
  where
    go : Dec (t ≤ s) → leb (a + t) (a + s) ≡ leb t s
    go (yes l) = le-leb (a + t) (a + s) (omega arith) ∙ sym (le-leb t s l)
    go (no l) = lt-leb (a + t) (a + s) (omega arith) ∙ sym (lt-leb t s (omega arith))

module _ (f g : ℕ → ℕ) where
  -- xs and ys in the order of the keys
  abbrev ahead : List ℕ → Bool
  ahead ks = precedes ks (map f ks) (map g ks)

  differing : (k t s u : ℕ) → f k < room k → g k < room k → t < u → s < u → (f k ≡ g k → ⊥) → (b : Bool) → good? (kept k) (f k) (g k)
      ≡ b
      → leb (code k (f k) * u + t) (code k (g k) * u + s) ≡ b
  differing k t s u h i p q o true e =
      le-leb (code k (f k) * u + t) (code k (g k) * u + s) (omega (arith, lead _ _ u t s (better_lt (kept k) (room k) (f k) (g k) h i o true e) p))
  differing k t s u h i p q o false e = lt-leb _ _ (lead _ _ u s t (better_lt (kept k) (room k) (f k) (g k) h i o false e) q)

  pub sum_order : (ks : List ℕ) → All (λ k. f k < room k) ks → All (λ k. g k < room k) ks
      → leb (total (λ k. code k (f k)) ks) (total (λ k. code k (g k)) ks) ≡ ahead ks
  unfolding total
  sum_order [] h i = refl
  sum_order (k ∷ ks) h i = go (sum_order ks h.1 i.1) (coded f ks h.1) (coded g ks i.1) (eqb (f k) (g k)) refl
    where
      coded : (f : ℕ → ℕ) (ks : List ℕ) → All (λ k. f k < room k) ks → All (λ k. code k (f k) < room k) ks
      coded f [] h = tt
      coded f (k ∷ ks) h = (flipped_lt (kept k) (room k) (f k) h.0, coded f ks h.1)

      go : leb (total (λ k. code k (f k)) ks) (total (λ k. code k (g k)) ks) ≡ ahead ks
          → All (λ k. code k (f k) < room k) ks → All (λ k. code k (g k) < room k) ks
          → (b : Bool) → eqb (f k) (g k) ≡ b
          → leb (total (λ k. code k (f k)) (k ∷ ks)) (total (λ k. code k (g k)) (k ∷ ks)) ≡ cond b (ahead ks) (good? (kept k) (f k) (g k))
      go r p q true e = rw (eqb-true (f k) (g k) e) (leb_add (code k (g k) * 2 ^ bits ks) _ _ ∙ r)
      go r p q false e =
          differing k _ _ (2 ^ bits ks) h.0 i.0 (total_lt _ ks p) (total_lt _ ks q) (eqb-false (f k) (g k) e) (good? (kept k) (f k) (g k)) refl

  -- a key with equal figures decides nothing, so a repeated one does not
  without_order : (k : ℕ) → f k ≡ g k → (ks : List ℕ) → ahead (without k ks) ≡ ahead ks
  unfolding without
  without_order k p [] = refl
  without_order k p (j ∷ ks) = go (without_order k p ks) (eqb k j) refl
    where
      go : ahead (without k ks) ≡ ahead ks → (b : Bool) → eqb k j ≡ b → ahead (cond b (without k ks) (j ∷ without k ks)) ≡ ahead (j ∷ ks)
      go r true e = rw (eq-eqb (f j) (g j) (ap f (sym (eqb-true k j e)) ∙ p ∙ ap g (eqb-true k j e))) r
      go r false e = ap (λ (b : Bool). cond (eqb (f j) (g j)) b (good? (kept j) (f j) (g j))) r

  pub distinct_order : (ks : List ℕ) → ahead (distinct ks) ≡ ahead ks
  unfolding distinct
  distinct_order [] = refl
  distinct_order (k ∷ ks) = go (distinct_order ks) (eqb (f k) (g k)) refl
    where
      go : ahead (distinct ks) ≡ ahead ks → (b : Bool) → eqb (f k) (g k) ≡ b
          → cond b (ahead (without k (distinct ks))) (good? (kept k) (f k) (g k)) ≡ cond b (ahead ks) (good? (kept k) (f k) (g k))
      go r true e = without_order k (eqb-true (f k) (g k) e) (distinct ks) ∙ r
      go r false e = refl
