-- The number of one key in a sum, from the sum by a shift and a mask. Assumes nothing.
use Prim.Native.Nat.{ℕ, ◌+◌, ◌*◌, ◌-◌, ◌/◌, ◌%◌, ◌^◌, ◌<◌}
use mathlib.Core.Path.{◌≡◌, refl, ap, ◌∙◌}
use mathlib.Core.Bool.{Bool, true, false, cond}
use mathlib.Core.List.{List, [], ◌∷◌}
use native.Mathlib.Omega.{arith}
use borrow.Author.Tests.{eqb-true}
use lib.Bits.{bit_and, and_mask}
use lib.Dec.{eqb, T}
use lib.Pow.{high, low}
use Rattle.walks.specs.Keys.{measure}
use Rattle.walks.specs.Lists.{All}
use Rattle.packed_figures.specs.Packed.{bits, room, shift_of, total, width}
use Rattle.packed_figures.proofs.Distinct.{among}
use Rattle.packed_figures.proofs.Sums.{rooms, total_lt}

-- the number x stands in t above s bits, of u in all, with others above it and below it
record Stands (j t u s x : ℕ) : Type 0 where
  above : ℕ
  below : ℕ
  size : ℕ
  is : t ≡ (above * room j + x) * 2 ^ s + below
  less : below < 2 ^ s
  sized : u ≡ size * (room j * 2 ^ s)

module _ (f : ℕ → ℕ) (j : ℕ) where
  stands : (ks : List ℕ) → All (λ k. f k < room k) ks → T (among j ks) → Stands j (total f ks) (2 ^ bits ks) (shift_of j ks) (f j)
  unfolding total shift_of
  stands [] h t = absurd t
  stands (k ∷ ks) h t = go (stands ks h.1) (eqb k j) refl t
    where
      first : k ≡ j → Stands j (total f (k ∷ ks)) (2 ^ bits (k ∷ ks)) (bits ks) (f j)
      first e = record {
        above = 0;
        below = total f ks;
        size = 1;
        is = rw e (omega arith);
        less = total_lt f ks h.1;
        sized = rw (rooms k ks, e) (omega arith);
      }

      after : Stands j (total f ks) (2 ^ bits ks) (shift_of j ks) (f j) → Stands j (total f (k ∷ ks)) (2 ^ bits (k ∷ ks)) (shift_of j ks) (f j)
      after d = record {
        above = f k * d.size + d.above;
        below = d.below;
        size = room k * d.size;
        is = rw (d.sized, d.is) (omega arith);
        less = d.less;
        sized = rw (rooms k ks, d.sized) (omega arith);
      }

      go : (T (among j ks) → Stands j (total f ks) (2 ^ bits ks) (shift_of j ks) (f j)) → (b : Bool) → eqb k j ≡ b → T (cond b true (among j ks))
          → Stands j (total f (k ∷ ks)) (2 ^ bits (k ∷ ks)) (cond b (bits ks) (shift_of j ks)) (f j)
      go r true e u = first (eqb-true k j e)
      go r false e u = after (r u)

  -- A KEY'S NUMBER BY SHIFT AND MASK
  pub digit : (ks : List ℕ) → All (λ k. f k < room k) ks → f j < room j → T (among j ks) → bit_and (total f ks / 2 ^ shift_of j ks) (room j - 1)
      ≡ f j
  digit ks h l t =
      let d = stands ks h t in
      and_mask (total f ks / 2 ^ shift_of j ks) (width (measure j))
      ∙ ap (λ (x : ℕ). x / 2 ^ shift_of j ks % room j) d.is
      ∙ ap (λ (x : ℕ). x % room j) (high (d.above * room j + f j) (shift_of j ks) d.less)
      ∙ low d.above (width (measure j)) l
