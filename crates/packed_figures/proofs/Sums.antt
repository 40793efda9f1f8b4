-- Sums of a number for each key, each above the bits of the keys after it. Assumes nothing.
use Prim.Native.Nat.{ℕ, suc, ◌+◌, ◌*◌, ◌^◌, ◌≤◌, ◌<◌}
use mathlib.Core.Path.{◌≡◌, refl}
use mathlib.Core.List.{List, [], ◌∷◌, ◌++◌}
use native.Mathlib.Omega.{arith}
use native.Mathlib.Nat.{mul-le-mul_right}
use lib.Pow.{pow-add}
use Rattle.walks.specs.Keys.{measure}
use Rattle.walks.specs.Lists.{All}
use Rattle.packed_figures.specs.Packed.{bits, room, total, width}

-- the room of a key and those after it
pub rooms : (k : ℕ) (ks : List ℕ) → 2 ^ bits (k ∷ ks) ≡ room k * 2 ^ bits ks
unfolding bits
rooms k ks = pow-add 2 (width (measure k)) (bits ks)

-- a is less in its first place
pub lead : (a b u t s : ℕ) → a < b → t < u → a * u + t < b * u + s
lead a b u t s h g = omega (arith, mul-le-mul_right u (let l : suc a ≤ b = h in l))

module _ (f g : ℕ → ℕ) where
  pub total_same : (ks : List ℕ) → All (λ k. f k ≡ g k) ks → total f ks ≡ total g ks
  unfolding total
  total_same [] h = refl
  total_same (k ∷ ks) h = rw (h.0, total_same ks h.1)

-- each has room: so has the sum
pub total_lt : (f : ℕ → ℕ) (ks : List ℕ) → All (λ k. f k < room k) ks → total f ks < 2 ^ bits ks
unfolding total bits
total_lt f [] h = omega arith
total_lt f (k ∷ ks) h = rw (rooms k ks) (omega (arith, lead (f k) (room k) (2 ^ bits ks) (total f ks) 0 h.0 (total_lt f ks h.1)))

-- what is added to each is added to the sum
pub total_linear : (h f g i : ℕ → ℕ) (v w : ℕ) (ks : List ℕ) → All (λ k. h k ≡ f k + g k * v + i k * w) ks
    → total h ks ≡ total f ks + total g ks * v + total i ks * w
unfolding total
total_linear h f g i v w [] e = omega arith
total_linear h f g i v w (k ∷ ks) e = rw (e.0, total_linear h f g i v w ks e.1) (omega arith)

pub total_zero : (ks : List ℕ) → total (λ k. 0) ks ≡ 0
unfolding total
total_zero [] = refl
total_zero (k ∷ ks) = rw (total_zero ks) (omega arith)

-- of the keys `ks` and k after them
pub total_snoc : (f : ℕ → ℕ) (ks : List ℕ) (k : ℕ) → total f (ks ++ (k ∷ [])) ≡ total f ks * room k + f k
unfolding total bits
total_snoc f [] k = omega arith
total_snoc f (j ∷ ks) k = rw (bits_snoc ks k, total_snoc f ks k) (omega arith)
  where
    bits_snoc : (ks : List ℕ) (k : ℕ) → 2 ^ bits (ks ++ (k ∷ [])) ≡ 2 ^ bits ks * room k
    bits_snoc [] k = rw (rooms k []) (omega arith)
    bits_snoc (j ∷ ks) k = rw (rooms j (ks ++ (k ∷ [])), bits_snoc ks k, rooms j ks) (omega arith)
