-- THE WORDS LENT, one after the other. Assumes nothing.
use Prim.Native.Nat.{ℕ, ◌+◌, ◌*◌, ◌/◌, ◌%◌, ◌^◌, ◌≤◌, ◌<◌}
use mathlib.Core.Path.{◌≡◌, refl, ap, ◌∙◌}
use mathlib.Core.List.{List}
use native.Mathlib.Omega.{arith}
use native.Mathlib.Decide.{ℕ_discrete, dec_lt}
use lib.ListN.{length, get_or, set, length-set}
use lib.Seq.{get_or-set_same, get_or-set_other}
use Rattle.vertex_set.specs.Sets.{above, member}
use Rattle.vertex_set.proofs.Sets.{member_stored}
use Rattle.table.specs.Table.{lent}
use Rattle.table.specs.Steps.{Relent, word_in}

-- what stands before the words lent: the sets, and the words of the vertices
module _ (n : ℕ) (old new : List ℕ) (rest : (k : ℕ) → k < 32 + 8 * n → get_or new k 0 ≡ get_or old k 0) where
  pub marks_stay : (i v : ℕ) → i < 8 → v < 256 → member new i v ≡ member old i v
  unfolding member
  marks_stay i v h k = rw (rest (4 * i + v / 64) (omega arith))

  pub words_stay : (i v : ℕ) → i < 8 → v < n → word_in new i v ≡ word_in old i v
  words_stay i v h k = rest (32 + 8 * v + i) (omega arith)

-- the vertices below v lend, the others have what stood there
pub record Upto (n : ℕ) (L : ℕ → ℕ) (base l : List ℕ) (v : ℕ) : Type 0 where
  pub done : (u : ℕ) → u < v → lent n l u ≡ L u
  pub left : (u : ℕ) → v ≤ u → lent n l u ≡ lent n base u
  pub rest : (k : ℕ) → k < 32 + 8 * n → get_or l k 0 ≡ get_or base k 0
  pub size : length l ≡ length base

module _ (n : ℕ) (L : ℕ → ℕ) (base : List ℕ) where
  pub upto_none : Upto n L base base 0
  upto_none = record { done = λ u h. absurd (omega arith); left = λ u h. refl; rest = λ k h. refl; size = refl }

  -- one more
  pub upto_more : (l : List ℕ) (v x : ℕ) → 32 + 8 * n + v < length base → x ≡ L v → Upto n L base l v → Upto n L base (set l (32 + 8 * n + v) x)
      (v + 1)
  upto_more l v x room e p = record {
    done = λ u h. go u h (ℕ_discrete u v);
    left = λ u h. get_or-set_other l (32 + 8 * n + v) (32 + 8 * n + u) x 0 (λ q. omega (arith, q)) ∙ p.left u (omega arith);
    rest = λ k h. get_or-set_other l (32 + 8 * n + v) k x 0 (λ q. omega (arith, q)) ∙ p.rest k h;
    size = length-set l (32 + 8 * n + v) x ∙ p.size;
  }
    where
      go : (u : ℕ) → u < v + 1 → Dec (u ≡ v) → lent n (set l (32 + 8 * n + v) x) u ≡ L u
      go u h (yes q) = rw q (get_or-set_same l (32 + 8 * n + v) x 0 (omega (arith, p.size)) ∙ e)
      go u h (no q) = get_or-set_other l (32 + 8 * n + v) (32 + 8 * n + u) x 0 (λ r. q (omega (arith, r))) ∙ p.done u (omega arith)

  -- the sets, where one more lends
  pub marks_stored : (l : List ℕ) (v : ℕ) → Upto n L base l v → (j : ℕ) → j < 8 → (x y u : ℕ) → u < 256
      → member (set l (32 + 8 * n + x) y) j u ≡ member base j u
  marks_stored l v p j slot x y u k = member_stored l (32 + 8 * n + x) y j u k (omega arith) ∙ marks_stay n base l p.rest j u slot k

  pub above_stored : (l : List ℕ) (v : ℕ) → Upto n L base l v → (j : ℕ) → j < 8 → (x y u : ℕ) → u < 256
      → above (set l (32 + 8 * n + x) y) j u ≡ above base j u
  above_stored l v p j slot x y u k =
      ap (λ (w : ℕ). w / 2 ^ (u % 64 + 1))
      (get_or-set_other l (32 + 8 * n + x) (4 * j + u / 64) y 0 (λ e. omega (arith, e)) ∙ p.rest (4 * j + u / 64) (omega arith))

  -- those that have what they shall lend are passed over
  pub upto_passed : (l : List ℕ) (v w : ℕ) → v ≤ w → ((u : ℕ) → v ≤ u → u < w → lent n base u ≡ L u) → Upto n L base l v → Upto n L
      base l w
  upto_passed l v w up there p = record {
    done = λ u h. go u h (dec_lt u v);
    left = λ u h. p.left u (omega arith);
    rest = p.rest;
    size = p.size;
  }
    where
      go : (u : ℕ) → u < w → Dec (u < v) → lent n l u ≡ L u
      go u h (yes k) = p.done u k
      go u h (no k) = p.left u (omega arith) ∙ there u (omega arith) h

  -- all n
  pub upto_all : (l : List ℕ) (v : ℕ) → n ≤ v → Upto n L base l v → Relent n L base l
  upto_all l v h p = record { words = λ u k. p.done u (omega arith); rest = p.rest; size = p.size }
