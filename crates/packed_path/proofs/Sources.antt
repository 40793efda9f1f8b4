-- Sources as two numbers of 64 bits, a byte each, and back. Assumes nothing.
use Prim.Native.Nat.{ℕ, zero, suc, ◌+◌, ◌-◌, ◌*◌, ◌/◌, ◌%◌, ◌^◌, ◌≤◌, ◌<◌}
use mathlib.Core.Path.{◌≡◌, refl, sym, ap, ap₂, ◌∙◌}
use mathlib.Core.Bool.{true}
use mathlib.Core.List.{List, [], ◌∷◌}
use native.Mathlib.Decide.{ℕ_discrete}
use native.Mathlib.Omega.{arith}
use borrow.Author.Tests.{eq-eqb, ne_eqb}
use lib.Dec.{eqb}
use lib.ListN.{length}
use Rattle.meaning.specs.Query.{member}
use Rattle.walks.specs.Lists.{All}
use Rattle.packed_path.specs.declared.PackedPath.{PackedPath}
use Rattle.packed_path.specs.Packed.{bytes_of, number_of, sources_of, with_first, with_sources}
use Rattle.packed_path.specs.Steps.{begins, first_of, rest_of}

-- bytes come back from their number
pub bytes_back : (bs : List ℕ) → All (λ b. b < 256) bs → bytes_of (length bs) (number_of bs) ≡ bs
bytes_back [] h = refl
bytes_back (b ∷ bs) h =
    let below : b < 256 = h.0 in
    let lowest : (b + 256 * number_of bs) % 256 ≡ b = omega arith in
    let others : (b + 256 * number_of bs) / 256 ≡ number_of bs = omega arith in
    ap₂ (λ (x : ℕ) (l : List ℕ). x ∷ l) lowest (ap (bytes_of (length bs)) others ∙ bytes_back bs h.1)

-- both halves of a number
halves : (x : ℕ) → x % 18446744073709551616 + 18446744073709551616 * (x / 18446744073709551616) ≡ x
halves x = omega arith

-- SOURCES COME BACK from their numbers
pub sources_back : (keys : ℕ) (ss : List ℕ) → All (λ s. s < 256) ss → sources_of (with_sources keys ss) ≡ ss
unfolding sources_of
sources_back keys ss h = ap (bytes_of (length ss)) (halves (number_of ss)) ∙ bytes_back ss h

-- the first source and the others, of a path reduction that has any
pub sources_first : (p : PackedPath) → 0 < p.count → sources_of p ≡ first_of p ∷ sources_of (rest_of p)
unfolding sources_of rest_of
sources_first p h =
    let whole = p.low + 18446744073709551616 * p.high in
    let count : p.count ≡ suc (p.count - 1) = omega arith in
    let lowest : whole % 256 ≡ p.low % 256 = omega arith in
    let others : whole / 256 ≡ p.low / 256 + 72057594037927936 * (p.high % 256) + 18446744073709551616 * (p.high / 256) = omega arith in
    ap (λ (k : ℕ). bytes_of k whole) count
    ∙ ap₂ (λ (x : ℕ) (l : List ℕ). x ∷ l) lowest (ap (bytes_of (p.count - 1)) others)

pub sources_none : (p : PackedPath) → p.count ≡ 0 → sources_of p ≡ []
unfolding sources_of
sources_none p z = ap (λ (k : ℕ). bytes_of k (p.low + 18446744073709551616 * p.high)) z

-- at most 15 sources leave room for one more
number_below : (bs : List ℕ) → All (λ b. b < 256) bs → (k : ℕ) → length bs ≤ k → number_of bs < 256 ^ k
number_below [] h k l = positive k
  where
    positive : (k : ℕ) → 0 < 256 ^ k
    positive zero = omega arith
    positive (suc k) = omega (arith, positive k)
number_below (b ∷ bs) h zero l = absurd (omega arith)
number_below (b ∷ bs) h (suc k) l = let below : b < 256 = h.0 in omega (arith, number_below bs h.1 k (omega arith))

-- a number by its parts above 64 bits and below
module _ (a b : ℕ) (h : a < 18446744073709551616) where
  below_half : (a + 18446744073709551616 * b) % 18446744073709551616 ≡ a
  below_half = omega arith

  above_half : (a + 18446744073709551616 * b) / 18446744073709551616 ≡ b
  above_half = omega arith

upper_small : (x : ℕ) → x < 256 ^ 15 → x / 18446744073709551616 < 72057594037927936
upper_small x h = omega arith

-- 56 bits and a byte are 64 bits; a number of 64 bits has 8 above 56
pub shifted_up : (s l : ℕ) → s < 256 → s + 256 * (l % 72057594037927936) < 18446744073709551616
shifted_up s l h = omega arith

pub eight_above : (l : ℕ) → l < 18446744073709551616 → l / 72057594037927936 < 256
eight_above l h = omega arith

-- so both halves moved by a byte have 64 bits
pub moved_up : (l h : ℕ) → l < 18446744073709551616 → l / 72057594037927936 + 256 * (h % 72057594037927936) < 18446744073709551616
moved_up l h k = shifted_up (l / 72057594037927936) h (eight_above l k)

pub moved_down : (l h : ℕ) → l < 18446744073709551616 → l / 256 + 72057594037927936 * (h % 256) < 18446744073709551616
moved_down l h k = omega arith

-- the number with a byte more, by its halves: l and h are those of the number
module _ (s l h : ℕ) (below : s < 256) (small : h < 72057594037927936) where
  parts : s + 256 * (l + 18446744073709551616 * h)
      ≡ (s + 256 * (l % 72057594037927936)) + 18446744073709551616 * (l / 72057594037927936 + 256 * (h % 72057594037927936))
  parts =
      let e : h % 72057594037927936 ≡ h = omega arith in
      rw e (omega arith)

  more_low : s + 256 * (l % 72057594037927936) ≡ (s + 256 * (l + 18446744073709551616 * h)) % 18446744073709551616
  more_low = rw parts (sym (below_half _ (l / 72057594037927936 + 256 * (h % 72057594037927936)) (shifted_up s l below)))

  more_high : l / 72057594037927936 + 256 * (h % 72057594037927936) ≡ (s + 256 * (l + 18446744073709551616 * h)) / 18446744073709551616
  more_high = rw parts (sym (above_half _ (l / 72057594037927936 + 256 * (h % 72057594037927936)) (shifted_up s l below)))

pub sources_more : (keys s : ℕ) (ss : List ℕ) → s < 256 → All (λ b. b < 256) ss → length ss ≤ 15
    → with_first s (with_sources keys ss) ≡ with_sources keys (s ∷ ss)
unfolding with_first
sources_more keys s ss below k l =
    let x = number_of ss in
    let small = upper_small x (number_below ss k 15 l) in
    let low = x % 18446744073709551616 in
    let high = x / 18446744073709551616 in
    let a = more_low s low high below small ∙ ap (λ (y : ℕ). (s + 256 * y) % 18446744073709551616) (halves x) in
    let b = more_high s low high below small ∙ ap (λ (y : ℕ). (s + 256 * y) / 18446744073709551616) (halves x) in
    let count : length ss + 1 ≡ suc (length ss) = omega arith in
    λ i. record { keys = keys; count = count i; low = a i; high = b i }

-- a walk starts at the first source or at one of the others
pub member_first : (p : PackedPath) (v : ℕ) → 0 < p.count → first_of p ≡ v → member v (sources_of p) ≡ true
member_first p v h e = rw (sources_first p h, eq-eqb (first_of p) v e) refl

pub member_rest : (p : PackedPath) (v : ℕ) → 0 < p.count → (first_of p ≡ v → ⊥) → member v (sources_of p) ≡ member v (sources_of (rest_of p))
member_rest p v h e = rw (sources_first p h, ne_eqb (first_of p) v e) refl

pub begins_member : (p : PackedPath) (v : ℕ) → 0 < p.count → begins (sources_of p) v ≡ member v (sources_of p)
begins_member p v h = rw (sources_first p h) refl

-- with none left that it has not been compared with, a walk starts there only where there are no sources
pub begins_not : (p left : PackedPath) (v : ℕ) → left.count ≡ 0 → member v (sources_of left) ≡ member v (sources_of p)
    → eqb p.count 0 ≡ begins (sources_of p) v
begins_not p left v z e = go (ℕ_discrete p.count 0)
  where
    go : Dec (p.count ≡ 0) → eqb p.count 0 ≡ begins (sources_of p) v
    go (yes h) = rw (eq-eqb p.count 0 h, sources_none p h) refl
    go (no h) =
        rw (ne_eqb p.count 0 h) (ap (member v) (sym (sources_none left z)) ∙ e ∙ sym (begins_member p v (omega arith)))
