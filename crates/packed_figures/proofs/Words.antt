-- THE WORD OF FIGURES: its order is that of the figures, and the figures are read off it. Assumes nothing.
use Prim.Native.Nat.{ℕ, ◌-◌, ◌/◌, ◌^◌, ◌<◌}
use mathlib.Core.Path.{◌≡◌, refl, sym, ap, ap₂, ◌∙◌}
use mathlib.Core.Bool.{cond}
use mathlib.Core.List.{List, [], ◌∷◌, map}
use native.Mathlib.Omega.{arith}
use borrow.Author.Tests.{ne_eqb}
use lib.Bits.{bit_and}
use lib.Dec.{eqb, leb, T}
use Rattle.walks.specs.declared.Extreme.{Extreme}
use Rattle.walks.specs.declared.Extreme.TheVariants.{Least, Greatest}
use Rattle.walks.specs.declared.Measure.{Measure}
use Rattle.walks.specs.declared.Measure.TheVariants.{Edges, Weight, Source, Bottleneck}
use Rattle.walks.specs.Keys.{kept, legal_keys, measure}
use Rattle.walks.specs.Lists.{All}
use Rattle.walks.specs.Meaning.{last}
use Rattle.walks.specs.Rounds.{precedes}
use Rattle.packed_figures.specs.Packed.{Small, bits, code, constants, distinct, figure_at, figure_of, flip_of, flipped, room, shift_of, total}
use Rattle.packed_figures.specs.Packed.{width, word}
use Rattle.packed_figures.proofs.Digits.{digit}
use Rattle.packed_figures.proofs.Distinct.{all_of, among, distinct_all, distinct_among, figure_in_map, last_among, last_map}
use Rattle.packed_figures.proofs.Order.{distinct_order, flipped_lt, flipped_twice, sum_order}
use Rattle.packed_figures.proofs.Sums.{total_lt, total_same}

-- the figures f as they stand in a word
abbrev pub codes : (ℕ → ℕ) → ℕ → ℕ
codes f k = code k (f k)

-- what holds of every key
each : (P : ℕ → Type 0) → ((k : ℕ) → P k) → (ks : List ℕ) → All P ks
each P h ks = all_of P ks (λ k t. h k)

codes_small : (f : ℕ → ℕ) → ((k : ℕ) → f k < room k) → (ks : List ℕ) → All (λ k. codes f k < room k) ks
codes_small f h ks = each (λ k. codes f k < room k) (λ k. flipped_lt (kept k) (room k) (f k) (h k)) ks

pub word_map : (f : ℕ → ℕ) (ks : List ℕ) → word ks (map f ks) ≡ total (codes f) (distinct ks)
unfolding word
word_map f ks =
    total_same _ (codes f) (distinct ks)
    (distinct_all (λ k. code k _ ≡ codes f k) ks (all_of (λ k. code k _ ≡ codes f k) ks (λ k t. ap (code k) (figure_in_map f ks k t))))

map_same : (f g : ℕ → ℕ) (ks : List ℕ) → All (λ k. f k ≡ g k) ks → map f ks ≡ map g ks
map_same f g [] h = refl
map_same f g (k ∷ ks) h = cc (h.0, map_same f g ks h.1)

module _ (ks xs : List ℕ) (p : Small ks xs) where
  pub word_is : word ks xs ≡ total (codes p.of) (distinct ks)
  word_is = ap (word ks) p.listed ∙ word_map p.of ks

  pub word_lt : word ks xs < 2 ^ bits (distinct ks)
  word_lt = rw word_is (total_lt (codes p.of) (distinct ks) (codes_small p.of p.small (distinct ks)))

  -- the figure of each key, as it stands there
  word_digit : (j : ℕ) → T (among j ks) → bit_and (word ks xs / 2 ^ shift_of j (distinct ks)) (room j - 1) ≡ codes p.of j
  word_digit j t =
      ap (λ (x : ℕ). bit_and (x / 2 ^ shift_of j (distinct ks)) (room j - 1)) word_is
      ∙ digit (codes p.of) j (distinct ks) (codes_small p.of p.small (distinct ks)) (flipped_lt (kept j) (room j) (p.of j) (p.small j))
      (distinct_among j ks t)

  -- EACH FIGURE, BACK FROM THE WORD
  word_figure : (j : ℕ) → T (among j ks) → figure_at ks (word ks xs) j ≡ p.of j
  word_figure j t = ap (flipped (kept j) (room j - 1)) (word_digit j t) ∙ flipped_twice (kept j) (room j) (p.of j) (p.small j)

  pub word_list : map (figure_at ks (word ks xs)) ks ≡ xs
  word_list = map_same (figure_at ks (word ks xs)) p.of ks (all_of (λ k. figure_at ks (word ks xs) k ≡ p.of k) ks word_figure) ∙ sym p.listed

-- THE ORDER OF WORDS IS THAT OF FIGURES
pub word_order : (ks xs ys : List ℕ) → Small ks xs → Small ks ys → leb (word ks xs) (word ks ys) ≡ precedes ks xs ys
word_order ks xs ys p q =
    ap₂ leb (word_is ks xs p) (word_is ks ys q)
    ∙ sum_order p.of q.of (distinct ks) (each _ p.small (distinct ks)) (each _ q.small (distinct ks))
    ∙ distinct_order p.of q.of ks
    ∙ sym (ap₂ (precedes ks) p.listed q.listed)

-- THE VALUE: the last key's figure
room_some : (m : Measure) → 2 ^ width m - 1 ≡ 0 → ⊥
room_some Edges e = omega arith
room_some Weight e = omega arith
room_some Source e = omega arith
room_some Bottleneck e = omega arith

flip_is : (d : Extreme) (top f : ℕ) → (top ≡ 0 → ⊥) → cond (eqb (flip_of d top) 0) f (flip_of d top - f) ≡ flipped d top f
flip_is Least top f n = refl
flip_is Greatest top f n = rw (ne_eqb top 0 n)

pub word_value : (ks : List ℕ) → T (legal_keys ks) → (xs : List ℕ) → Small ks xs → figure_of (constants ks) (word ks xs) ≡ last xs
unfolding constants figure_of
word_value [] t xs p = absurd t
word_value (k ∷ ks) t xs p =
    let j = last (k ∷ ks) in
    flip_is (kept j) (room j - 1) _ (room_some (measure j))
    ∙ word_figure (k ∷ ks) xs p j (last_among k ks)
    ∙ sym (ap last p.listed ∙ last_map p.of k ks)
