-- WHAT A ROUND CITES: the figures of a vertex, where there may be none, by their word. Assumes nothing.
use Prim.Native.Nat.{ℕ, ◌+◌, ◌*◌, ◌-◌, ◌%◌, ◌^◌, ◌≤◌, ◌<◌, min}
use mathlib.Core.Path.{◌≡◌, refl, sym, ap, subst, ◌∙◌}
use mathlib.Core.Bool.{Bool, true, false, cond, not}
use mathlib.Core.List.{List}
use mathlib.Core.Option.{Option, none, some}
use native.Mathlib.Nat.{mul-le-mul}
use native.Mathlib.Omega.{arith}
use borrow.Author.Tests.{eq-eqb, ne_eqb, leb-true, leb-false}
use lib.Dec.{T, eqb, leb}
use lib.Pow.{pow_mono}
use Rattle.value.specs.declared.Value.TheVariants.{Absent, Number}
use Rattle.walks.specs.Keys.{legal_keys}
use Rattle.walks.specs.Meaning.{value}
use Rattle.walks.specs.Rounds.{best, extend_all, initial, precedes, reached, same, through}
use Rattle.walks.specs.Walks.{Edge}
use Rattle.walks.proofs.Same.{same_eq, same_of}
use Rattle.walks.proofs.Tests.{T_of}
use Rattle.packed_figures.specs.declared.PathConstants.{PathConstants}
use Rattle.packed_figures.specs.Packed.{
  Extends,
  Packs,
  Small,
  absent,
  along,
  base_word,
  bits,
  constants,
  distinct,
  figure_of,
  figures_of,
  onward,
  word,
  word_of,
}
use Rattle.packed_figures.proofs.Extension.{word_base, word_onward}
use Rattle.packed_figures.proofs.Legal.{legal_bits}
use Rattle.packed_figures.proofs.Words.{word_list, word_lt, word_order, word_value}

-- a weight adds less than 2^42
pub grows : (c : PathConstants) (x weight capacity : ℕ) → Extends c x weight capacity → c.weight * weight ≤ 67108864 * 65535
grows c x weight capacity p = mul-le-mul p.sound.weight_fits (let h : weight ≤ 65535 = omega (arith, p.weight_fits) in h)

-- what is absent stays so
pub along_absent : (c : PathConstants) (x weight capacity : ℕ) → absent ≤ x → absent ≤ along c x weight capacity
unfolding along
along_absent c x weight capacity h =
    let y = x + c.weight * weight in
    let l : absent ≤ y = omega arith in
    let m : absent ≤ y - y % 65536 = omega arith in
    omega arith

-- of one that there is none
pub best_none : (ks : List ℕ) (p : Option (List ℕ)) → best ks p none ≡ p
unfolding best
best_none ks none = refl
best_none ks (some xs) = refl

module _ (ks : List ℕ) (ok : T (legal_keys ks)) where
  -- WORDS ARE BELOW 2^52
  word_small : (xs : List ℕ) → Small ks xs → word ks xs < 4503599627370496
  word_small xs p = omega (arith, word_lt ks xs p, (let l : 2 ^ bits (distinct ks) ≤ 4503599627370496 = pow_mono (legal_bits ks ok) in l))

  pub word_most : (o : Option (List ℕ)) → Packs ks o → word_of ks o ≤ absent
  word_most none p = omega arith
  word_most (some xs) p = omega (arith, word_small xs p)

  -- THE START VALUES
  pub word_initial : (b : Bool) (v : ℕ) → word_of ks (initial b ks v) ≡ cond b (base_word (constants ks) v) absent
  word_initial true v = word_base ks ok v
  word_initial false v = refl

  -- THE BETTER OF TWO IS THE LESSER WORD
  pub word_best : (o p : Option (List ℕ)) → Packs ks o → Packs ks p → word_of ks (best ks o p) ≡ min (word_of ks o) (word_of ks p)
  unfolding best
  word_best none p a b = omega (arith, word_most p b)
  word_best (some xs) none a b = omega (arith, word_small xs a)
  word_best (some xs) (some ys) a b = go (precedes ks xs ys) (word_order ks xs ys a b)
    where
      go : (t : Bool) → leb (word ks xs) (word ks ys) ≡ t → word_of ks (cond t (some xs) (some ys)) ≡ min (word ks xs) (word ks ys)
      go true e = omega (arith, leb-true (word ks xs) (word ks ys) e)
      go false e = omega (arith, leb-false (word ks xs) (word ks ys) e)

  -- ONE EDGE OF A ROUND: what it brings from o against p
  pub word_brought : (e : Edge) (p o : Option (List ℕ)) → Packs ks p → Packs ks o → Packs ks (through ks e o)
      → word_of ks (best ks p (through ks e o)) ≡ min (word_of ks p) (onward (constants ks) (word_of ks o) e.weight e.capacity)
  word_brought e p none a b c =
      ap (word_of ks) (best_none ks p) ∙ omega (
        arith,
        word_most p a,
        along_absent (constants ks) (absent + (constants ks).edges) e.weight e.capacity
            (omega arith),
      )
  word_brought e p (some xs) a b c =
      word_best p (some (extend_all ks e xs)) a c ∙ ap (min (word_of ks p)) (word_onward ks ok xs b e)

  -- whether there is a walk
  pub word_reached : (o : Option (List ℕ)) → Packs ks o → eqb (word_of ks o) absent ≡ not (reached o)
  word_reached none p = refl
  word_reached (some xs) p = ne_eqb (word ks xs) absent (λ e. omega (arith, word_small xs p))

  -- THE FIGURES, BACK FROM THE WORD
  pub word_figures : (o : Option (List ℕ)) → Packs ks o → figures_of ks (word_of ks o) ≡ o
  unfolding figures_of
  word_figures none p = refl
  word_figures (some xs) p = rw (word_reached (some xs) p) (ap some (word_list ks xs p))

  -- EQUAL WORDS, EQUAL FIGURES
  word_of_equal : (o p : Option (List ℕ)) → Packs ks o → Packs ks p → word_of ks o ≡ word_of ks p → o ≡ p
  word_of_equal o p a b e = sym (word_figures o a) ∙ ap (figures_of ks) e ∙ word_figures p b

  pub word_same : (o p : Option (List ℕ)) → Packs ks o → Packs ks p → eqb (word_of ks o) (word_of ks p) ≡ same o p
  word_same o p a b = go (same o p) refl
    where
      go : (t : Bool) → same o p ≡ t → eqb (word_of ks o) (word_of ks p) ≡ t
      go true e = eq-eqb (word_of ks o) (word_of ks p) (ap (word_of ks) (same_eq o p (T_of e)))
      go false e = ne_eqb (word_of ks o) (word_of ks p) (λ q. subst T e (same_of o p (word_of_equal o p a b q)))

  -- THE VALUE
  pub word_of_value : (o : Option (List ℕ)) → Packs ks o
      → value o ≡ cond (eqb (word_of ks o) absent) Absent (Number (figure_of (constants ks) (word_of ks o)))
  word_of_value none p = refl
  word_of_value (some xs) p = rw (word_reached (some xs) p) (ap Number (sym (word_value ks ok xs p)))
