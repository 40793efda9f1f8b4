-- ONE MORE EDGE, AND THE EMPTY WALK, ON WORDS. Assumes nothing.
use Prim.Native.Nat.{ℕ, ◌+◌, ◌*◌, ◌-◌, ◌%◌, ◌<◌, min}
use mathlib.Core.Path.{◌≡◌, refl, sym, ap, ap₂, subst, ◌∙◌}
use mathlib.Core.Bool.{Bool, true, false, cond}
use mathlib.Core.List.{List, [], ◌∷◌, ◌++◌, map}
use native.Mathlib.Omega.{arith}
use borrow.Author.Tests.{ne_eqb}
use lib.Dec.{T, eqb}
use Rattle.walks.specs.declared.Measure.{Measure}
use Rattle.walks.specs.declared.Measure.TheVariants.{Edges, Weight, Source, Bottleneck}
use Rattle.walks.specs.Keys.{all_known, early, in_order, kept, key_row, known, legal_keys, measure}
use Rattle.walks.specs.Lists.{All}
use Rattle.walks.specs.Meaning.{last}
use Rattle.walks.specs.Rounds.{bases, extend_all}
use Rattle.walks.specs.Walks.{Edge, base, extend}
use Rattle.walks.proofs.Tests.{and_left, and_right, T_of}
use Rattle.packed_figures.specs.declared.PathConstants.{PathConstants}
use Rattle.packed_figures.specs.Packed.{
  Small,
  along,
  base_word,
  code,
  constants,
  distinct,
  held,
  onward,
  packing,
  room,
  total,
  unit_of,
  within,
  without,
  word,
}
use Rattle.packed_figures.proofs.Distinct.{all_map, distinct_all, without_all}
use Rattle.packed_figures.proofs.Legal.{by_key, legal_known, legal_order}
use Rattle.packed_figures.proofs.Order.{flipped_lt}
use Rattle.packed_figures.proofs.Sums.{total_linear, total_snoc, total_zero}
use Rattle.packed_figures.proofs.Words.{codes, word_is, word_map}

-- a key of which the figure is no bottleneck
abbrev plain : Measure → Bool
plain Edges = true
plain Weight = true
plain Source = true
plain Bottleneck = false

-- 1 for the key j
abbrev is : ℕ → ℕ → ℕ
is j k = cond (eqb k j) 1 0

-- what an edge makes of each figure
abbrev longer : Edge → (ℕ → ℕ) → ℕ → ℕ
longer e f k = extend (measure k) e (f k)

-- a key before the last: an edge adds to what stands in the word
plain_extend : (e : Edge) (x k : ℕ) → T (known k) → T (plain (measure k)) → code k (extend (measure k) e x)
    ≡ code k x + is 1 k * 1 + is 2 k * e.weight
unfolding key_row
plain_extend e x =
    by_key (λ k. T (plain (measure k)) → code k (extend (measure k) e x) ≡ code k x + is 1 k * 1 + is 2 k * e.weight)
    (λ t. omega arith) (λ t. omega arith) (λ t. omega arith) (λ t. omega arith) absurd absurd

plain_base : (v k : ℕ) → T (known k) → T (plain (measure k)) → code k (base (measure k) v) ≡ 0 + is 3 k * v + is 4 k * (255 - v)
unfolding key_row
plain_base v =
    by_key (λ k. T (plain (measure k)) → code k (base (measure k) v) ≡ 0 + is 3 k * v + is 4 k * (255 - v))
    (λ t. omega arith) (λ t. omega arith) (λ t. omega arith) (λ t. omega arith) absurd absurd

-- such a last key leaves the low bits alone
plain_held : (ds : List ℕ) (c t : ℕ) (k : ℕ) → T (known k) → T (plain (measure k)) → held (packing ds k) c t ≡ t
unfolding key_row
plain_held ds c t =
    by_key (λ k. T (plain (measure k)) → held (packing ds k) c t ≡ t) (λ u. refl) (λ u. refl) (λ u. refl) (λ u. refl) absurd absurd

plain_low : (ds : List ℕ) (k : ℕ) → T (known k) → T (plain (measure k)) → (packing ds k).base ≡ 0
unfolding key_row
plain_low ds = by_key (λ k. T (plain (measure k)) → (packing ds k).base ≡ 0) (λ t. refl) (λ t. refl) (λ t. refl) (λ t. refl) absurd absurd

-- the bottleneck: it has the low 16 bits, and the constants hold them as an edge does the figure
record Narrow (ds : List ℕ) (k : ℕ) : Type 0 where
  wide : room k ≡ 65536
  held_right : (c x : ℕ) → code k (min x c) ≡ held (packing ds k) c (code k x)
  base_right : code k 65535 ≡ (packing ds k).base
  high : 4 < k
  late : early k ≡ false
  narrow : measure k ≡ Bottleneck

narrow_key : (ds : List ℕ) (k : ℕ) → T (known k) → plain (measure k) ≡ false → Narrow ds k
unfolding key_row
narrow_key ds = by_key (λ k. plain (measure k) ≡ false → Narrow ds k) other other other other greatest_kept least_kept
  where
    other : {k : ℕ} → true ≡ false → Narrow ds k
    other e = absurd (let z : ◌≡◌ {A = ℕ} 0 1 = cc in omega arith)

    greatest_kept : false ≡ false → Narrow ds 5
    greatest_kept e = record {
      wide = refl;
      held_right = λ c x. omega arith;
      base_right = refl;
      high = omega arith;
      late = refl;
      narrow = refl;
    }

    least_kept : false ≡ false → Narrow ds 6
    least_kept e = record {
      wide = refl;
      held_right = λ c x. refl;
      base_right = refl;
      high = omega arith;
      late = refl;
      narrow = refl;
    }

-- the keys before a bottleneck, and all keys where there is none
abbrev Plain : ℕ → Type 0
Plain k = T (known k) × T (plain (measure k))

early_plain : (k : ℕ) → T (known k) → T (early k) → T (plain (measure k))
unfolding key_row
early_plain = by_key (λ k. T (early k) → T (plain (measure k))) (λ t. t) (λ t. t) (λ t. t) (λ t. t) absurd absurd

first_plain : (k j : ℕ) (ks : List ℕ) → T (all_known (k ∷ j ∷ ks)) → T (in_order (k ∷ j ∷ ks)) → Plain k
first_plain k j ks a o = let t = and_left (known k) _ a in (t, early_plain k t (and_left (early k) _ o))

all_plain : (k : ℕ) (ks : List ℕ) → T (all_known (k ∷ ks)) → T (in_order (k ∷ ks)) → T (plain (measure (last (k ∷ ks))))
    → All Plain (k ∷ ks)
all_plain k [] a o p = ((and_left (known k) _ a, p), tt)
all_plain k (j ∷ ks) a o p = (first_plain k j ks a o, all_plain j ks (and_right (known k) _ a) (and_right (early k) _ o) p)

last_known : (k : ℕ) (ks : List ℕ) → T (all_known (k ∷ ks)) → T (known (last (k ∷ ks)))
last_known k [] a = and_left (known k) _ a
last_known k (j ∷ ks) a = last_known j ks (and_right (known k) _ a)

without_snoc : (k j : ℕ) → eqb k j ≡ false → (ks : List ℕ) → without k (ks ++ (j ∷ [])) ≡ without k ks ++ (j ∷ [])
unfolding without
without_snoc k j n [] = rw n
without_snoc k j n (i ∷ ks) = go (without_snoc k j n ks) (eqb k i)
  where
    go : without k (ks ++ (j ∷ [])) ≡ without k ks ++ (j ∷ []) → (b : Bool)
        → cond b (without k (ks ++ (j ∷ []))) (i ∷ without k (ks ++ (j ∷ []))) ≡ cond b (without k ks) (i ∷ without k ks) ++ (j ∷ [])
    go e true = e
    go e false = ap (λ (l : List ℕ). i ∷ l) e

-- a bottleneck is the last of the keys without repeated ones too
Ends : List ℕ → ℕ → Type 0
Ends ks j = (es : List ℕ) × (distinct ks ≡ es ++ (j ∷ [])) × All Plain es

ends : (k : ℕ) (ks : List ℕ) → T (all_known (k ∷ ks)) → T (in_order (k ∷ ks)) → early (last (k ∷ ks)) ≡ false
    → Ends (k ∷ ks) (last (k ∷ ks))
unfolding Ends distinct without
ends k [] a o l = ([], refl, tt)
ends k (j ∷ ks) a o l = go (ends j ks (and_right (known k) _ a) (and_right (early k) _ o) l)
  where
    other : eqb k (last (j ∷ ks)) ≡ false
    other = ne_eqb k (last (j ∷ ks)) (λ e. subst T l (subst (λ (i : ℕ). T (early i)) e (and_left (early k) _ o)))

    go : Ends (j ∷ ks) (last (j ∷ ks)) → Ends (k ∷ j ∷ ks) (last (j ∷ ks))
    go d = (
      k ∷ without k d.0,
      ap (λ (l : List ℕ). k ∷ l) (ap (without k) d.1 ∙ without_snoc k (last (j ∷ ks)) other d.0),
      (first_plain k j ks a o, without_all Plain k d.0 d.2),
    )

-- a sum over plain keys with a bottleneck after them
wide_snoc : (f : ℕ → ℕ) (es : List ℕ) (j : ℕ) → room j ≡ 65536 → total f (es ++ (j ∷ [])) ≡ total f es * 65536 + f j
wide_snoc f es j w = total_snoc f es j ∙ ap (λ (r : ℕ). total f es * r + f j) w

unit_snoc : (i : ℕ) (es : List ℕ) (j : ℕ) → room j ≡ 65536 → i < j → unit_of i (es ++ (j ∷ [])) ≡ unit_of i es * 65536
unit_snoc i es j w h = wide_snoc (is i) es j w ∙ rw (ne_eqb j i (λ e. omega arith)) (omega arith)

-- the low 16 bits by themselves
within_split : (p : PathConstants) (c h t : ℕ) → t < 65536 → within p c (h * 65536 + t) ≡ h * 65536 + held p c t
within_split p c h t l = let m : (h * 65536 + t) % 65536 ≡ t = omega arith in rw m (omega arith)

pub extend_map : (e : Edge) (f : ℕ → ℕ) (ks : List ℕ) → extend_all ks e (map f ks) ≡ map (longer e f) ks
extend_map e f [] = refl
extend_map e f (k ∷ ks) = ap (λ (l : List ℕ). longer e f k ∷ l) (extend_map e f ks)

pub bases_map : (v : ℕ) (ks : List ℕ) → bases ks v ≡ map (λ k. base (measure k) v) ks
bases_map v [] = refl
bases_map v (k ∷ ks) = ap (λ (l : List ℕ). base (measure k) v ∷ l) (bases_map v ks)

module _ (e : Edge) (f : ℕ → ℕ) where
  -- an edge adds to the sum of plain keys
  sum_extend : (ds : List ℕ) → All Plain ds → total (codes (longer e f)) ds ≡ total (codes f) ds + unit_of 1 ds * 1 + unit_of 2 ds * e.weight
  sum_extend ds h =
      total_linear (codes (longer e f)) (codes f) (is 1) (is 2) 1 e.weight ds (all_map Plain _ (λ k p. plain_extend e (f k) k p.0 p.1) ds h)

  -- all keys plain: nothing else happens
  sum_plain : (ds : List ℕ) (j : ℕ) → Plain j → All Plain ds
      → total (codes (longer e f)) ds ≡ onward (packing ds j) (total (codes f) ds) e.weight e.capacity
  unfolding along
  sum_plain ds j p h =
      let y = total (codes f) ds + unit_of 1 ds + unit_of 2 ds * e.weight in
      let s : total (codes (longer e f)) ds ≡ y = omega (arith, sum_extend ds h) in
      s ∙ sym (rw (plain_held ds e.capacity (y % 65536) j p.0 p.1) (omega arith))

  -- a bottleneck after plain keys
  sum_narrow : (es : List ℕ) (j : ℕ) → f j < room j → Narrow (es ++ (j ∷ [])) j → All Plain es
      → total (codes (longer e f)) (es ++ (j ∷ [])) ≡ onward (packing (es ++ (j ∷ [])) j) (total (codes f) (es ++ (j ∷ []))) e.weight e.capacity
  unfolding along
  sum_narrow es j l n h =
      let ds = es ++ (j ∷ []) in
      let above = total (codes f) es + unit_of 1 es + unit_of 2 es * e.weight in
      let a : total (codes (longer e f)) es ≡ above = omega (arith, sum_extend es h) in
      let u : unit_of 1 ds ≡ unit_of 1 es * 65536 = unit_snoc 1 es j n.wide (omega (arith, n.high)) in
      let w : unit_of 2 ds ≡ unit_of 2 es * 65536 = unit_snoc 2 es j n.wide (omega (arith, n.high)) in
      let t : total (codes f) ds ≡ total (codes f) es * 65536 + codes f j = wide_snoc (codes f) es j n.wide in
      let y : total (codes f) ds + unit_of 1 ds + unit_of 2 ds * e.weight ≡ above * 65536 + codes f j = rw (t, u, w) (omega arith) in
      let low : codes f j < 65536 = subst (λ (r : ℕ). codes f j < r) n.wide (flipped_lt (kept j) (room j) (f j) l) in
      let m : codes (longer e f) j ≡ held (packing ds j) e.capacity (codes f j) =
      ap (λ (m : Measure). code j (extend m e (f j))) n.narrow ∙ n.held_right e.capacity (f j) in
      wide_snoc (codes (longer e f)) es j n.wide
      ∙ ap₂ (λ (x z : ℕ). x * 65536 + z) a m
      ∙ sym (ap (within (packing ds j) e.capacity) y ∙ within_split (packing ds j) e.capacity above (codes f j) low)

module _ (v : ℕ) where
  -- the figures of the empty walk at v
  abbrev empty : ℕ → ℕ
  empty k = base (measure k) v

  sum_base : (ds : List ℕ) → All Plain ds → total (codes empty) ds ≡ unit_of 3 ds * v + unit_of 4 ds * (255 - v)
  sum_base ds h =
      omega (
        arith,
        total_linear (codes empty) (λ k. 0) (is 3) (is 4) v (255 - v) ds (all_map Plain _ (λ k p. plain_base v k p.0 p.1) ds h),
        total_zero ds,
      )

  base_plain : (ds : List ℕ) (j : ℕ) → Plain j → All Plain ds → total (codes empty) ds ≡ base_word (packing ds j) v
  unfolding base_word
  base_plain ds j p h = sum_base ds h ∙ rw (plain_low ds j p.0 p.1) (omega arith)

  base_narrow : (es : List ℕ) (j : ℕ) → Narrow (es ++ (j ∷ [])) j → All Plain es
      → total (codes empty) (es ++ (j ∷ [])) ≡ base_word (packing (es ++ (j ∷ [])) j) v
  unfolding base_word
  base_narrow es j n h =
      let ds = es ++ (j ∷ []) in
      let u : unit_of 3 ds ≡ unit_of 3 es * 65536 = unit_snoc 3 es j n.wide (omega (arith, n.high)) in
      let w : unit_of 4 ds ≡ unit_of 4 es * 65536 = unit_snoc 4 es j n.wide (omega (arith, n.high)) in
      let m : codes empty j ≡ (packing ds j).base = ap (λ (m : Measure). code j (base m v)) n.narrow ∙ n.base_right in
      wide_snoc (codes empty) es j n.wide ∙ ap₂ (λ (x z : ℕ). x * 65536 + z) (sum_base es h) m ∙ rw (u, w) (omega arith)

-- by the last key: a law of sums of plain keys, and one of plain keys with a bottleneck after them, are one of the keys of every legal list
by_last : (P : List ℕ → ℕ → Type 0)
    → ((ds : List ℕ) (j : ℕ) → Plain j → All Plain ds → P ds j)
    → ((es : List ℕ) (j : ℕ) → Narrow (es ++ (j ∷ [])) j → All Plain es → P (es ++ (j ∷ [])) j)
    → (ks : List ℕ) → T (legal_keys ks) → P (distinct ks) (last ks)
unfolding Ends
by_last P f g [] t = absurd t
by_last P f g (k ∷ ks) t = go (plain (measure (last (k ∷ ks)))) refl
  where
    a : T (all_known (k ∷ ks))
    a = legal_known (k ∷ ks) t

    o : T (in_order (k ∷ ks))
    o = legal_order (k ∷ ks) t

    narrow : (ds : List ℕ) → plain (measure (last (k ∷ ks))) ≡ false → Narrow ds (last (k ∷ ks))
    narrow ds = narrow_key ds (last (k ∷ ks)) (last_known k ks a)

    ended : plain (measure (last (k ∷ ks))) ≡ false → Ends (k ∷ ks) (last (k ∷ ks)) → P (distinct (k ∷ ks)) (last (k ∷ ks))
    ended e d = subst (λ (ds : List ℕ). P ds (last (k ∷ ks))) (sym d.1) (g d.0 (last (k ∷ ks)) (narrow _ e) d.2)

    go : (b : Bool) → plain (measure (last (k ∷ ks))) ≡ b → P (distinct (k ∷ ks)) (last (k ∷ ks))
    go true e =
        let p = T_of e in
        f (distinct (k ∷ ks)) (last (k ∷ ks)) (last_known k ks a, p) (distinct_all Plain (k ∷ ks) (all_plain k ks a o p))
    go false e = ended e (ends k ks a o (narrow [] e).late)

-- ONE MORE EDGE
pub word_onward : (ks : List ℕ) → T (legal_keys ks) → (xs : List ℕ) → Small ks xs → (e : Edge)
    → word ks (extend_all ks e xs) ≡ onward (constants ks) (word ks xs) e.weight e.capacity
unfolding constants
word_onward ks ok xs p e =
    ap (λ (l : List ℕ). word ks (extend_all ks e l)) p.listed
    ∙ ap (word ks) (extend_map e p.of ks)
    ∙ word_map (longer e p.of) ks
    ∙ by_last (λ ds j. total (codes (longer e p.of)) ds ≡ onward (packing ds j) (total (codes p.of) ds) e.weight e.capacity)
    (sum_plain e p.of) (λ es j. sum_narrow e p.of es j (p.small j)) ks ok
    ∙ sym (ap (λ (x : ℕ). onward (packing (distinct ks) (last ks)) x e.weight e.capacity) (word_is ks xs p))

-- THE EMPTY WALK
pub word_base : (ks : List ℕ) → T (legal_keys ks) → (v : ℕ) → word ks (bases ks v) ≡ base_word (constants ks) v
unfolding constants
word_base ks ok v =
    ap (word ks) (bases_map v ks)
    ∙ word_map (empty v) ks
    ∙ by_last (λ ds j. total (codes (empty v)) ds ≡ base_word (packing ds j) v) (base_plain v) (base_narrow v) ks ok
