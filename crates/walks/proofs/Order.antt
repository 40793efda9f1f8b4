-- The order of lists of figures by a list of keys, the first key first: transitive, antisymmetric, total on the figures of walks, kept by an extension.
-- Assumes nothing.
use Prim.Native.Nat.{ℕ}
use mathlib.Core.Path.{◌≡◌, refl, sym, ap, ◌∙◌}
use mathlib.Core.Logic.{◌⊎◌, inl, inr}
use mathlib.Core.Bool.{Bool, true, false, cond}
use mathlib.Core.List.{List, [], ◌∷◌}
use borrow.Author.Tests.{eqb-true, eqb-false}
use lib.Dec.{T, eqb}
use Rattle.walks.specs.Keys.{Good, early, good?, in_order, kept, measure}
use Rattle.walks.specs.Rounds.{bases, extend_all, precedes}
use Rattle.walks.specs.Walks.{Edge, Network, base, extend, figure, figures}
use Rattle.walks.proofs.Keys.{
  Better,
  better_not_good,
  better_or_equal,
  better_trans,
  extend_better,
  extend_good,
  good_of_better,
  good_of_eq,
  good?_false,
  good?_true,
}
use Rattle.walks.proofs.Tests.{and_left, and_right}

-- xs is at least as good as ys: better in the first key in which they differ, or equal
abbrev pub Lex : List ℕ → List ℕ → List ℕ → Type 0
Lex [] [] [] = Unit {0}
Lex [] [] (y ∷ ys) = ⊥
Lex [] (x ∷ xs) ys = ⊥
Lex (k ∷ ks) [] ys = ⊥
Lex (k ∷ ks) (x ∷ xs) [] = ⊥
Lex (k ∷ ks) (x ∷ xs) (y ∷ ys) = Better (kept k) x y ⊎ ((x ≡ y) × Lex ks xs ys)

cons_trans : (k : ℕ) (ks : List ℕ) (x y z : ℕ) (xs ys zs : List ℕ)
    → (Lex ks xs ys → Lex ks ys zs → Lex ks xs zs)
    → Better (kept k) x y ⊎ ((x ≡ y) × Lex ks xs ys) → Better (kept k) y z ⊎ ((y ≡ z) × Lex ks ys zs)
    → Better (kept k) x z ⊎ ((x ≡ z) × Lex ks xs zs)
cons_trans k ks x y z xs ys zs f (inl p) (inl q) = inl (better_trans (kept k) x y z p q)
cons_trans k ks x y z xs ys zs f (inl p) (inr q) = inl (rw (← q.0) p)
cons_trans k ks x y z xs ys zs f (inr p) (inl q) = inl (rw p.0 q)
cons_trans k ks x y z xs ys zs f (inr p) (inr q) = inr (p.0 ∙ q.0, f p.1 q.1)

-- what is at least as good as the better one is at least as good as the other
pub lex_trans : (ks : List ℕ) (xs ys zs : List ℕ) → Lex ks xs ys → Lex ks ys zs → Lex ks xs zs
lex_trans [] [] [] zs p q = q
lex_trans [] [] (y ∷ ys) zs p q = absurd p
lex_trans [] (x ∷ xs) ys zs p q = absurd p
lex_trans (k ∷ ks) [] ys zs p q = absurd p
lex_trans (k ∷ ks) (x ∷ xs) [] zs p q = absurd p
lex_trans (k ∷ ks) (x ∷ xs) (y ∷ ys) [] p q = absurd q
lex_trans (k ∷ ks) (x ∷ xs) (y ∷ ys) (z ∷ zs) p q = cons_trans k ks x y z xs ys zs (lex_trans ks xs ys zs) p q

cons_anti : (k : ℕ) (ks : List ℕ) (x y : ℕ) (xs ys : List ℕ)
    → (Lex ks xs ys → Lex ks ys xs → xs ≡ ys)
    → Better (kept k) x y ⊎ ((x ≡ y) × Lex ks xs ys) → Better (kept k) y x ⊎ ((y ≡ x) × Lex ks ys xs)
    → x ∷ xs ≡ y ∷ ys
cons_anti k ks x y xs ys f (inl p) (inl q) = absurd (better_not_good (kept k) x y p (good_of_better (kept k) y x q))
cons_anti k ks x y xs ys f (inl p) (inr q) = absurd (better_not_good (kept k) x y p (good_of_eq (kept k) y x q.0))
cons_anti k ks x y xs ys f (inr p) (inl q) = absurd (better_not_good (kept k) y x q (good_of_eq (kept k) x y p.0))
cons_anti k ks x y xs ys f (inr p) (inr q) = cc (p.0, f p.1 q.1)

-- lists that are at least as good as each other are equal
pub lex_anti : (ks : List ℕ) (xs ys : List ℕ) → Lex ks xs ys → Lex ks ys xs → xs ≡ ys
lex_anti [] [] [] p q = refl
lex_anti [] [] (y ∷ ys) p q = absurd p
lex_anti [] (x ∷ xs) ys p q = absurd p
lex_anti (k ∷ ks) [] ys p q = absurd p
lex_anti (k ∷ ks) (x ∷ xs) [] p q = absurd p
lex_anti (k ∷ ks) (x ∷ xs) (y ∷ ys) p q = cons_anti k ks x y xs ys (lex_anti ks xs ys) p q

-- an extension keeps the order: of the last key, of a key before it, and of a list of keys in order
cons_ext_last : (k : ℕ) (r : Edge) (x y : ℕ) (xs ys : List ℕ)
    → Better (kept k) x y ⊎ ((x ≡ y) × Lex [] xs ys)
    → Better (kept k) (extend (measure k) r x) (extend (measure k) r y) ⊎ ((extend (measure k) r x ≡ extend (measure k) r y) × Unit {0})
cons_ext_last k r x y xs ys (inr p) = inr (ap (extend (measure k) r) p.0, tt)
cons_ext_last k r x y xs ys (inl p) = go (better_or_equal (kept k) _ _ (extend_good (kept k) (measure k) r x y (good_of_better (kept k) x y p)))
  where
    go : Better (kept k) (extend (measure k) r x) (extend (measure k) r y) ⊎ (extend (measure k) r x ≡ extend (measure k) r y)
        → Better (kept k) (extend (measure k) r x) (extend (measure k) r y) ⊎ ((extend (measure k) r x ≡ extend (measure k) r y) × Unit {0})
    go (inl b) = inl b
    go (inr e) = inr (e, tt)

cons_ext : (k : ℕ) (ks : List ℕ) (r : Edge) (x y : ℕ) (xs ys : List ℕ) → T (early k)
    → (Lex ks xs ys → Lex ks (extend_all ks r xs) (extend_all ks r ys))
    → Better (kept k) x y ⊎ ((x ≡ y) × Lex ks xs ys)
    → Better (kept k) (extend (measure k) r x) (extend (measure k) r y)
    ⊎ ((extend (measure k) r x ≡ extend (measure k) r y) × Lex ks (extend_all ks r xs) (extend_all ks r ys))
cons_ext k ks r x y xs ys t f (inl p) = inl (extend_better k r t x y p)
cons_ext k ks r x y xs ys t f (inr p) = inr (ap (extend (measure k) r) p.0, f p.1)

pub lex_ext : (ks : List ℕ) → T (in_order ks) → (r : Edge) (xs ys : List ℕ) → Lex ks xs ys → Lex ks (extend_all ks r xs) (extend_all ks r ys)
lex_ext [] t r xs ys p = tt
lex_ext (k ∷ ks) t r [] ys p = absurd p
lex_ext (k ∷ ks) t r (x ∷ xs) [] p = absurd p
lex_ext (k ∷ []) t r (x ∷ xs) (y ∷ ys) p = cons_ext_last k r x y xs ys p
lex_ext (k ∷ (j ∷ ks)) t r (x ∷ xs) (y ∷ ys) p =
    cons_ext k (j ∷ ks) r x y xs ys (and_left (early k) (in_order (j ∷ ks)) t) (lex_ext (j ∷ ks) (and_right (early k) (in_order (j ∷ ks)) t) r xs ys) p

module _ (N : Network) where
  -- the figures of a walk with one more edge, and of the empty walk, are what `extend_all` and `bases` say
  pub extend_figures : (ks : List ℕ) (i s : ℕ) (w : List ℕ) → extend_all ks (N.edge i) (figures N ks s w) ≡ figures N ks s (i ∷ w)
  extend_figures [] i s w = refl
  extend_figures (k ∷ ks) i s w = ap {B = List ℕ} (λ l. figure N k s (i ∷ w) ∷ l) (extend_figures ks i s w)

  pub bases_figures : (ks : List ℕ) (s : ℕ) → bases ks s ≡ figures N ks s []
  bases_figures [] s = refl
  bases_figures (k ∷ ks) s = ap {B = List ℕ} (λ l. base (measure k) s ∷ l) (bases_figures ks s)

  -- a walk is as good as itself
  pub lex_refl : (ks : List ℕ) (s : ℕ) (w : List ℕ) → Lex ks (figures N ks s w) (figures N ks s w)
  lex_refl [] s w = tt
  lex_refl (k ∷ ks) s w = inr (refl, lex_refl ks s w)

  -- figure by figure at least as good
  pub lex_each : (ks : List ℕ) (s : ℕ) (w : List ℕ) (s' : ℕ) (w' : List ℕ)
      → ((k : ℕ) → Good (kept k) (figure N k s w) (figure N k s' w')) → Lex ks (figures N ks s w) (figures N ks s' w')
  lex_each [] s w s' w' f = tt
  lex_each (k ∷ ks) s w s' w' f = go (lex_each ks s w s' w' f) (better_or_equal (kept k) _ _ (f k))
    where
      go : Lex ks (figures N ks s w) (figures N ks s' w') → Better (kept k) (figure N k s w) (figure N k s' w')
          ⊎ (figure N k s w ≡ figure N k s' w')
          → Better (kept k) (figure N k s w) (figure N k s' w')
          ⊎ ((figure N k s w ≡ figure N k s' w') × Lex ks (figures N ks s w) (figures N ks s' w'))
      go l (inl b) = inl b
      go l (inr e) = inr (e, l)

  -- the test decides the order, and where it fails the order is the other way
  module _ (k : ℕ) (ks : List ℕ) (x y : ℕ) (xs ys : List ℕ) where
    same_first : x ≡ y → (b : Bool) → cond b (Lex ks xs ys) (Lex ks ys xs)
        → cond b (Lex (k ∷ ks) (x ∷ xs) (y ∷ ys)) (Lex (k ∷ ks) (y ∷ ys) (x ∷ xs))
    same_first e true l = inr (e, l)
    same_first e false l = inr (sym e, l)

    strict_first : (x ≡ y → ⊥) → Better (kept k) x y ⊎ (x ≡ y) → Better (kept k) x y ⊎ ((x ≡ y) × Lex ks xs ys)
    strict_first n (inl b) = inl b
    strict_first n (inr e) = absurd (n e)

    other_first : (x ≡ y → ⊥) → (b : Bool) → good? (kept k) x y ≡ b
        → cond b (Lex (k ∷ ks) (x ∷ xs) (y ∷ ys)) (Lex (k ∷ ks) (y ∷ ys) (x ∷ xs))
    other_first n true e = strict_first n (better_or_equal (kept k) x y (good?_true (kept k) x y e))
    other_first n false e = inl (good?_false (kept k) x y e)

    at_first : ((b : Bool) → precedes ks xs ys ≡ b → cond b (Lex ks xs ys) (Lex ks ys xs))
        → (c : Bool) → eqb x y ≡ c → (b : Bool) → cond c (precedes ks xs ys) (good? (kept k) x y) ≡ b
        → cond b (Lex (k ∷ ks) (x ∷ xs) (y ∷ ys)) (Lex (k ∷ ks) (y ∷ ys) (x ∷ xs))
    at_first f true q b e = same_first (eqb-true x y q) b (f b e)
    at_first f false q b e = other_first (eqb-false x y q) b e

  pub lex_test : (ks : List ℕ) (s : ℕ) (w : List ℕ) (s' : ℕ) (w' : List ℕ) (b : Bool)
      → precedes ks (figures N ks s w) (figures N ks s' w') ≡ b
      → cond b (Lex ks (figures N ks s w) (figures N ks s' w')) (Lex ks (figures N ks s' w') (figures N ks s w))
  lex_test [] s w s' w' true e = tt
  lex_test [] s w s' w' false e = tt
  lex_test (k ∷ ks) s w s' w' b e =
      at_first k ks (figure N k s w) (figure N k s' w') (figures N ks s w) (figures N ks s' w') (lex_test ks s w s' w')
      (eqb (figure N k s w) (figure N k s' w')) refl b e
