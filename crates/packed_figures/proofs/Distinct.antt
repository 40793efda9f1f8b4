-- Lists of keys, and the same without repeated ones. Assumes nothing.
use Prim.Native.Nat.{ℕ}
use mathlib.Core.Path.{◌≡◌, refl, ap, ◌∙◌}
use mathlib.Core.Bool.{Bool, true, false, cond}
use mathlib.Core.List.{List, [], ◌∷◌, map}
use borrow.Author.Tests.{eqb-true, eqb-false, eq-eqb}
use lib.Dec.{eqb, T}
use Rattle.walks.specs.Lists.{All}
use Rattle.walks.specs.Meaning.{last}
use Rattle.packed_figures.specs.Packed.{distinct, figure_in, without}

-- the key j is one of them
abbrev pub among : ℕ → List ℕ → Bool
among j [] = false
among j (k ∷ ks) = cond (eqb k j) true (among j ks)

-- what holds of each one that is among them
pub all_of : (P : ℕ → Type 0) (ks : List ℕ) → ((k : ℕ) → T (among k ks) → P k) → All P ks
all_of P [] h = tt
all_of P (k ∷ ks) h = (h k (rw (eq-eqb k k refl) tt), all_of P ks (λ j t. h j (later j t (eqb k j))))
  where
    later : (j : ℕ) → T (among j ks) → (b : Bool) → T (cond b true (among j ks))
    later j t true = tt
    later j t false = t

pub all_map : (P Q : ℕ → Type 0) → ((k : ℕ) → P k → Q k) → (ks : List ℕ) → All P ks → All Q ks
all_map P Q f [] h = tt
all_map P Q f (k ∷ ks) h = (f k h.0, all_map P Q f ks h.1)

pub last_among : (k : ℕ) (ks : List ℕ) → T (among (last (k ∷ ks)) (k ∷ ks))
last_among k [] = rw (eq-eqb k k refl) tt
last_among k (j ∷ ks) = go (last_among j ks) (eqb k (last (j ∷ ks)))
  where
    go : T (among (last (j ∷ ks)) (j ∷ ks)) → (b : Bool) → T (cond b true (among (last (j ∷ ks)) (j ∷ ks)))
    go t true = tt
    go t false = t

pub last_map : (f : ℕ → ℕ) (k : ℕ) (ks : List ℕ) → last (map f (k ∷ ks)) ≡ f (last (k ∷ ks))
last_map f k [] = refl
last_map f k (j ∷ ks) = last_map f j ks

-- without a key, without repeated ones: what holds of each
pub without_all : (P : ℕ → Type 0) (k : ℕ) (ks : List ℕ) → All P ks → All P (without k ks)
unfolding without
without_all P k [] h = tt
without_all P k (j ∷ ks) h = go (without_all P k ks h.1) (eqb k j)
  where
    go : All P (without k ks) → (b : Bool) → All P (cond b (without k ks) (j ∷ without k ks))
    go a true = a
    go a false = (h.0, a)

pub distinct_all : (P : ℕ → Type 0) (ks : List ℕ) → All P ks → All P (distinct ks)
unfolding distinct
distinct_all P [] h = tt
distinct_all P (k ∷ ks) h = (h.0, without_all P k (distinct ks) (distinct_all P ks h.1))

-- another key stays among them; and each key
without_among : (j k : ℕ) → eqb k j ≡ false → (ks : List ℕ) → T (among j ks) → T (among j (without k ks))
unfolding without
without_among j k n [] t = t
without_among j k n (i ∷ ks) t = go (without_among j k n ks) (eqb i j) refl t (eqb k i) refl
  where
    go : (T (among j ks) → T (among j (without k ks))) → (b : Bool) → eqb i j ≡ b → T (cond b true (among j ks)) → (a : Bool) → eqb k i ≡ a
        → T (among j (cond a (without k ks) (i ∷ without k ks)))
    go f true e u true p = absurd (eqb-false k j n (eqb-true k i p ∙ eqb-true i j e))
    go f true e u false p = rw e tt
    go f false e u true p = f u
    go f false e u false p = rw e (f u)

pub distinct_among : (j : ℕ) (ks : List ℕ) → T (among j ks) → T (among j (distinct ks))
unfolding distinct
distinct_among j [] t = t
distinct_among j (k ∷ ks) t = go (distinct_among j ks) (eqb k j) refl t
  where
    go : (T (among j ks) → T (among j (distinct ks))) → (b : Bool) → eqb k j ≡ b → T (cond b true (among j ks))
        → T (cond b true (among j (without k (distinct ks))))
    go f true e u = tt
    go f false e u = without_among j k e (distinct ks) (f u)

-- the figure of a key that is among them
pub figure_in_map : (f : ℕ → ℕ) (ks : List ℕ) (k : ℕ) → T (among k ks) → figure_in ks (map f ks) k ≡ f k
unfolding figure_in
figure_in_map f [] k t = absurd t
figure_in_map f (j ∷ ks) k t = go (figure_in_map f ks k) (eqb j k) refl t
  where
    go : (T (among k ks) → figure_in ks (map f ks) k ≡ f k) → (b : Bool) → eqb j k ≡ b → T (cond b true (among k ks))
        → cond b (f j) (figure_in ks (map f ks) k) ≡ f k
    go r true e u = ap f (eqb-true j k e)
    go r false e u = r u
