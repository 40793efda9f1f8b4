-- A reduction value by value, as the program goes, is the reduction. Assumes nothing.
use Prim.Native.Nat.{ℕ, zero, suc, ◌+◌, ◌^◌, min, max}
use mathlib.Core.Path.{◌≡◌, refl, sym, ap, ◌∙◌}
use mathlib.Core.Bool.{Bool, true, false, cond, ◌&&◌, ◌||◌}
use mathlib.Core.Bool.{and-false, and-true, and_assoc, and_comm, and_self, or-false, or-true, or_assoc, or_comm, or_self}
use mathlib.Core.List.{List, [], ◌∷◌, ◌++◌, foldr, foldl}
use native.Mathlib.Omega.{arith}
use borrow.Author.Tests.{ltb-false, ne_eqb}
use lib.Dec.{ltb}
use Rattle.std.specs.List.{fold}
use Rattle.std.specs.Prelude.{Option, Some, None}
use Rattle.value.specs.declared.Value.{Value}
use Rattle.value.specs.declared.Value.TheVariants.{Absent, Number}
use Rattle.value.specs.declared.Row.{Row}
use Rattle.value.specs.Value.{number, truth, holds, compute, present, combine, reduce, values}
use Rattle.value.specs.Steps.{joining, join, start, step, finish}
use Rattle.value.proofs.Numbers.{number_large}

module _ {B : Type 0} where
  -- the order in which the numbers are joined does not matter
  module _ (f : ℕ → B → B) (swap : (x y : ℕ) (b : B) → f x (f y b) ≡ f y (f x b)) where
    out : (y : ℕ) (b : B) (ys : List ℕ) → foldr f (f y b) ys ≡ f y (foldr f b ys)
    out y b [] = refl
    out y b (z ∷ zs) = ap (f z) (out y b zs) ∙ swap z y (foldr f b zs)

    ends : (b : B) (xs : List ℕ) → foldl (λ a x. f x a) b xs ≡ foldr f b xs
    ends b [] = refl
    ends b (y ∷ ys) = ends (f y b) ys ∙ out y b ys

  -- joining by an operator, where each step is a step of f on what the values stand for
  folded : (operator : ℕ) (g : B → Value) (f : ℕ → B → B) → ((b : B) (y : ℕ) → join operator (g b) y ≡ g (f y b))
      → (b : B) (xs : List ℕ) → foldl (join operator) (g b) xs ≡ g (foldl (λ a y. f y a) b xs)
  folded operator g f e b [] = refl
  folded operator g f e b (y ∷ ys) = ap (λ (t : Value). foldl (join operator) t ys) (e b y) ∙ folded operator g f e (f y b) ys

-- AN ABSENT TOTAL STAYS ABSENT, whatever follows: of a sum that is too large, of any other reduction if it had one. The step says so of the total itself, and
-- not of what operators give beside an absent operand.
pub absent_stays : (r : ℕ) (vs : List Value) → foldl (step r) (Some Absent) vs ≡ Some Absent
absent_stays r [] = refl
absent_stays r (Absent ∷ vs) = absent_stays r vs
absent_stays r (Number x ∷ vs) = absent_stays r vs

-- one step by an operator: of a sum, of an and, of an or
sum_step : (a y : ℕ) → join 3 (number a) y ≡ number (y + a)
unfolding compute
sum_step a y = go (ltb a (2 ^ 64)) refl
  where
    go : (b : Bool) → ltb a (2 ^ 64) ≡ b → join 3 (cond b (Number a) Absent) y ≡ number (y + a)
    go true e = ap number (let s : a + y ≡ y + a = omega arith in s)
    go false e = number_large (y + a) (omega (arith, ltb-false a (2 ^ 64) e))

and_step : (b : Bool) (y : ℕ) → join 10 (truth b) y ≡ truth (holds y && b)
unfolding compute
and_step true y = ap truth (sym (and-true (holds y)))
and_step false y = ap truth (sym (and-false (holds y)))

or_step : (b : Bool) (y : ℕ) → join 11 (truth b) y ≡ truth (holds y || b)
unfolding compute
or_step true y = ap truth (sym (or-true (holds y)))
or_step false y = ap truth (sym (or-false (holds y)))

and_swap : (a b c : Bool) → (a && (b && c)) ≡ (b && (a && c))
and_swap a b c = sym (and_assoc a b c) ∙ ap (λ (t : Bool). t && c) (and_comm a b) ∙ and_assoc b a c

or_swap : (a b c : Bool) → (a || (b || c)) ≡ (b || (a || c))
or_swap a b c = sym (or_assoc a b c) ∙ ap (λ (t : Bool). t || c) (or_comm a b) ∙ or_assoc b a c

-- the numbers joined from the first on
abbrev total : ℕ → ℕ → List ℕ → Value
total r x xs = foldl (join (joining r)) (join (joining r) (Number (start r x)) x) xs

-- its first step
begun : (r x : ℕ) (xs : List ℕ) (t : Value) → join (joining r) (Number (start r x)) x ≡ t
    → total r x xs ≡ foldl (join (joining r)) t xs
begun r x xs t e = ap (λ (t : Value). foldl (join (joining r)) t xs) e

-- joined one by one, the numbers are combined, whatever the reduction
joined : (r x : ℕ) (xs : List ℕ) → total r x xs ≡ combine r (x ∷ xs)
unfolding compute combine
joined zero x xs = folded 0 (λ (u : Unit {0}). Absent) (λ y u. u) (λ u y. refl) tt xs
joined (suc zero) x xs =
    begun 1 x xs (Number x) (ap Number (let e : min x x ≡ x = omega arith in e))
    ∙ folded 1 Number min (λ b y. ap Number (let e : min b y ≡ min y b = omega arith in e)) x xs ∙ ap Number (ends min (λ a b t. omega arith) x xs)
joined (suc (suc zero)) x xs =
    begun 2 x xs (Number x) (ap Number (let e : max x x ≡ x = omega arith in e))
    ∙ folded 2 Number max (λ b y. ap Number (let e : max b y ≡ max y b = omega arith in e)) x xs ∙ ap Number (ends max (λ a b t. omega arith) x xs)
joined (suc (suc (suc zero))) x xs =
    begun 3 x xs (number x) (ap number (let e : 0 + x ≡ x = omega arith in e))
    ∙ folded 3 number ◌+◌ sum_step x xs ∙ ap number (ends ◌+◌ (λ a b t. omega arith) x xs)
joined (suc (suc (suc (suc zero)))) x xs =
    begun 4 x xs (truth (holds x)) (ap truth (and_self (holds x)))
    ∙ folded 10 truth (λ y b. holds y && b) and_step (holds x) xs
    ∙ ap truth (ends (λ y b. holds y && b) (λ a b t. and_swap (holds a) (holds b) t) (holds x) xs)
joined (suc (suc (suc (suc (suc zero))))) x xs =
    begun 5 x xs (truth (holds x)) (ap truth (or_self (holds x)))
    ∙ folded 11 truth (λ y b. holds y || b) or_step (holds x) xs
    ∙ ap truth (ends (λ y b. holds y || b) (λ a b t. or_swap (holds a) (holds b) t) (holds x) xs)
joined (suc (suc (suc (suc (suc (suc r)))))) x xs =
    let k = suc (suc (suc (suc (suc (suc r))))) in
    folded 0 (λ (u : Unit {0}). Absent) (λ y u. u) (λ u y. refl) tt xs
    ∙ rw (
      ne_eqb k 1 (λ e. omega arith),
      ne_eqb k 2 (λ e. omega arith),
      ne_eqb k 3 (λ e. omega arith),
      ne_eqb k 4 (λ e. omega arith),
      ne_eqb k 5 (λ e. omega arith),
    ) refl

-- values from a total on: absent ones are skipped
reached : (r : ℕ) (t : Value) (vs : List Value) → foldl (step r) (Some t) vs
    ≡ Some (foldl (join (joining r)) t (present vs))
reached r t [] = refl
reached r t (Absent ∷ vs) = reached r t vs
reached r t (Number x ∷ vs) = reached r (join (joining r) t x) vs

-- A REDUCTION VALUE BY VALUE IS THE REDUCTION
pub reduced : (r : ℕ) (vs : List Value) → finish (foldl (step r) None vs) ≡ reduce r vs
unfolding combine
reduced r [] = refl
reduced r (Absent ∷ vs) = reduced r vs
reduced r (Number x ∷ vs) = ap finish (reached r (join (joining r) (Number (start r x)) x) vs) ∙ joined r x (present vs)

-- the last value is the last step
pub snoc : (r : ℕ) (p : Option Value) (rows : List Row) (row : Row) → foldl (step r) p (values (rows ++ (row ∷ [])))
    ≡ step r (foldl (step r) p (values rows)) row.value
snoc r p [] row = refl
snoc r p (x ∷ rows) row = snoc r (step r p x.value) rows row

-- and so it is by std's fold, which the chain of `reached` is
as_foldl : (r : ℕ) (p : Option Value) (vs : List Value) → fold (step r) p vs ≡ foldl (step r) p vs
as_foldl r p [] = refl
as_foldl r p (v ∷ vs) = as_foldl r (step r p v) vs

pub fold_reduced : (r : ℕ) (vs : List Value) → finish (fold (step r) None vs) ≡ reduce r vs
fold_reduced r vs = ap finish (as_foldl r None vs) ∙ reduced r vs
