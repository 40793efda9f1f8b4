-- Every value that an operator or a reduction gives of machine numbers is one, so that rows of 64 bits hold it. Assumes nothing.
use Prim.Native.Nat.{ℕ, ◌+◌, ◌-◌, ◌*◌, ◌/◌, ◌^◌, ◌<◌, min, max}
use mathlib.Core.Path.{◌≡◌, refl}
use mathlib.Core.Bool.{Bool, true, false, cond, ◌&&◌, ◌||◌}
use mathlib.Core.List.{List, [], ◌∷◌, foldr}
use native.Mathlib.Omega.{arith}
use native.Mathlib.Nat.{div-le_self}
use borrow.Author.Tests.{ltb-true}
use lib.Dec.{leb, ltb, eqb}
use Rattle.value.specs.declared.Value.{Value}
use Rattle.value.specs.declared.Value.TheVariants.{Absent, Number}
use Rattle.value.specs.Value.{number, truth, holds, compute, extremum, operate, present, combine, reduce}

-- "Numbers go to 2^64 − 1"
abbrev pub Held : Value → Type 0
Held Absent = Unit {0}
Held (Number x) = x < 2 ^ 64

abbrev pub AllHeld : List Value → Type 0
AllHeld [] = Unit {0}
AllHeld (v ∷ vs) = Held v × AllHeld vs

-- the same of the numbers that a reduction goes over
abbrev Small : List ℕ → Type 0
Small [] = Unit {0}
Small (x ∷ xs) = (x < 2 ^ 64) × Small xs

number_held : (x : ℕ) → Held (number x)
number_held x = go (ltb x (2 ^ 64)) refl
  where
    go : (b : Bool) → ltb x (2 ^ 64) ≡ b → Held (cond b (Number x) Absent)
    go true e = ltb-true x (2 ^ 64) e
    go false e = tt

truth_held : (b : Bool) → Held (truth b)
truth_held true = omega arith
truth_held false = omega arith

-- a value chosen by a test
one_of : (b : Bool) (x y : Value) → Held x → Held y → Held (cond b x y)
one_of true x y h k = h
one_of false x y h k = k

compute_held : (o x y : ℕ) → x < 2 ^ 64 → y < 2 ^ 64 → Held (compute o x y)
unfolding compute
compute_held o x y h k =
    one_of (eqb o 1) _ _ (omega arith)
    (one_of (eqb o 2) _ _ (omega arith)
    (one_of (eqb o 3) _ _ (number_held (x + y))
    (one_of (eqb o 4) _ _ (one_of (leb y x) (Number (x - y)) Absent (omega arith) tt)
    (one_of (eqb o 5) _ _ (number_held (x * y))
    (one_of (eqb o 6) _ _ (one_of (eqb y 0) Absent (Number (x / y)) tt (omega (arith, div-le_self x y)))
    (one_of (eqb o 7) _ _ (truth_held (eqb x y))
    (one_of (eqb o 8) _ _ (truth_held (ltb x y))
    (one_of (eqb o 9) _ _ (truth_held (ltb y x))
    (one_of (eqb o 10) _ _ (truth_held (holds x && holds y)) (one_of (eqb o 11) _ _ (truth_held (holds x || holds y)) tt))))))))))

-- AN OPERATOR GIVES A MACHINE NUMBER OR NONE
pub operate_held : (o : ℕ) (a b : Value) → Held a → Held b → Held (operate o a b)
operate_held o Absent b h k = one_of (extremum o) b Absent k tt
operate_held o (Number x) Absent h k = one_of (extremum o) (Number x) Absent h tt
operate_held o (Number x) (Number y) h k = compute_held o x y h k

present_small : (vs : List Value) → AllHeld vs → Small (present vs)
present_small [] h = tt
present_small (Absent ∷ vs) h = present_small vs h.1
present_small (Number x ∷ vs) h = (h.0, present_small vs h.1)

min_small : (x : ℕ) (xs : List ℕ) → x < 2 ^ 64 → foldr min x xs < 2 ^ 64
min_small x [] h = h
min_small x (y ∷ ys) h = omega (arith, min_small x ys h)

max_small : (x : ℕ) (xs : List ℕ) → x < 2 ^ 64 → Small xs → foldr max x xs < 2 ^ 64
max_small x [] h k = h
max_small x (y ∷ ys) h k = omega (arith, max_small x ys h k.1, k.0)

combine_held : (r : ℕ) (xs : List ℕ) → Small xs → Held (combine r xs)
unfolding combine
combine_held r [] h = tt
combine_held r (x ∷ xs) h =
    one_of (eqb r 1) _ _ (min_small x xs h.0)
    (one_of (eqb r 2) _ _ (max_small x xs h.0 h.1)
    (one_of (eqb r 3) _ _ (number_held (foldr ◌+◌ x xs))
    (one_of (eqb r 4) _ _ (truth_held (foldr (λ y b. holds y && b) (holds x) xs))
    (one_of (eqb r 5) _ _ (truth_held (foldr (λ y b. holds y || b) (holds x) xs)) tt))))

-- AND SO DOES A REDUCTION
pub reduce_held : (r : ℕ) (vs : List Value) → AllHeld vs → Held (reduce r vs)
reduce_held r vs h = combine_held r (present vs) (present_small vs h)
