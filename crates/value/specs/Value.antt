-- Values, operators and reductions (document 01, "Meaning").
use Rattle.std.specs.Prelude.{ℕ, ◌+◌, ◌-◌, ◌*◌, ◌/◌, ◌^◌, min, max, Bool, false, cond, not, ◌&&◌, ◌||◌, leb, ltb, eqb}
use mathlib.Core.List.{List, [], ◌∷◌, foldr, map}
use Rattle.value.specs.declared.Value.{Value}
use Rattle.value.specs.declared.Value.TheVariants.{Absent, Number}
use Rattle.value.specs.declared.Row.{Row}

-- "Numbers go to 2^64 − 1": a result too large is absent
abbrev pub number : ℕ → Value
number x = cond (ltb x (2 ^ 64)) (Number x) Absent

-- "Comparisons, and, or give 1 or 0"
abbrev pub truth : Bool → Value
truth b = Number (cond b 1 0)

-- "a number other than 0 is true"
abbrev pub holds : ℕ → Bool
holds x = not (eqb x 0)

-- and, or: true where both numbers are; where one is
abbrev pub both : ℕ → ℕ → Value
both x y = truth (holds x && holds y)

abbrev pub either : ℕ → ℕ → Value
either x y = truth (holds x || holds y)

-- "Operators: 1 min, 2 max, 3 plus, 4 minus, 5 times, 6 divide, 7 equal, 8 less, 9 greater, 10 and, 11 or", on two numbers. Absent for "a minus below zero,
-- a division by zero, or a result too large"; "Division drops the remainder". (Absent for any other number, which no legal query has.)
unfoldable pub compute : ℕ → ℕ → ℕ → Value
compute operator x y =
    cond (eqb operator 1) (Number (min x y))
    (cond (eqb operator 2) (Number (max x y))
    (cond (eqb operator 3) (number (x + y))
    (cond (eqb operator 4) (cond (leb y x) (Number (x - y)) Absent)
    (cond (eqb operator 5) (number (x * y))
    (cond (eqb operator 6) (cond (eqb y 0) Absent (Number (x / y)))
    (cond (eqb operator 7) (truth (eqb x y))
    (cond (eqb operator 8) (truth (ltb x y))
    (cond (eqb operator 9) (truth (ltb y x))
    (cond (eqb operator 10) (both x y)
    (cond (eqb operator 11) (either x y) Absent))))))))))

-- min and max: the operators that an absent operand does not make absent
abbrev pub extremum : ℕ → Bool
extremum operator = eqb operator 1 || eqb operator 2

-- with an absent operand: "operators min and max with one absent operand give the other operand" (document 02, c), so with both absent, absent; any other
-- "operator with an absent operand gives absent"
abbrev pub beside_absent : ℕ → Value → Value
beside_absent operator other = cond (extremum operator) other Absent

-- an operator on two values
abbrev pub operate : ℕ → Value → Value → Value
operate operator Absent b = beside_absent operator b
operate operator (Number x) Absent = beside_absent operator (Number x)
operate operator (Number x) (Number y) = compute operator x y

-- "A reduction over places skips absent values"
abbrev pub present : List Value → List ℕ
present [] = []
present (Absent ∷ vs) = present vs
present (Number x ∷ vs) = x ∷ present vs

-- "Reductions: 1 min, 2 max, 3 sum, 4 and, 5 or": "with none left it is absent, and so is a sum too large"; and, or give 1 or 0 "also as reductions".
-- (Absent for any other number, which no legal query has.)
unfoldable pub combine : ℕ → List ℕ → Value
combine reduction [] = Absent
combine reduction (x ∷ xs) =
    cond (eqb reduction 1) (Number (foldr min x xs))
    (cond (eqb reduction 2) (Number (foldr max x xs))
    (cond (eqb reduction 3) (number (foldr ◌+◌ x xs))
    (cond (eqb reduction 4) (truth (foldr (λ y b. holds y && b) (holds x) xs))
    (cond (eqb reduction 5) (truth (foldr (λ y b. holds y || b) (holds x) xs)) Absent))))

-- a reduction: over the values that are numbers
abbrev pub reduce : ℕ → List Value → Value
reduce reduction vs = combine reduction (present vs)

-- the values of rows: "an answer row holds one"
abbrev pub values : List Row → List Value
values = map (λ (r : Row). r.value)

-- "A place counts where the condition is a number other than 0; an absent condition leaves the place out." (document 02, a)
abbrev pub counts : Value → Bool
counts Absent = false
counts (Number x) = holds x

-- the values xs at the places that count, where cs are those of the condition
abbrev pub chosen : List Value → List Value → List Value
chosen [] xs = []
chosen (c ∷ cs) [] = []
chosen (c ∷ cs) (x ∷ xs) = cond (counts c) (x ∷ chosen cs xs) (chosen cs xs)
