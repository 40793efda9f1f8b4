-- A reduction as the program goes, value by value. Nothing to believe: `reduced` (proofs/Reduced) says that it is `reduce`, `left_out` (proofs/Chosen) that
-- values which do not count may stay as absent ones.
use Rattle.std.specs.Prelude.{ℕ, ◌≡◌, cond, List, [], ◌∷◌, eqb, get_or, ◌<◌, ◌⊎◌, Option, Some, None, Result, MatchResult}
use Rattle.value.specs.declared.Value.{Value}
use Rattle.value.specs.declared.Value.TheVariants.{Absent, Number}
use Rattle.value.specs.declared.Operator.{Operator}
use Rattle.value.specs.declared.Operator.TheVariants.{Min, Max, Plus, Minus, Times, Divide, Equal, Less, Greater, And, Or}
use Rattle.value.specs.declared.Reduction.{Reduction}
use Rattle.value.specs.declared.Reduction.TheVariants as reduction
use Rattle.value.specs.declared.Unknown.{Unknown}
use Rattle.value.specs.Value.{compute, counts}

-- the number of an operator
abbrev pub number_of : Operator → ℕ
number_of Min = 1
number_of Max = 2
number_of Plus = 3
number_of Minus = 4
number_of Times = 5
number_of Divide = 6
number_of Equal = 7
number_of Less = 8
number_of Greater = 9
number_of And = 10
number_of Or = 11

-- the operator of a number, or a number that is none's
abbrev pub Operates : ℕ → Result Operator Unknown → Type 0
Operates n r = MatchResult r (λ o. number_of o ≡ n) (λ e. (n ≡ 0) ⊎ (11 < n))

-- an operator on two numbers
abbrev pub by_number : Operator → ℕ → ℕ → Value
by_number o x y = compute (number_of o) x y

-- the number of a reduction, and the reduction of a number
abbrev pub reduction_number : Reduction → ℕ
reduction_number reduction.Min = 1
reduction_number reduction.Max = 2
reduction_number reduction.Sum = 3
reduction_number reduction.And = 4
reduction_number reduction.Or = 5

abbrev pub Reduces : ℕ → Result Reduction Unknown → Type 0
Reduces n r = MatchResult r (λ o. reduction_number o ≡ n) (λ e. (n ≡ 0) ⊎ (5 < n))

-- a result that there may be
abbrev pub value_of : Option ℕ → Value
value_of None = Absent
value_of (Some x) = Number x

-- the operator that joins the numbers of a reduction: min, max, plus, and, or
abbrev pub joining : ℕ → ℕ
joining reduction = get_or (0 ∷ 1 ∷ 2 ∷ 3 ∷ 10 ∷ 11 ∷ []) reduction 0

-- what the first number is joined to
abbrev pub start : ℕ → ℕ → ℕ
start reduction x = cond (eqb reduction 3) 0 x

-- what the next number x is joined to: the total of those before it, or, for the first, where the reduction begins
abbrev pub so_far : ℕ → Option Value → ℕ → Value
so_far reduction None x = Number (start reduction x)
so_far reduction (Some t) x = t

-- a total joined with the next number: one too large stays absent
abbrev pub join : ℕ → Value → ℕ → Value
join operator Absent x = Absent
join operator (Number y) x = compute operator y x

-- one value more; "skips absent values"
abbrev pub step : ℕ → Option Value → Value → Option Value
step reduction partial Absent = partial
step reduction partial (Number x) = Some (join (joining reduction) (so_far reduction partial x) x)

-- "with none left it is absent"
abbrev pub finish : Option Value → Value
finish None = Absent
finish (Some t) = t

-- a value that counts by its condition, absent where it does not
abbrev pub where_counts : Value → Value → Value
where_counts c x = cond (counts c) x Absent

-- so of each of a list
abbrev pub all_where : List Value → List Value → List Value
all_where [] xs = []
all_where (c ∷ cs) [] = []
all_where (c ∷ cs) (x ∷ xs) = where_counts c x ∷ all_where cs xs
