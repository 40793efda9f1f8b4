-- A value that does not count may stay as an absent one, since a reduction "skips absent values". Assumes nothing.
use Prim.Native.Nat.{ℕ}
use mathlib.Core.Path.{◌≡◌, refl, ap}
use mathlib.Core.Bool.{Bool, true, false, cond}
use mathlib.Core.List.{List, [], ◌∷◌}
use Rattle.value.specs.declared.Value.{Value}
use Rattle.value.specs.declared.Value.TheVariants.{Absent, Number}
use Rattle.value.specs.Steps.{all_where}
use Rattle.value.specs.Value.{chosen, combine, counts, present, reduce}

present_same : (x : Value) (xs ys : List Value) → present xs ≡ present ys → present (x ∷ xs) ≡ present (x ∷ ys)
present_same Absent xs ys e = e
present_same (Number x) xs ys e = ap (λ (l : List ℕ). x ∷ l) e

present_chosen : (cs xs : List Value) → present (all_where cs xs) ≡ present (chosen cs xs)
present_chosen [] xs = refl
present_chosen (c ∷ cs) [] = refl
present_chosen (c ∷ cs) (x ∷ xs) = go (counts c) (present_chosen cs xs)
  where
    go : (b : Bool) → present (all_where cs xs) ≡ present (chosen cs xs)
        → present (cond b x Absent ∷ all_where cs xs) ≡ present (cond b (x ∷ chosen cs xs) (chosen cs xs))
    go true e = present_same x (all_where cs xs) (chosen cs xs) e
    go false e = e

-- A REDUCTION LEAVES OUT WHAT DOES NOT COUNT
pub left_out : (reduction : ℕ) (cs xs : List Value) → reduce reduction (all_where cs xs) ≡ reduce reduction (chosen cs xs)
left_out reduction cs xs = ap (combine reduction) (present_chosen cs xs)
