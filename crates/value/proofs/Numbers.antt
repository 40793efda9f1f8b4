-- What the code's proofs cite: "a result too large" is absent, and so is what numbers give that are no operator's and no reduction's. Assumes nothing.
use Prim.Native.Nat.{ℕ, ◌^◌, ◌≤◌, ◌<◌}
use mathlib.Core.Path.{◌≡◌, refl}
use native.Mathlib.Omega.{arith}
use borrow.Author.Tests.{le-ltb, lt-ltb, ne_eqb}
use Rattle.std.specs.Prelude.{◌⊎◌, Option, Some}
use Rattle.value.specs.declared.Value.{Value}
use Rattle.value.specs.declared.Value.TheVariants.{Absent, Number}
use Rattle.value.specs.Value.{number, compute, operate}
use Rattle.value.specs.Steps.{joining, join, so_far, step}

-- a number that fits is its own value; one too large is absent
pub number_fits : (x : ℕ) → x < 2 ^ 64 → Number x ≡ number x
number_fits x h = rw (lt-ltb x (2 ^ 64) h) refl

pub number_large : (x : ℕ) → 2 ^ 64 ≤ x → Absent ≡ number x
number_large x h = rw (le-ltb x (2 ^ 64) h) refl

-- of a number that is no operator's
compute_unknown : (n x y : ℕ) → (n ≡ 0) ⊎ (11 < n) → compute n x y ≡ Absent
unfolding compute
compute_unknown n x y h =
    rw (
      ne_eqb n 1 (λ e. omega arith),
      ne_eqb n 2 (λ e. omega arith),
      ne_eqb n 3 (λ e. omega arith),
      ne_eqb n 4 (λ e. omega arith),
      ne_eqb n 5 (λ e. omega arith),
      ne_eqb n 6 (λ e. omega arith),
      ne_eqb n 7 (λ e. omega arith),
      ne_eqb n 8 (λ e. omega arith),
      ne_eqb n 9 (λ e. omega arith),
      ne_eqb n 10 (λ e. omega arith),
      ne_eqb n 11 (λ e. omega arith),
    ) refl

pub operate_unknown : (n : ℕ) (a b : Value) → (n ≡ 0) ⊎ (11 < n) → operate n a b ≡ Absent
operate_unknown n Absent b h = rw (ne_eqb n 1 (λ e. omega arith), ne_eqb n 2 (λ e. omega arith)) refl
operate_unknown n (Number x) Absent h = rw (ne_eqb n 1 (λ e. omega arith), ne_eqb n 2 (λ e. omega arith)) refl
operate_unknown n (Number x) (Number y) h = compute_unknown n x y h

-- of a number that is no reduction's
none_joins : (n : ℕ) → (n ≡ 0) ⊎ (5 < n) → joining n ≡ 0
none_joins n h = grind arith

none_joined : (t : Value) (x : ℕ) → join 0 t x ≡ Absent
unfolding compute
none_joined Absent x = refl
none_joined (Number y) x = refl

pub step_unknown : (n : ℕ) (p : Option Value) (x : ℕ) → (n ≡ 0) ⊎ (5 < n) → step n p (Number x) ≡ Some Absent
step_unknown n p x h = rw (none_joins n h, none_joined (so_far n p x) x) refl
