use Prim.Native.Nat.{ℕ, ◌+◌, ◌*◌, ◌/◌, ◌%◌, ◌^◌, ◌<◌}
use mathlib.Core.Path.{◌≡◌, refl, ap, ◌∙◌}
use mathlib.Core.Bool.{Bool, true, false, cond}
use mathlib.Core.List.{List}
use native.Mathlib.Nat.{zero-mul}
use native.Mathlib.Omega.{arith}
use borrow.Author.Rules.{rules}
use lib.Bits.{bit_or, or_zero_r}
use lib.ListN.{get_or, set}
use lib.Seq.{set-get_or}
use Rattle.vertex_set.specs.Sets.{inserted}
use Rattle.vertex_set.proofs.Digits.{one_shifted}
use Rattle.vertex_set.proofs.insert_if.Goals as goal

kept : (test : Bool) (words : List ℕ) (k j : ℕ) → j < 64
    → set words k (bit_or (get_or words k 0) (cond test 1 0 * 2 ^ j % 18446744073709551616))
    ≡ cond test (set words k (bit_or (get_or words k 0) (2 ^ j))) words
kept true words k j h = rw (one_shifted j h) refl
kept false words k j h = rw (zero-mul (2 ^ j)) (ap (set words k) (or_zero_r (get_or words k 0)) ∙ set-get_or words k 0)

pub returns : goal.returns
unfolding inserted
returns c =
    let a = c.args in
    let h : c.from.result ≡ cond a.test 1 0 = search rules in
    rw h (kept a.test a.words.now (4 * a.f + a.v / 64) (a.v % 64) (omega arith))
