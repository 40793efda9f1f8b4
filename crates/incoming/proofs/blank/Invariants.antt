use Prim.Native.Nat.{ℕ, ◌<◌}
use mathlib.Core.Path.{◌≡◌}
use mathlib.Core.Bool.{false}
use lib.ListN.{length, get_or}
use Rattle.vertex_set.specs.Sets.{member}
use Rattle.incoming.proofs.blank.Given as goal

abbrev pub invariant-loop-v : goal.invariant-loop-v
invariant-loop-v l = (length l.heads ≡ length l.initial.heads) × (length l.successors ≡ length l.initial.successors)
    × ((u : ℕ) → u < l.v → get_or l.heads u 0 ≡ l.m)
    × ((f t : ℕ) → f < l.v → t < 256 → member l.successors f t ≡ false)
