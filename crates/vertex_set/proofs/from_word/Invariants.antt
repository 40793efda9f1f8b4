use Prim.Native.Nat.{◌*◌}
use mathlib.Core.Path.{◌≡◌}
use Rattle.vertex_set.specs.Sets.{next_member}
use Rattle.vertex_set.proofs.from_word.Given as goal

abbrev pub invariant-loop-j : goal.invariant-loop-j
invariant-loop-j l = next_member l.words l.f (64 * l.j) ≡ next_member l.words l.f (64 * l.k)
