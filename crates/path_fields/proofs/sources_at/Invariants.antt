use Prim.Native.Nat.{◌+◌, ◌-◌, ◌*◌}
use mathlib.Core.Path.{◌≡◌}
use Rattle.path_fields.specs.Paths.{sources_at}
use Rattle.path_fields.proofs.sources_at.Given as goal

abbrev pub invariant-loop-i : goal.invariant-loop-i
invariant-loop-i l = l.path ≡ sources_at l.keys (l.k - l.i) l.s (l.at + 2 * l.i)
