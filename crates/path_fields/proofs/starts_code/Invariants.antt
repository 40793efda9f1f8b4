use Prim.Native.Nat.{◌+◌, ◌-◌, ◌*◌}
use mathlib.Core.Path.{◌≡◌}
use Rattle.path_fields.specs.Paths.{starts_code}
use Rattle.path_fields.proofs.starts_code.Given as goal

abbrev pub invariant-loop-i : goal.invariant-loop-i
invariant-loop-i l = starts_code l.k 0 l.s l.at ≡ starts_code (l.k - l.i) l.least l.s (l.at + 2 * l.i)
