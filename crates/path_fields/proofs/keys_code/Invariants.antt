use Prim.Native.Nat.{◌+◌, ◌-◌}
use mathlib.Core.Path.{◌≡◌}
use Rattle.path_fields.specs.Paths.{keys_code}
use Rattle.path_fields.proofs.keys_code.Given as goal

abbrev pub invariant-loop-i : goal.invariant-loop-i
invariant-loop-i l = keys_code l.n l.s l.at ≡ keys_code (l.n - l.i) l.s (l.at + l.i)
