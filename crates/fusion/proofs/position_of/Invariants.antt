use Prim.Native.Nat.{◌+◌}
use mathlib.Core.Path.{◌≡◌}
use lib.ListN.{drop}
use Rattle.fusion.specs.Steps.{index_of}
use Rattle.fusion.proofs.position_of.Given as goal

abbrev pub invariant-loop-i : goal.invariant-loop-i
invariant-loop-i l = l.i + index_of l.p (drop l.i l.other-items) ≡ index_of l.p l.other-items
