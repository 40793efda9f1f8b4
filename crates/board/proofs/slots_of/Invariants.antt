use mathlib.Core.Path.{◌≡◌}
use Prim.Native.Nat.{ℕ}
use mathlib.Core.List.{List}
use lib.ListN.{get_or}
use Rattle.eval.proofs.Fill.{filled}
use Rattle.fusion.specs.Steps.{index_of}
use Rattle.packed_path.specs.declared.PackedPath.{PackedPath}
use Rattle.packed_path.specs.Packed.{no_path}
use Rattle.board.proofs.slots_of.Given as goal

-- the slot of the i-th
abbrev pub slot : List PackedPath → List PackedPath → ℕ → ℕ
slot own joint i = index_of (get_or own i no_path) joint

abbrev pub invariant-loop-j : goal.invariant-loop-j
invariant-loop-j l = l.slots ≡ filled 8 (slot l.own l.joint) 0 l.j
