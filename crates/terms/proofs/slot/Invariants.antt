use Prim.Native.Nat.{◌-◌}
use mathlib.Core.Path.{◌≡◌}
use Rattle.terms.specs.Terms.{slot_of}
use Rattle.terms.proofs.slot.Given as goal

abbrev pub invariant-loop-i : goal.invariant-loop-i
invariant-loop-i l = slot_of 8 l.w.paths l.w.table l.path 0 ≡ slot_of (8 - l.i) l.w.paths l.w.table l.path l.i
