use Prim.Native.Nat.{ℕ, ◌≤◌}
use mathlib.Core.Path.{◌≡◌}
use lib.ListN.{length}
use Rattle.nodes.specs.declared.Term.{Term}
use Rattle.fusion.specs.Steps.{Computes, put_part}
use Rattle.fusion.proofs.Parts.{left, written}
use Rattle.fusion.proofs.put_part.Given as goal

abbrev pub invariant-loop-node : goal.invariant-loop-node
invariant-loop-node g l = (l.k ≤ l.node-index)
    × ((part : ℕ → Term → Term) → Computes (goal.F-post g l.part) part
    → put_part part l.k (written l.list l.len) (left l.node-items (length l.node-items) l.node-index)
    ≡ put_part part 0 (written l.initial.list l.initial.len) l.node-items)
