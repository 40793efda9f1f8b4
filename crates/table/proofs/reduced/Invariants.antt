use Prim.Native.Nat.{◌-◌, ◌≤◌, ◌<◌}
use mathlib.Core.Path.{◌≡◌}
use Rattle.wire.specs.Wire.{at16}
use Rattle.graph.specs.Graph.{edge_in}
use Rattle.table.specs.Steps.{lent_in, reduced_upto}
use Rattle.table.proofs.reduced.Given as goal

abbrev pub invariant-loop-i : goal.invariant-loop-i
invariant-loop-i l = (l.i ≤ at16 l.indexed.graph.bytes.now 7)
    × (l.i < at16 l.indexed.graph.bytes.now 7 → (edge_in l.indexed.graph.bytes.now l.i).to ≡ l.v)
    × (l.best ≡ reduced_upto l.indexed.graph.bytes.now l.c (lent_in l.indexed.graph.bytes.now l.figures) l.word l.v l.i)

abbrev pub decreases-loop-i : goal.decreases-loop-i
decreases-loop-i l = l.m - l.i
