use Prim.Native.Nat.{◌-◌, ◌≤◌, ◌<◌}
use mathlib.Core.Path.{◌≡◌}
use mathlib.Core.Bool.{true}
use Rattle.vertex_set.specs.Sets.{above, member}
use Rattle.table.specs.Steps.{Walked}
use Rattle.table.proofs.walk.Given as goal

abbrev pub invariant-loop-m : goal.invariant-loop-m
invariant-loop-m l = (l.m.vertex ≤ 256) × (l.m.vertex < 256 → member l.work 0 l.m.vertex ≡ true)
    × Walked l.indexed.graph.bytes.now l.c l.j l.initial.figures l.initial.work l.figures l.work l.m.vertex
    × (l.m.vertex < 256 → l.m.above ≡ above l.work 0 l.m.vertex)

abbrev pub decreases-loop-m : goal.decreases-loop-m
decreases-loop-m l = 256 - l.m.vertex
