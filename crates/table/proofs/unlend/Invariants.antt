use Prim.Native.Nat.{◌-◌, ◌≤◌, ◌<◌, min}
use mathlib.Core.Path.{◌≡◌}
use Rattle.vertex_set.specs.Sets.{above}
use Rattle.packed_figures.specs.Packed.{absent}
use Rattle.table.proofs.Lent.{Upto}
use Rattle.table.proofs.unlend.Given as goal

abbrev pub invariant-loop-m : goal.invariant-loop-m
invariant-loop-m l = (l.m.vertex ≤ 256) × (l.m.vertex < 256 → l.m.above ≡ above l.initial.figures l.j l.m.vertex)
    × Upto l.n (λ u. absent) l.initial.figures l.figures (min l.m.vertex l.n)

abbrev pub decreases-loop-m : goal.decreases-loop-m
decreases-loop-m l = 256 - l.m.vertex
