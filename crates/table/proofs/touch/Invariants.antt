use Prim.Native.Nat.{ℕ, ◌-◌, ◌≤◌, ◌<◌, min}
use mathlib.Core.Path.{◌≡◌}
use mathlib.Core.Bool.{true}
use mathlib.Core.List.{List, [], ◌∷◌}
use Rattle.vertex_set.specs.Sets.{above, four, joined_chosen, member}
use Rattle.table.specs.Steps.{lends}
use Rattle.table.proofs.Lent.{Upto}
use Rattle.table.proofs.touch.Given as goal

-- no one yet
abbrev pub zeros : List ℕ
zeros = 0 ∷ 0 ∷ 0 ∷ 0 ∷ []

abbrev pub invariant-loop-m : goal.invariant-loop-m
invariant-loop-m l = (l.m.vertex ≤ 256) × (l.m.vertex < 256 → member l.initial.figures l.j l.m.vertex ≡ true)
    × (l.m.vertex < 256 → l.m.above ≡ above l.initial.figures l.j l.m.vertex)
    × Upto l.n (lends l.c l.j l.initial.figures) l.initial.figures l.figures (min l.m.vertex l.n)
    × (four l.touched ≡ joined_chosen zeros 0 l.initial.figures l.j l.successors (min
    l.m.vertex l.n))

abbrev pub decreases-loop-m : goal.decreases-loop-m
decreases-loop-m l = 256 - l.m.vertex
