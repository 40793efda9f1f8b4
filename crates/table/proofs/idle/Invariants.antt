use Rattle.packed_figures.specs.Packed.{absent}
use Rattle.table.proofs.Lent.{Upto}
use Rattle.table.proofs.idle.Given as goal

abbrev pub invariant-loop-u : goal.invariant-loop-u
invariant-loop-u l = Upto l.n (λ u'. absent) l.initial.figures l.figures l.u
