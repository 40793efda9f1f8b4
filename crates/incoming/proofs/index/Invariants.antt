use mathlib.Core.Path.{◌≡◌}
use lib.ListN.{length}
use Rattle.incoming.specs.Incoming.{Successors, Threaded}
use Rattle.incoming.proofs.index.Given as goal

abbrev pub invariant-loop-i : goal.invariant-loop-i
invariant-loop-i l = (length l.heads ≡ length l.initial.heads) × (length l.nexts ≡ length l.initial.nexts)
    × (length l.successors ≡ length l.initial.successors)
    × Threaded l.graph.bytes.now l.i l.heads l.nexts × Successors l.graph.bytes.now l.i l.successors
