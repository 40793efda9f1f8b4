use Rattle.nodes.proofs.Held.{Held}
use Rattle.nodes.proofs.read_nodes.Given as goal

abbrev pub invariant-loop-i : goal.invariant-loop-i
invariant-loop-i l = Held l.s l.at l.i-end l.nodes l.next l.i
