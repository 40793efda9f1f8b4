use native.Mathlib.Omega.{arith}
use Rattle.nodes.specs.Steps.{nodes_read}
use Rattle.nodes.proofs.Held.{held_more, held_all}
use Rattle.nodes.proofs.read_nodes.Goals as goal

pub loop-i-preserved : goal.loop-i-preserved
loop-i-preserved c =
    let l = c.loop-i in
    rw (c.term_of.ensures, c.next_of-next.ensures) (held_more _ _ _ (omega arith) l.nodes l.next l.i c.loop-i-test.true l.invariant)

pub returns : goal.returns
unfolding nodes_read
returns c =
    let l = c.loop-i in
    rw (← c.min-i-end.ensures) (held_all _ _ _ l.nodes l.next l.i c.loop-i-test.false l.invariant)
