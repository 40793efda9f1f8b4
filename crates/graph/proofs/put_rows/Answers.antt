use mathlib.Core.Path.{◌∙◌}
use native.Mathlib.Omega.{arith}
use Rattle.graph.proofs.Bytes.{row_more}
use Rattle.graph.proofs.put_rows.Goals as goal

pub loop-i-preserved : goal.loop-i-preserved
loop-i-preserved c =
    let a = c.args in
    let l = c.loop-i in
    c.put_edge.ensures ∙ rw l.invariant (row_more a.out.now a.rows.now l.i (omega arith))
