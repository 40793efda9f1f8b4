use mathlib.Core.Path.{refl, ◌∙◌}
use native.Mathlib.Omega.{arith}
use Rattle.std.proofs.Common.{rules}
use Rattle.graph.specs.Graph.{edges_in}
use Rattle.graph.proofs.Rows.{edge_there, edges_count, row_passed, row_refused, rows_passed}
use Rattle.wire.proofs.Codes.{number_some}
use Rattle.graph.proofs.judge_rows_in.Goals as goal

pub returns-in_err-judge_edge : goal.returns-in_err-judge_edge
returns-in_err-judge_edge c =
    let l = c.loop-i in
    let s = c.args.s.now in
    let e = row_refused c.args.n (edges_in s) l.i l.invariant (omega (arith, edges_count s)) _
    (c.in_err-judge_edge.ensures ∙ rw (c.edge_at.ensures, edge_there s l.i (omega arith)) refl) (number_some _) in
    search rules

pub loop-i-preserved : goal.loop-i-preserved
loop-i-preserved c =
    let l = c.loop-i in
    let s = c.args.s.now in
    row_passed c.args.n (edges_in s) l.i l.invariant (omega (arith, edges_count s)) 0
    (c.in_ok-judge_edge.ensures ∙ rw (c.edge_at.ensures, edge_there s l.i (omega arith)) refl) refl

pub returns : goal.returns
returns c =
    let l = c.loop-i in
    let s = c.args.s.now in
    rows_passed c.args.n (edges_in s) l.i l.invariant (omega (arith, edges_count s))
