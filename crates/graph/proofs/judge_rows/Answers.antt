use mathlib.Core.Path.{refl, sym, ap, ◌∙◌}
use mathlib.Core.List.{map}
use native.Mathlib.Omega.{arith}
use lib.ListN.{length-map, get_or-map}
use Rattle.std.proofs.Common.{rules}
use Rattle.graph.specs.Encode.{row_edge}
use Rattle.graph.specs.Graph.{blank_row, edge_code}
use Rattle.graph.proofs.Rows.{row_passed, row_refused, rows_passed}
use Rattle.wire.proofs.Codes.{number_some}
use Rattle.graph.proofs.judge_rows.Goals as goal

pub returns-in_err-judge_edge : goal.returns-in_err-judge_edge
returns-in_err-judge_edge c =
    let l = c.loop-row in
    let rows = c.args.rows.now in
    let here = ap (edge_code c.args.n) (sym (get_or-map row_edge rows l.row-index blank_row)) in
    let e = row_refused c.args.n (map row_edge rows) l.row-index l.invariant (omega (arith, length-map rows row_edge)) _
    (c.in_err-judge_edge.ensures ∙ here) (number_some _) in
    search rules

pub loop-row-preserved : goal.loop-row-preserved
loop-row-preserved c =
    let l = c.loop-row in
    let rows = c.args.rows.now in
    let here = ap (edge_code c.args.n) (sym (get_or-map row_edge rows l.row-index blank_row)) in
    row_passed c.args.n (map row_edge rows) l.row-index l.invariant (omega (arith, length-map rows row_edge)) 0
    (c.in_ok-judge_edge.ensures ∙ here) refl

pub returns : goal.returns
returns c =
    let l = c.loop-row in
    rows_passed c.args.n (map row_edge c.args.rows.now) l.row-index l.invariant (omega (arith, length-map c.args.rows.now row_edge))
