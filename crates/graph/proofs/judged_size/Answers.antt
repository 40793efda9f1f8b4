use mathlib.Core.Path.{refl, sym}
use Rattle.std.proofs.Common.{rules}
use Rattle.graph.proofs.Accepted.{counts}
use Rattle.graph.proofs.Fits.{table_told}
use Rattle.graph.proofs.Judged.{counts_refused, rows_judged, table_size}
use Rattle.wire.proofs.Codes.{number_some}
use Rattle.graph.proofs.judged_size.Goals as goal

pub returns-in_err-judge_counts-clause-code : goal.returns-in_err-judge_counts-clause-code
returns-in_err-judge_counts-clause-code c =
    let t = c.args.graph.now in
    let e = counts_refused t (table_told t c.fits-graph) _ c.in_err-judge_counts.ensures (number_some _) in
    search rules

pub returns-in_err-judge_rows-clause-code : goal.returns-in_err-judge_rows-clause-code
returns-in_err-judge_rows-clause-code c =
    let t = c.args.graph.now in
    let rows = rw c.edges.ensures.rows at c.in_err-judge_rows.ensures in
    let e = rows_judged t (table_told t c.fits-graph) _ c.in_ok-judge_counts.ensures rows in
    search rules

pub returns-clause-code : goal.returns-clause-code
returns-clause-code c =
    let t = c.args.graph.now in
    let rows = rw c.edges.ensures.rows at c.in_ok-judge_rows.ensures in
    rows_judged t (table_told t c.fits-graph) 0 c.in_ok-judge_counts.ensures rows

pub returns-clause-ok : goal.returns-clause-ok
returns-clause-ok c =
    let t = c.args.graph.now in
    let k = counts _ _ (sym c.in_ok-judge_counts.ensures) in
    (refl, sym (table_size t (table_told t c.fits-graph) k.few_edges))
