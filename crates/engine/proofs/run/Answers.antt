use mathlib.Core.Path.{sym}
use native.Mathlib.Omega.{arith}
use lib.ListN.{length}
use Rattle.std.proofs.Common.{rules}
use Rattle.graph.proofs.Accepted.{accepted}
use Rattle.engine.proofs.Meant.{finish_ended, run_ended, run_graph, scan_ended}
use Rattle.engine.proofs.run.Goals as goal

pub returns-in_err-w : goal.returns-in_err-w
returns-in_err-w c =
    let a = c.args in
    rw (scan_ended a.limit a.plan.now a.graph.now (λ i. omega (arith, c.type_inv.plan i)) (length a.out.now) c.in_err-w.field-0.0 c.in_err-w.ensures)
    (search rules)

pub returns-in_err-judge_read : goal.returns-in_err-judge_read
returns-in_err-judge_read c =
    let a = c.args in
    let k = rw c.in_ok-w.ensures at c.in_err-judge_read.ensures in
    rw (run_ended a.limit a.plan.now a.graph.now (λ i. omega (arith, c.type_inv.plan i)) (length a.out.now) c.in_err-judge_read.field-0.0 k)
    (search rules)

pub returns-in_err-judge : goal.returns-in_err-judge
returns-in_err-judge c =
    let a = c.args in
    let passed = rw c.in_ok-w.ensures at c.in_ok-judge_read.ensures in
    let k = rw (c.vertices.ensures, c.byte.ensures) at c.in_err-judge.ensures in
    rw (finish_ended a.plan.now a.graph.now (λ i. omega (arith, c.type_inv.plan i)) (λ i. omega (arith, c.type_inv.graph i)) (sym passed) a.limit
    (length a.out.now) c.in_err-judge.field-0.0 k) (search rules)

pub is_small-requires : goal.is_small-requires
is_small-requires c = run_graph _ _ (sym c.in_ok-judge_read.ensures)

pub answer_in-requires-2 : goal.answer_in-requires-2
answer_in-requires-2 c =
    let few = (accepted c.args.graph.now (run_graph _ _ (sym c.in_ok-judge_read.ensures))).sizes.few_vertices in
    (c.in_ok-w.ensures, sym c.in_ok-judge_read.ensures, omega arith)
