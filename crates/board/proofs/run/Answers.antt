use Prim.Native.Nat.{ℕ}
use mathlib.Core.List.{List}
use mathlib.Core.Path.{refl}
use native.Mathlib.Omega.{arith}
use borrow.Author.Rules.{rules}
use lib.ListN.{length}
use Rattle.board.proofs.Meant.{behind_count, board_ended, ready, scan_ended}
use Rattle.board.proofs.run.Goals as goal

pub returns-in_err-w : goal.returns-in_err-w
returns-in_err-w c =
    let a = c.args in
    rw (scan_ended a.limit a.board.now a.graph.now (λ i. omega (arith, c.type_inv.board i)) (length a.out.now) c.in_err-w.field-0.0 c.in_err-w.ensures)
    (search rules)

pub returns-in_err-judge : goal.returns-in_err-judge
returns-in_err-judge c =
    let a = c.args in
    let k = rw c.in_ok-w.ensures at c.in_err-judge.ensures in
    rw (board_ended a.limit a.board.now a.graph.now (λ i. omega (arith, c.type_inv.board i)) (length a.out.now) c.in_err-judge.field-0.0 k)
    (search rules)

pub slice_bounds-queries-count : goal.slice_bounds-queries-count
slice_bounds-queries-count c =
    let r = ready c.args.board.now c.args.graph.now c.args.limit (λ i. omega (arith, c.type_inv.board i)) (λ i. omega (arith, c.type_inv.graph i)) _
    c.in_ok-w.ensures c.in_ok-judge.ensures in
    omega (arith, r.some_byte)

pub slice_bounds-queries-start : goal.slice_bounds-queries-start
slice_bounds-queries-start c =
    let r = ready c.args.board.now c.args.graph.now c.args.limit (λ i. omega (arith, c.type_inv.board i)) (λ i. omega (arith, c.type_inv.graph i)) _
    c.in_ok-w.ensures c.in_ok-judge.ensures in
    omega (arith, r.some_byte)

pub size_of-requires : goal.size_of-requires
size_of-requires c =
    let r = ready c.args.board.now c.args.graph.now c.args.limit (λ i. omega (arith, c.type_inv.board i)) (λ i. omega (arith, c.type_inv.graph i)) _
    c.in_ok-w.ensures c.in_ok-judge.ensures in
    rw (c.byte-count.ensures, behind_count c.args.board.now) r.queries

pub returns-then-out-size_of : goal.returns-then-out-size_of
returns-then-out-size_of c =
    let r = ready c.args.board.now c.args.graph.now c.args.limit (λ i. omega (arith, c.type_inv.board i)) (λ i. omega (arith, c.type_inv.graph i)) _
    c.in_ok-w.ensures c.in_ok-judge.ensures in
    let size = rw (c.byte-count.ensures, c.vertices-n.ensures, behind_count c.args.board.now) at c.size_of.ensures in
    rw (r.refuses (length c.args.out.now) (omega (arith, c.if-out-size_of.true, size))) (refl, refl)

pub settle-rounds-requires : goal.settle-rounds-requires
settle-rounds-requires c =
    let r = ready c.args.board.now c.args.graph.now c.args.limit (λ i. omega (arith, c.type_inv.board i)) (λ i. omega (arith, c.type_inv.graph i)) _
    c.in_ok-w.ensures c.in_ok-judge.ensures in
    (r.graph_ok, omega arith, rw c.min-paths.ensures r.paths, omega (arith, r.few_vertices))

pub answer_all-requires : goal.answer_all-requires
answer_all-requires c =
    let r = ready c.args.board.now c.args.graph.now c.args.limit (λ i. omega (arith, c.type_inv.board i)) (λ i. omega (arith, c.type_inv.graph i)) _
    c.in_ok-w.ensures c.in_ok-judge.ensures in
    let size = rw (c.byte-count.ensures, c.vertices-n.ensures, behind_count c.args.board.now) at c.size_of.ensures in
    let figures : List ℕ = c.settle-rounds.new.figures in
    let left = rw c.min-paths.ensures at c.settle-rounds.ensures in
    let all = r.answers (length c.args.out.now) c.settle-rounds.result figures (omega (arith, c.if-out-size_of.false, size)) left in
    rw (c.byte-count.ensures, c.vertices-n.ensures, behind_count c.args.board.now) (r.queries, r.some_vertex, r.few_vertices, all.0, all.1)

pub returns : goal.returns
returns c =
    let r = ready c.args.board.now c.args.graph.now c.args.limit (λ i. omega (arith, c.type_inv.board i)) (λ i. omega (arith, c.type_inv.graph i)) _
    c.in_ok-w.ensures c.in_ok-judge.ensures in
    let size = rw (c.byte-count.ensures, c.vertices-n.ensures, behind_count c.args.board.now) at c.size_of.ensures in
    let figures : List ℕ = c.settle-rounds.new.figures in
    let left = rw c.min-paths.ensures at c.settle-rounds.ensures in
    let all = r.answers (length c.args.out.now) c.settle-rounds.result figures (omega (arith, c.if-out-size_of.false, size)) left in
    let call = rw (c.byte-count.ensures, c.vertices-n.ensures, behind_count c.args.board.now) at c.answer_all.ensures in
    rw all.2 call
