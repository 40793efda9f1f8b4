use Prim.Native.Nat.{◌-◌}
use mathlib.Core.Path.{◌≡◌}
use native.Mathlib.Omega.{arith}
use Rattle.board.specs.Steps.{answers_left}
use Rattle.board.proofs.Loops.{all_written, none_written, others_accepted, query_accepted, query_ends, query_written}
use Rattle.board.proofs.answer_all.Goals as goal

pub loop-init : goal.loop-init
loop-init c =
    let a = c.args in
    let e : a.count - 0 ≡ a.count = omega arith in
    rw e (c.requires.0, none_written (answers_left a.joint a.figures.now a.n a.rounds a.count a.queries.now) a.out.now)

pub split_query-requires : goal.split_query-requires
split_query-requires c =
    let l = c.loop in
    query_ends l.left.now c.args.count l.counter c.loop-test.true l.invariant.0

pub answer_query-requires : goal.answer_query-requires
answer_query-requires c =
    let l = c.loop in
    rw c.split_query.ensures.0 (query_accepted l.left.now c.args.count l.counter c.loop-test.true l.invariant.0)

pub returns-in_err-size : goal.returns-in_err-size
returns-in_err-size c =
    let l = c.loop in
    let a = c.args in
    let call = rw c.split_query.ensures.0 at c.in_err-size.ensures in
    let next = query_written a.joint a.figures.now a.n a.rounds c.requires.1 c.requires.2 l.left.now a.count l.counter c.loop-test.true _ l.out a.out.now
    l.written c.requires.3 l.invariant.1 _ _ call in
    absurd (omega (arith, next.1, c.requires.4))

pub loop-preserved : goal.loop-preserved
loop-preserved c =
    let l = c.loop in
    let a = c.args in
    let more = c.loop-test.true in
    let call = rw c.split_query.ensures.0 at c.in_ok-size.ensures in
    let next = query_written a.joint a.figures.now a.n a.rounds c.requires.1 c.requires.2 l.left.now a.count l.counter more _ l.out a.out.now
    l.written c.requires.3 l.invariant.1 _ _ call in
    rw c.split_query.ensures.1 (others_accepted l.left.now a.count l.counter more l.invariant.0, next.0)

pub returns : goal.returns
returns c =
    let l = c.loop in
    let a = c.args in
    all_written a.joint a.figures.now a.n a.rounds l.left.now a.count l.counter c.loop-test.false _ l.out a.out.now l.written l.invariant.1
