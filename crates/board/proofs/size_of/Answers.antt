use Prim.Native.Nat.{ℕ, ◌≤◌}
use mathlib.Core.Path.{◌≡◌, ap, ◌∙◌}
use mathlib.Core.List.{List}
use native.Mathlib.Omega.{arith}
use lib.ListN.{get_or}
use Rattle.answer.specs.Answer.{answer_size}
use Rattle.answer.proofs.Bytes.{count_most}
use Rattle.board_text.specs.Board.{first_query}
use Rattle.board.proofs.Loops.{others_accepted, query_ends, sizes_next, sizes_none}
use Rattle.board.proofs.size_of.Goals as goal

pub split_query-requires : goal.split_query-requires
split_query-requires c =
    let l = c.loop in
    query_ends l.left.now c.args.count l.counter c.loop-test.true l.invariant.0

pub loop-preserved : goal.loop-preserved
loop-preserved c =
    let l = c.loop in
    let a = c.args in
    let s = l.left.now in
    let more = c.loop-test.true in
    let step = sizes_next a.n s a.count l.counter more in
    let size : c.size-total.result ≡ answer_size a.n (get_or (first_query s) 5 0) =
    c.size-total.ensures ∙ ap (answer_size a.n) (c.byte.ensures ∙ ap (λ (t : List ℕ). get_or t 5 0) c.split_query.ensures.0) in
    let most : c.size-total.result ≤ 589825 = omega (arith, c.size-total.ensures, count_most a.n c.byte.result 65535 (omega arith) (omega arith)) in
    rw c.split_query.ensures.1
    (others_accepted s a.count l.counter more l.invariant.0, omega (arith, most), omega (arith, step, size, l.invariant.2))

pub returns : goal.returns
returns c =
    let l = c.loop in
    omega (arith, sizes_none c.args.n l.left.now c.args.count l.counter c.loop-test.false, l.invariant.2)
