use Prim.Native.Nat.{ℕ, ◌≤◌, min}
use mathlib.Core.Path.{sym, ◌∙◌}
use mathlib.Core.List.{List}
use native.Mathlib.Omega.{arith}
use lib.ListN.{length, length-map, length-take}
use Rattle.std.proofs.Common.{rules}
use Rattle.std.proofs.lemmas.List.{take-map}
use Rattle.wire.proofs.Codes.{number_some}
use Rattle.value.specs.declared.Row.{Row}
use Rattle.value.specs.Value.{values}
use Rattle.answer.specs.Answer.{row_count}
use Rattle.answer.proofs.Reply.{Fields, answer_laid, answer_sized, enough_rows, judged_right, reply_done, reply_refused, size_most}
use Rattle.answer.proofs.write.Goals as goal

-- the rows that a call asks for are enough
enough : (n kind : ℕ) (rows : List Row) → min (row_count n kind) 256 ≤ length rows → Fields n kind → row_count n kind ≤ length (values rows)
enough n kind rows h = enough_rows n kind (values rows) (omega (arith, length-map rows (λ (r : Row). r.value)))

pub returns-in_err-judge : goal.returns-in_err-judge
returns-in_err-judge c =
    let a = c.args in
    rw (reply_refused a.n a.rounds a.kind (values a.rows.now) (enough a.n a.kind a.rows.now c.requires) (length a.out.now) _
    c.in_err-judge.ensures (number_some _)) (search rules)

pub put_head-requires : goal.put_head-requires
put_head-requires c =
    let a = c.args in
    omega (arith, (judged_right a.n a.kind (length a.out.now) (sym c.in_ok-judge.ensures)).1)

pub slice_bounds-put_rows-end : goal.slice_bounds-put_rows-end
slice_bounds-put_rows-end c =
    let a = c.args in
    let j = judged_right a.n a.kind (length a.out.now) (sym c.in_ok-judge.ensures) in
    omega (arith, enough a.n a.kind a.rows.now c.requires j.0, length-map a.rows.now (λ (r : Row). r.value), length-take c.row_count.result a.rows.now)

pub put_rows-requires : goal.put_rows-requires
put_rows-requires c =
    let a = c.args in
    let j = judged_right a.n a.kind (length a.out.now) (sym c.in_ok-judge.ensures) in
    omega (arith, j.1, length-take c.row_count.result a.rows.now)

pub overflow_cast-result : goal.overflow_cast-result
overflow_cast-result c =
    let a = c.args in
    let j = judged_right a.n a.kind (length a.out.now) (sym c.in_ok-judge.ensures) in
    omega (arith, size_most a.n a.kind j.0)

pub returns : goal.returns
returns c =
    let a = c.args in
    let vs = values a.rows.now in
    let all = enough a.n a.kind a.rows.now c.requires in
    let room = length a.out.now in
    let z = sym c.in_ok-judge.ensures in
    let j = judged_right a.n a.kind room z in
    let sized = answer_sized a.n a.rounds a.kind vs all j.0 in
    let rows = take-map (λ (r : Row). r.value) (row_count a.n a.kind) a.rows.now in
    rw (reply_done a.n a.rounds a.kind vs all room z) (
      c.size.ensures ∙ sym sized,
      c.put_rows.ensures
          ∙ rw (c.row_count.ensures, c.put_head.ensures, ← rows) (answer_laid a.n a.rounds a.kind vs a.out.now (omega (arith, j.1))),
    )
