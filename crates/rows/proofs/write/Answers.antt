use Prim.Native.Nat.{ℕ, ◌+◌, ◌≤◌, min}
use mathlib.Core.Path.{◌≡◌, refl, sym, ap, ap₂, ◌∙◌}
use mathlib.Core.List.{List, [], ◌∷◌}
use native.Mathlib.Omega.{arith}
use lib.ListN.{get_or, length, replicate}
use Rattle.std.proofs.Common.{rules}
use Rattle.value.specs.declared.Row.{Row}
use Rattle.value.specs.declared.Value.{Value}
use Rattle.value.specs.declared.Value.TheVariants.{Absent}
use Rattle.value.specs.Value.{values}
use Rattle.wire.specs.Wire.{Reply, reply_buffer, reply_number}
use Rattle.plan.specs.Plan.{count_at}
use Rattle.answer.specs.Answer.{answer_code, answer_reply, row_count}
use Rattle.answer.proofs.Reply.{enough_rows, reply_one, reply_refused}
use Rattle.eval.specs.Steps.{body_found, entry_rows, final_found, row}
use Rattle.rows.specs.Steps.{many, rows_at}
use Rattle.rows.proofs.Laws.{body_each, body_one, array_written, full_rows, judged_fields}
use Rattle.wire.proofs.Codes.{number_some}
use Rattle.rows.proofs.write.Goals as goal

pub returns-in_err-judge : goal.returns-in_err-judge
returns-in_err-judge c =
    let a = c.args in
    let plan : List ℕ = a.plan.now in
    let kind = get_or plan 5 0 in
    let vs = values (many (body_found plan (rows_at a.figures.now a.slots a.paths) (min a.n 256))) in
    let room = length a.out.now in
    let full : length vs ≡ 256 = full_rows plan a.figures.now a.slots a.paths a.n in
    let enough : min (row_count a.n kind) 256 ≤ length vs = omega (arith, full) in
    let e = reply_refused a.n a.rounds kind vs (enough_rows a.n kind vs enough) room
    _ (c.in_err-judge.ensures ∙ ap (λ (k : ℕ). answer_code a.n k room) c.byte-kind.ensures) (number_some _) in
    rw e (search rules)

pub invariant_of-body : goal.invariant_of-body
invariant_of-body c =
    let fields = judged_fields c.args.n c.byte-kind.result (length c.args.out.now) c.in_ok-judge.ensures in
    record { some_vertex = fields.some_vertex; few_vertices = fields.few_vertices }

pub invariant_of-body-2 : goal.invariant_of-body-2
invariant_of-body-2 c =
    let fields = judged_fields c.args.n c.byte-kind.result (length c.args.out.now) c.in_ok-judge.ensures in
    record { some_vertex = fields.some_vertex; few_vertices = fields.few_vertices }

pub returns-then-kind-eq0 : goal.returns-then-kind-eq0
returns-then-kind-eq0 c =
    let a = c.args in
    let read = c.byte-kind in
    let plan : List ℕ = a.plan.now in
    let figures : List ℕ = a.figures.now in
    let room = length a.out.now in
    let few = (judged_fields a.n read.result room c.in_ok-judge.ensures).few_vertices in
    let kind = sym read.ensures ∙ c.if-kind-eq0.true in
    let rows = ap₂ (λ (i : ℕ) (used : List ℕ). entry_rows plan (i + 1) (rows_at figures used 8) a.n) c.count_at-at.ensures.0
    c.slots_used-used.ensures
    ∙ body_each plan figures a.slots a.paths a.n few kind in
    let F : ℕ → List Row = rows_at figures c.slots_used-used.result 8 in
    let at = c.count_at-at.result + 1 in
    let reply = sym (array_written plan F a.n 256 at a.rounds (many (entry_rows plan at F a.n)) room refl)
    ∙ ap₂ (λ (k : ℕ) (rows : List Row). answer_reply a.n a.rounds k (values (many rows)) room) (sym kind) rows in
    let written = c.write_rows.ensures in
    (written.0 ∙ ap reply_number reply, written.1 ∙ ap (λ (r : Reply). reply_buffer r a.out.now) reply)

pub returns : goal.returns
returns c =
    let a = c.args in
    let plan : List ℕ = a.plan.now in
    let figures : List ℕ = a.figures.now in
    let room = length a.out.now in
    let read = c.byte-kind in
    let fields = judged_fields a.n read.result room c.in_ok-judge.ensures in
    let other : get_or plan 5 0 ≡ 0 → ⊥ = λ z. c.if-kind-eq0.false (read.ensures ∙ z) in
    let one : read.result ≡ 1 = omega (arith, fields.known_kind, other, read.ensures) in
    let at = c.count_at-at.ensures.0 in
    let count = c.min-e.ensures ∙ ap (λ (k : ℕ). min k 8) (c.from.ensures ∙ c.byte.ensures ∙ ap (λ (i : ℕ). get_or plan i 0) at) in
    let used = c.slots_used-used in
    let value = c.final_of-value.ensures
    ∙ ap (λ (k : ℕ). final_found k plan (c.count_at-at.result + 1) (rows_at figures used.result 8) a.n) count
    ∙ ap₂ (λ (i : ℕ) (used : List ℕ). final_found (min (get_or plan (count_at plan) 0) 8) plan (i + 1) (rows_at figures used 8) a.n) at
    used.ensures in
    let rows = ap (λ (v : Value). row v ∷ []) value ∙ body_one plan figures a.slots a.paths a.n fields.few_vertices other in
    let v = c.final_of-value.result in
    let reply = ap (λ (k : ℕ). answer_reply a.n a.rounds k (v ∷ []) room) one
    ∙ sym (reply_one a.n a.rounds v (values (replicate 255 (row Absent))) room)
    ∙ ap₂ (λ (k : ℕ) (rows : List Row). answer_reply a.n a.rounds k (values (many rows)) room) (sym one ∙ read.ensures) rows in
    let written = c.write.ensures in
    (written.0 ∙ ap reply_number reply, written.1 ∙ ap (λ (r : Reply). reply_buffer r a.out.now) reply)
