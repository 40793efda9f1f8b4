-- A RUN IS DONE EXACTLY WHERE ITS NUMBER IS UNDER 65,536: what it leaves is shorter. Assumes nothing.
use Prim.Native.Nat.{ℕ, ◌+◌, ◌<◌}
use mathlib.Core.Path.{◌≡◌, refl, sym, ap, ◌∙◌, subst}
use mathlib.Core.Bool.{Bool, true, false, cond}
use mathlib.Core.List.{List}
use native.Mathlib.Omega.{arith}
use borrow.Author.Tests.{eqb-true, le-ltb, lt-ltb}
use lib.Dec.{ltb, eqb}
use lib.ListN.{length}
use Rattle.answer.specs.Answer.{encode}
use Rattle.answer.proofs.Bytes.{count_most, encode_length}
use Rattle.board.specs.Reply.{answers_of, board_reply, board_rounds}
use Rattle.board.proofs.Meant.{board_judged, finish_short}
use Rattle.board_text.specs.Board.{queries_of}
use Rattle.board_text.specs.Steps.{board_scan}
use Rattle.counters.specs.Counted.{counted_by}
use Rattle.counters.specs.declared.Counters.{Counters}
use Rattle.engine.specs.declared.Limit.{Limit}
use Rattle.engine.specs.Run.{outcome, run_reply, sources_code}
use Rattle.engine.specs.Steps.{run_code}
use Rattle.engine.proofs.Every.{outcome_rows}
use Rattle.graph.specs.Graph.{graph_code, graph_of}
use Rattle.graph.proofs.Accepted.{accepted}
use Rattle.plan.specs.Plan.{plan_code}
use Rattle.plan.specs.Text.{kind_of}
use Rattle.plan.specs.Tree.{plan_of}
use Rattle.std.specs.Prelude.{IfOk, Result, Ok, Err}
use Rattle.std.specs.Result.{is_ok}
use Rattle.wire.specs.declared.Refusal.{Refusal}
use Rattle.wire.specs.Refusal.{number, number_of}
use Rattle.wire.specs.Wire.{Bytes, Reply, Returned, at16, done, fitted, refused, reply_number, unless}
use Rattle.counted.specs.declared.Way.{Way}
use Rattle.counted.specs.declared.Way.TheVariants.{Pull, Push, BoardPull, BoardPush}
use Rattle.counted.specs.Counted.{Counted, asked_reply, is_done}

-- a reply whose number tells
abbrev Told : Reply → Type 0
Told r = ltb (reply_number r) 65536 ≡ is_done r

told_refused : (k : ℕ) → Told (refused k)
told_refused k = le-ltb (65536 + k) 65536 (omega arith)

told_unless : (k : ℕ) (r : Reply) → (k ≡ 0 → Told r) → Told (unless k r)
told_unless k r h = go (eqb k 0) refl
  where
    go : (t : Bool) → eqb k 0 ≡ t → Told (cond t r (refused k))
    go true e = h (eqb-true _ _ e)
    go false e = told_refused k

told_fitted : (bs : List ℕ) (room : ℕ) → length bs < 65536 → Told (fitted bs room)
told_fitted bs room h = go (ltb room (length bs))
  where
    go : (t : Bool) → Told (cond t (refused 15) (done bs))
    go true = told_refused 15
    go false = lt-ltb _ _ h

told_run : (limit : Limit) (s m : List ℕ) (room : ℕ) → Told (run_reply limit s m room)
unfolding run_reply
told_run limit s m room =
    let g = graph_of m in
    let p = plan_of s in
    let bs = encode (at16 m 5) (kind_of p.body) (outcome limit g p) in
    told_unless (plan_code s) _ (λ _.
    told_unless (graph_code m) (unless (sources_code (at16 m 5) p.paths) (fitted bs room)) (λ z.
    told_unless (sources_code (at16 m 5) p.paths) (fitted bs room) (λ _.
    told_fitted bs room
    (omega (
      arith,
      encode_length (at16 m 5) (kind_of p.body) (outcome limit g p),
      outcome_rows limit g p,
      count_most (at16 m 5) (kind_of p.body) 256 (accepted m z).sizes.few_vertices (omega arith),
    )))))

-- of a board: what it leaves is as short
told_board : (limit : Limit) (b m : List ℕ) → Bytes b → Bytes m → (room : ℕ) → Told (board_reply limit b m room)
told_board limit b m bb bm room =
    subst Told (sym (board_judged limit b m bb room))
    (told_unless (run_code (board_scan b) m) (fitted bs room) (λ z.
    told_fitted bs room (omega (arith, finish_short b m bb bm z limit (board_rounds limit (graph_of m) (queries_of b))))))
  where
    bs : List ℕ
    bs = answers_of limit (graph_of m) (board_rounds limit (graph_of m) (queries_of b)) (queries_of b)

-- of whatever is asked for
told : (way : Way) (limit : Limit) (s m : List ℕ) → Bytes s → Bytes m → (room : ℕ) → Told (asked_reply way limit s m room)
told Pull limit s m bs bm room = told_run limit s m room
told Push limit s m bs bm room = told_run limit s m room
told BoardPull limit s m bs bm room = told_board limit s m bs bm room
told BoardPush limit s m bs bm room = told_board limit s m bs bm room

-- SO A RUN WHOSE END IS COUNTED BY ITS NUMBER IS A COUNTED RUN
pub counted_run : (way : Way) (limit : Limit) (s m before : List ℕ) {after : List ℕ} (c : Counters) {k n : ℕ} {d : Counters} → Bytes s → Bytes m
    → Returned (asked_reply way limit s m (length before)) k before after → (n ≡ k) × (d ≡ counted_by c (ltb k 65536))
    → Counted (asked_reply way limit s m (length before)) n before after c d
counted_run way limit s m before c {k} bs bm run e = (
  (e.0 ∙ run.0, run.1),
  e.1 ∙ ap (λ (j : ℕ). counted_by c (ltb j 65536)) run.0 ∙ ap (counted_by c) (told way limit s m bs bm (length before)),
)

-- a number of 16 bits, and not a refusal's, is under 65,536
ok_is : (e : Result ℕ Refusal) → IfOk e (λ n. n < 65536) → is_ok e ≡ ltb (number_of e) 65536
ok_is (Ok n) h = sym (lt-ltb n 65536 h)
ok_is (Err e) h = sym (le-ltb (65536 + number e) 65536 (omega arith))

-- and so is one whose end is counted as it is, a number or a refusal
pub counted_result : (way : Way) (limit : Limit) (s m before : List ℕ) {after : List ℕ} (c : Counters) {d : Counters} → Bytes s → Bytes m
    → (e : Result ℕ Refusal) → IfOk e (λ n. n < 65536) → Returned (asked_reply way limit s m (length before)) (number_of e) before after
    → d ≡ counted_by c (is_ok e)
    → Counted (asked_reply way limit s m (length before)) (number_of e) before after c d
counted_result way limit s m before c bs bm e fits run count =
    counted_run way limit s m before c bs bm run (refl, count ∙ ap (counted_by c) (ok_is e fits))
