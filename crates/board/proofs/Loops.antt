-- What the loops over the queries of a board cite: the query at a position and those behind it, their sizes, and their answers one behind the other. Assumes
-- nothing.
use Prim.Native.Nat.{ℕ, suc, ◌+◌, ◌-◌, ◌≤◌, ◌<◌}
use mathlib.Core.Path.{◌≡◌, refl, sym, ap, ap₂, ◌∙◌, subst}
use mathlib.Core.List.{List, [], ◌++◌, append_assoc, append-nil}
use native.Mathlib.Omega.{arith}
use borrow.Author.Tests.{le-ltb, ne_eqb}
use lib.ListN.{length, get_or, take, drop, length-append, length-drop, drop_of_length-le, take-append-drop}
use lib.Seq.{drop_at, drop-drop, length-take-le, take_all, take_at}
use Rattle.answer.specs.Answer.{answer_reply, answer_size, fields_code}
use Rattle.board_text.specs.Board.{after_query, first_code, first_query, queries_code}
use Rattle.board_text.proofs.Joint.{first_passed}
use Rattle.fusion.specs.Fusion.{fuse_reply}
use Rattle.fusion.proofs.Exact.{fuse_sound}
use Rattle.meaning.specs.Plan.{Body, each_vertex, fuse, one_result}
use Rattle.meaning.specs.Query.{Query}
use Rattle.packed_path.specs.declared.PackedPath.{PackedPath}
use Rattle.wire.proofs.Codes.{number_some}
use Rattle.plan.specs.Plan.{plan_code, plan_scan}
use Rattle.plan.specs.Text.{encode, kind_of}
use Rattle.progress.specs.Progress.{Scan, blank}
use Rattle.query.specs.Query.{query_code}
use Rattle.query.specs.Tree.{query_of}
use Rattle.wire.specs.declared.Refusal.{Refusal}
use Rattle.wire.specs.Refusal.{number}
use Rattle.wire.specs.Wire.{Bytes, Reply, Returned, at16, done, reply_buffer, reply_number}
use Rattle.wire.proofs.Codes.{then_both}
use Rattle.board.specs.Steps.{answers_left, plan_answer, plan_reply, sizes_left}

-- the query at the front of what is left: it ends there, it is accepted, and so are those behind it
module _ (s : List ℕ) (count i : ℕ) (more : i < count) (ok : queries_code (count - i) s ≡ 0) where
  split : (first_code s ≡ 0) × (queries_code (count - (i + 1)) (after_query s) ≡ 0)
  split =
      let e : count - i ≡ suc (count - (i + 1)) = omega arith in
      then_both (first_code s) (queries_code (count - (i + 1)) (after_query s)) (subst (λ (k : ℕ). queries_code k s ≡ 0) e ok)

  pub query_ends : 2 + at16 s 0 ≤ length s
  query_ends = (first_passed s split.0).whole

  pub query_accepted : query_code (first_query s) ≡ 0
  query_accepted = (first_passed s split.0).accepted

  pub others_accepted : queries_code (count - (i + 1)) (after_query s) ≡ 0
  others_accepted = split.1

-- its size, and its answer, come first
pub sizes_next : (n : ℕ) (s : List ℕ) (count i : ℕ) → i < count
    → sizes_left n (count - i) s ≡ answer_size n (get_or (first_query s) 5 0) + sizes_left n (count - (i + 1)) (after_query s)
unfolding sizes_left
sizes_next n s count i h = ap (λ (k : ℕ). sizes_left n k s) (let e : count - i ≡ suc (count - (i + 1)) = omega arith in e)

pub sizes_none : (n : ℕ) (s : List ℕ) (count i : ℕ) → count ≤ i → sizes_left n (count - i) s ≡ 0
unfolding sizes_left
sizes_none n s count i h = let e : count - i ≡ 0 = omega arith in rw e refl

module _ (joint : List PackedPath) (figures : List ℕ) (n rounds : ℕ) where
  -- the answer of a query
  abbrev pub answer_in : List ℕ → List ℕ
  answer_in s = plan_answer joint figures n rounds (encode (fuse (query_of s)))

  pub answers_next : (s : List ℕ) (count i : ℕ) → i < count
      → answers_left joint figures n rounds (count - i) s
      ≡ plan_answer joint figures n rounds (encode (fuse (query_of (first_query s))))
      ++ answers_left joint figures n rounds (count - (i + 1)) (after_query s)
  unfolding answers_left
  answers_next s count i h =
      ap (λ (k : ℕ). answers_left joint figures n rounds k s) (let e : count - i ≡ suc (count - (i + 1)) = omega arith in e)

  pub answers_none : (s : List ℕ) (count i : ℕ) → count ≤ i → answers_left joint figures n rounds (count - i) s ≡ []
  unfolding answers_left
  answers_none s count i h = let e : count - i ≡ 0 = omega arith in rw e refl

  -- its fields are legal
  known : (body : Body) → 1 ≤ n → n ≤ 256 → fields_code n (kind_of body) ≡ 0
  unfolding fields_code
  known (each_vertex t) some few = rw (ne_eqb n 0 (λ e. absurd (omega arith)), le-ltb 256 n few) refl
  known (one_result es t) some few = rw (ne_eqb n 0 (λ e. absurd (omega arith)), le-ltb 256 n few) refl

  -- it is written where it fits
  pub plan_done : (q : Query) (room : ℕ) → 1 ≤ n → n ≤ 256 → length (plan_answer joint figures n rounds (encode (fuse q))) ≤ room
      → plan_reply (encode (fuse q)) joint figures n rounds room ≡ done (plan_answer joint figures n rounds (encode (fuse q)))
  unfolding plan_reply plan_answer answer_reply
  plan_done q room some few fits =
      rw (known (fuse q).body some few, le-ltb room (length (plan_answer joint figures n rounds (encode (fuse q)))) fits) refl

-- an accepted query that was fused into 560 bytes: its plan stands first
pub record FusedIn (s after : List ℕ) (number : ℕ) : Type 0 where
  pub within : number ≤ length after
  pub first : take number after ≡ encode (fuse (query_of s))
  pub size : number ≡ length (take number after)
  pub accepted : plan_code (take number after) ≡ 0
  pub short : number ≤ 560

pub fused_in : (s before after : List ℕ) (number : ℕ) → Bytes s → query_code s ≡ 0 → length before ≡ 560
    → Returned (fuse_reply s (length before)) number before after → FusedIn s after number
fused_in s before after number b z long r =
    let f = fuse_sound s b z (length before) in
    let ws = encode (fuse (query_of s)) in
    let is : fuse_reply s (length before) ≡ done ws = f.reply ∙ rw (le-ltb (length before) (length ws) (omega (arith, f.short))) refl in
    let count : number ≡ length ws = r.0 ∙ ap reply_number is in
    let held : after ≡ ws ++ drop (length ws) before = r.1 ∙ ap (λ (x : Reply). reply_buffer x before) is in
    let first : take number after ≡ ws = ap (take number) held ∙ take_at ws (drop (length ws) before) number (sym count) in
    record {
      within = omega (arith, count, ap length held, length-append ws (drop (length ws) before));
      first = first;
      size = count ∙ ap length (sym first);
      accepted = rw first f.accepted;
      short = omega (arith, count, f.short);
    }

-- so the plan is read
pub plan_taken : (e : Refusal) (s : List ℕ) → blank (number e) ≡ plan_scan s → plan_code s ≡ 0 → ⊥
unfolding blank
plan_taken e s h z = number_some e (ap (λ (w : Scan). w.code) h ∙ z)

-- ---- bytes written behind the first `written` of a buffer: `bs`, and what is still to come is `left`, of `all`
module _ (bs left all out before : List ℕ) (written : ℕ) (within : written ≤ length out) (long : length out ≡ length before)
    (whole : take written out ++ (bs ++ left) ≡ all) (fits : length all ≤ length before) where
  -- the part of the buffer that is lent
  abbrev lent : List ℕ
  lent = take (length out - written) (drop written out)

  lent_is : take (length out - written) (drop written out) ≡ drop written out
  lent_is = take_all (length out - written) (drop written out) (omega (arith, length-drop written out))

  front : length (take written out) ≡ written
  front = length-take-le written out within

  -- they fit
  pub room_left : (length bs ≤ length (take (length out - written) (drop written out))) × (written + length bs ≤ length all)
  room_left =
      let n = ap length whole in
      let m = length-append (take written out) (bs ++ left) in
      let k = length-append bs left in
      (omega (arith, n, m, k, front, ap length lent_is, length-drop written out), omega (arith, n, m, k, front))

  module _ (same : drop written out ≡ drop written before) (size : ℕ) (ys : List ℕ)
      (call : Returned (done bs) size (take (length out - written) (drop written out)) ys) where
    -- the buffer after
    abbrev after : List ℕ
    after = take written out ++ (ys ++ drop (length out - written) (drop written out))

    after_is : after ≡ (take written out ++ bs) ++ drop (length bs) (drop written out)
    after_is =
        let none : drop (length out - written) (drop written out) ≡ [] =
        drop_of_length-le (drop written out) {i = length out - written} (omega (arith, length-drop written out)) in
        ap (λ (t : List ℕ). take written out ++ (ys ++ t)) none
        ∙ ap (λ (t : List ℕ). take written out ++ t) (append-nil ys ∙ call.1 ∙ ap (λ (t : List ℕ). bs ++ drop (length bs) t) lent_is)
        ∙ sym (append_assoc (take written out) bs (drop (length bs) (drop written out)))

    ends_at : length (take written out ++ bs) ≡ written + size
    ends_at = length-append (take written out) bs ∙ omega (arith, front, call.0)

    pub written_length : length (take written out ++ (ys ++ drop (length out - written) (drop written out))) ≡ length out
    written_length =
        ap length after_is
        ∙ length-append (take written out ++ bs) (drop (length bs) (drop written out))
        ∙ omega (
          arith,
          ends_at,
          call.0,
          length-drop (length bs) (drop written out),
          length-drop written out,
          room_left.0,
          ap length lent_is,
        )

    pub written_first : take (written + size) (take written out ++ (ys ++ drop (length out - written) (drop written out))) ++ left ≡ all
    written_first =
        ap (λ (t : List ℕ). take (written + size) t ++ left) after_is
        ∙ ap (λ (t : List ℕ). t ++ left) (take_at (take written out ++ bs) (drop (length bs) (drop written out)) (written + size) ends_at)
        ∙ append_assoc (take written out) bs left
        ∙ whole

    pub written_rest : drop (written + size) (take written out ++ (ys ++ drop (length out - written) (drop written out))) ≡ drop (written + size) before
    written_rest =
        ap (drop (written + size)) after_is
        ∙ drop_at (take written out ++ bs) (drop (length bs) (drop written out)) (written + size) ends_at
        ∙ ap (drop (length bs)) same
        ∙ drop-drop (length bs) written before
        ∙ ap (λ (k : ℕ). drop k before) (let e : written + length bs ≡ written + size = omega (arith, call.0) in e)

-- HOW FAR THE ANSWERS ARE WRITTEN: the first `written` bytes, behind which `left` is still to come, of `all`; behind them the buffer is as it was lent
pub record Written (left all out before : List ℕ) (written : ℕ) : Type 0 where
  pub within : written ≤ length out
  pub long : length out ≡ length before
  pub whole : take written out ++ left ≡ all
  pub same : drop written out ≡ drop written before

pub none_written : (all out : List ℕ) → Written all all out out 0
none_written all out = record { within = omega arith; long = refl; whole = refl; same = refl }

module _ (joint : List PackedPath) (figures : List ℕ) (n rounds : ℕ) where
  -- one answer more
  pub query_written : 1 ≤ n → n ≤ 256 → (s : List ℕ) (count i : ℕ) → i < count → (all out before : List ℕ) (written : ℕ)
      → length all ≤ length before
      → Written (answers_left joint figures n rounds (count - i) s) all out before written
      → (number : ℕ) (ys : List ℕ)
      → Returned (plan_reply (encode (fuse (query_of (first_query s)))) joint figures n rounds (length (take (length out - written) (drop written out))))
      number (take (length out - written) (drop written out)) ys
      → Written (answers_left joint figures n rounds (count - (i + 1)) (after_query s)) all
      (take written out ++ (ys ++ drop (length out - written) (drop written out))) before (written + number)
      × (written + number ≤ length all)
  query_written some few s count i more all out before written fits w number ys call =
      let bs = answer_in joint figures n rounds (first_query s) in
      let left = answers_left joint figures n rounds (count - (i + 1)) (after_query s) in
      let whole : take written out ++ (bs ++ left) ≡ all =
      ap (λ (t : List ℕ). take written out ++ t) (sym (answers_next joint figures n rounds s count i more)) ∙ w.whole in
      let room = room_left bs left all out before written w.within w.long whole fits in
      let lent = take (length out - written) (drop written out) in
      let is = plan_done joint figures n rounds (query_of (first_query s)) (length lent) some few room.0 in
      let done_call = subst (λ (r : Reply). Returned r number lent ys) is call in
      let long = written_length bs left all out before written w.within w.long whole fits w.same number ys done_call in (
        record {
          within = omega (arith, room.1, done_call.0, fits, long, w.long);
          long = long ∙ w.long;
          whole = written_first bs left all out before written w.within w.long whole fits w.same number ys done_call;
          same = written_rest bs left all out before written w.within w.long whole fits w.same number ys done_call;
        },
        omega (arith, room.1, done_call.0),
      )

  -- behind the last nothing is to come
  pub all_written : (s : List ℕ) (count i : ℕ) → count ≤ i → (all out before : List ℕ) (written : ℕ)
      → Written (answers_left joint figures n rounds (count - i) s) all out before written
      → Returned (done all) written before out
  all_written s count i h all out before written w =
      let none = answers_none joint figures n rounds s count i h in
      let first : take written out ≡ all =
      sym (append-nil (take written out)) ∙ ap (λ (t : List ℕ). take written out ++ t) (sym none) ∙ w.whole in
      let size = sym (length-take-le written out w.within) ∙ ap length first in (
        size,
        sym (take-append-drop written out)
            ∙ ap₂ (λ (x y : List ℕ). x ++ y) first (w.same ∙ ap (λ (k : ℕ). drop k before) size),
      )
