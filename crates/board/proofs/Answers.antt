-- DEMANDS 2 AND 3 FOR EVERY QUESTION OF A BOARD, over what the calls return: `board_answers`; each question's rows are those of `fuse` and `run` alone:
-- `board_alone`; stopped after r rounds: `board_stopped`; and how long the answers are at most: `board_short`. Assumes nothing.
use Prim.Native.Nat.{ℕ, ◌*◌, ◌≤◌, ◌<◌}
use mathlib.Core.Path.{◌≡◌, refl, sym, ap, ◌∙◌, subst}
use mathlib.Core.Bool.{Bool, true, false}
use mathlib.Core.List.{List, [], ◌∷◌, ◌++◌, map}
use native.Mathlib.Omega.{arith}
use borrow.Author.Tests.{eqb-true, eqb-false}
use lib.Dec.{eqb}
use lib.ListN.{length, drop, take}
use lib.Seq.{drop_at, take_at}
use Rattle.answer.specs.Answer.{answer_size}
use Rattle.answer.specs.Decode.{Answer, decode}
use Rattle.answer.proofs.Decoded.{decode_back}
use Rattle.board_text.specs.Board.{all_written, joint_paths, queries_of}
use Rattle.board_text.specs.Steps.{board_scan}
use Rattle.board_text.proofs.Exact.{board_read}
use Rattle.engine.specs.declared.Limit.{Limit}
use Rattle.engine.specs.declared.Limit.TheVariants.{Quiet, Rounds}
use Rattle.engine.specs.Run.{Sixteen, run_reply}
use Rattle.engine.specs.Steps.{rounds_for, run_code}
use Rattle.engine.proofs.Every.{answer_in, fitted_answered, legal_there, not_refused, outcome_rows, rows_fit}
use Rattle.engine.proofs.Meant.{run_answers}
use Rattle.fusion.proofs.Exact.{fuse_answered}
use Rattle.graph.specs.Graph.{graph_code, graph_of}
use Rattle.meaning.specs.Limits.{GraphLegal, PathFits, PlanLegal, QueryFits, QueryLegal}
use Rattle.meaning.specs.Meaning.{Outcome, Smallest, UnfusedWithin}
use Rattle.meaning.specs.Plan.{fuse}
use Rattle.meaning.specs.Query.{Query, written_paths}
use Rattle.meaning.specs.Run.{run, stopped}
use Rattle.meaning.proofs.Limits.{fuse_legal}
use Rattle.meaning.proofs.Lists.{all_both}
use Rattle.meaning.proofs.Main.{fused_fit, pull_correct, pull_within}
use Rattle.meaning.proofs.Rounds.{rounds_at_most, rounds_smallest}
use Rattle.meaning.proofs.Together.{smallest_put}
use Rattle.plan.specs.Text.{kind_of}
use Rattle.plan.specs.Text as plan
use Rattle.query.specs.Query as query
use Rattle.query.specs.Tree.{query_of}
use Rattle.query.proofs.Tree.{query_back}
use Rattle.walks.specs.Lists.{All}
use Rattle.walks.specs.Walks.{Graph}
use Rattle.wire.specs.Wire.{Bytes, Reply, Returned, at16, reply_buffer, reply_number}
use Rattle.board.specs.Answered.{AloneRows, BoardAnswers, Decoded, Each, RoundsRight, RowsRight, outcomes_bytes}
use Rattle.board.specs.Reply.{alone, answer_of, answers_of, board_reply, board_rounds, reported}
use Rattle.board.proofs.Meant.{Accepted, answer_sized, board_passed, board_refused, finish_fits, finish_short, written_fit}
use Rattle.board.proofs.Rounds.{each_fits, joint_rounds}

-- what holds of each query holds of it and what a function gives
each_of : {A B : Type 0} (P : A → Type 0) (Q : A → B → Type 0) (f : A → B) (l : List A) → ((x : A) → P x → Q x (f x)) → All P l
    → Each Q l (map f l)
each_of P Q f [] h k = tt
each_of P Q f (x ∷ l) h k = (h x k.0, each_of P Q f l h k.1)

-- the bytes of all answers, as those of outcomes
bytes_are : (limit : Limit) (g : Graph) (r : ℕ) (qs : List Query)
    → answers_of limit g r qs ≡ outcomes_bytes g.vertices qs (map (reported limit g r) qs)
bytes_are limit g r [] = refl
bytes_are limit g r (q ∷ qs) = ap (λ (t : List ℕ). answer_of limit g r q ++ t) (bytes_are limit g r qs)

-- an answered board was not refused
board_accepted : (limit : Limit) (b m : List ℕ) → Bytes b → Bytes m → (before after : List ℕ) (number : ℕ)
    → Returned (board_reply limit b m (length before)) number before after → number < 65536 → run_code (board_scan b) m ≡ 0
board_accepted limit b m bb bm before after number returned answered = go (eqb (run_code (board_scan b) m) 0) refl
  where
    go : (t : Bool) → eqb (run_code (board_scan b) m) 0 ≡ t → run_code (board_scan b) m ≡ 0
    go true e = eqb-true (run_code (board_scan b) m) 0 e
    go false e =
        absurd (not_refused _ number before after returned answered _
        (board_refused limit b m bb (length before) _ refl (eqb-false (run_code (board_scan b) m) 0 e)))

-- ---- one query of an accepted board

module _ (limit : Limit) (sixteen : Sixteen limit) (m : List ℕ) (legal_graph : GraphLegal (graph_of m)) (ok : graph_code m ≡ 0) where
  abbrev g : Graph
  g = graph_of m

  rows_right : (r : ℕ) (q : Query) → QueryFits (graph_of m) q → RowsRight limit (graph_of m) q (reported limit (graph_of m) r q)
  unfolding stopped
  rows_right r q fits = go limit
    where
      go : (l : Limit) → RowsRight l g q (reported l g r q)
      go Quiet = (pull_correct g legal_graph.fits q fits).rows_mean
      go (Rounds k) = pull_within g legal_graph.fits q fits k

  module _ (q : Query) (legal : QueryLegal 256 q) (fits : QueryFits (graph_of m) q) where
    there : PlanLegal g.vertices (fuse q)
    there = legal_there g.vertices (fuse q) (fuse_legal 256 q legal) (fused_fit g legal_graph.fits q fits)

    -- its answer read back
    decoded : (r : ℕ) → r < 65536 → decode (answer_of limit (graph_of m) r q)
        ≡ record { vertices = (graph_of m).vertices; kind = kind_of (fuse q).body; outcome = reported limit (graph_of m) r q }
    decoded r h =
        decode_back g.vertices (kind_of (fuse q).body) (reported limit g r q) legal_graph.few_vertices h (outcome_rows limit g (fuse q))
        (rows_fit g legal_graph (fuse q) there limit sixteen)

    -- its rows are those that it has alone
    alone_rows : (r : ℕ) → AloneRows limit m q (reported limit (graph_of m) r q)
    alone_rows r plan_before plan_after fused before after number fuse_call fine run_call answered =
        let s = query.encode q in
        let back = query_back q legal in
        let f = fuse_answered s (length plan_before) (subst (λ (k : ℕ). k < 65536) fuse_call.0 fine) in
        let ws = plan.encode (fuse (query_of s)) in
        let size : fused ≡ length ws = fuse_call.0 ∙ ap reply_number f.1 in
        let held : plan_after ≡ ws ++ drop (length ws) plan_before = fuse_call.1 ∙ ap (λ (x : Reply). reply_buffer x plan_before) f.1 in
        let first : take fused plan_after ≡ plan.encode (fuse q) =
        ap (take fused) held ∙ take_at ws (drop (length ws) plan_before) fused (sym size) ∙ ap (λ (x : Query). plan.encode (fuse x)) back in
        let is = ap (λ (t : List ℕ). run_reply limit t m (length before)) first
        ∙ run_answers (fuse q) (fuse_legal 256 q legal) m ok (fused_fit g legal_graph.fits q fits) limit (length before) in
        let call = subst (λ (x : Reply). Returned x number before after) is run_call in
        ap (λ (x : Answer). x.outcome.rows) (answer_in g legal_graph (fuse q) there limit sixteen before after number call answered).says

-- ---- all of them

module _ (limit : Limit) (sixteen : Sixteen limit) (b m : List ℕ) (bb : Bytes b) (bm : Bytes m) (z : run_code (board_scan b) m ≡ 0) where
  abbrev qs : List Query
  qs = queries_of b

  abbrev G : Graph
  G = graph_of m

  abbrev R : ℕ
  R = board_rounds limit G qs

  a : Accepted b m
  a = board_passed b m bb bm z

  fits : All (QueryFits (graph_of m)) (queries_of b)
  fits = each_fits (PathFits (at16 m 5)) qs (written_fit b m bb bm z limit)

  -- legal, and each of its path reductions has its sources on the graph
  abbrev Fine : Query → Type 0
  Fine q = QueryLegal 256 q × QueryFits G q

  fine : All Fine (queries_of b)
  fine = all_both qs (λ q l f. (l, f)) a.legal.queries_legal fits

  -- the rounds
  board_rounds_right : RoundsRight limit (graph_of m) (queries_of b) (board_rounds limit (graph_of m) (queries_of b))
  unfolding board_rounds run stopped
  board_rounds_right = go limit (joint_rounds G a.graph_legal.fits limit qs a.legal.some_query (written_fit b m bb bm z limit))
    where
      go : (l : Limit) → rounds_for l G (joint_paths qs) ≡ board_rounds l G qs → RoundsRight l G qs (board_rounds l G qs)
      go (Rounds k) e = sym e
      go Quiet e = (
        (
          map (λ q. (alone Quiet G q).rounds) qs,
          each_of (QueryFits G) (λ q k. Smallest G (written_paths q) k) (λ q. (alone Quiet G q).rounds) qs
              (λ q f. (pull_correct G a.graph_legal.fits q f).smallest) fits,
          refl,
        ),
        subst (Smallest G (all_written qs)) e
            (smallest_put G (all_written qs) (rounds_smallest G a.graph_legal.fits (joint_paths qs) a.joint_fit)),
        subst (λ (r : ℕ). r ≤ 2 * G.vertices) e (rounds_at_most G a.graph_legal.fits (joint_paths qs) a.joint_fit),
      )

  rounds_fit : board_rounds limit (graph_of m) (queries_of b) < 65536
  rounds_fit = go limit sixteen board_rounds_right
    where
      go : (l : Limit) → Sixteen l → RoundsRight l G qs (board_rounds l G qs) → board_rounds l G qs < 65536
      go Quiet h r = omega (arith, r.2, a.graph_legal.few_vertices)
      go (Rounds k) h r = omega (arith, r, h)

  -- one behind the other
  all_decoded : (rs : List Query) → All Fine rs → Decoded (graph_of m).vertices rs
      (map (reported limit (graph_of m) (board_rounds limit (graph_of m) (queries_of b))) rs)
      (answers_of limit (graph_of m) (board_rounds limit (graph_of m) (queries_of b)) rs)
  all_decoded [] f = refl
  all_decoded (q ∷ rs) f =
      let size = answer_sized limit G R q in
      let text = answer_of limit G R q in
      let rest = answers_of limit G R rs in (
        ap decode (take_at text rest (answer_size G.vertices (kind_of (fuse q).body)) size)
            ∙ decoded limit sixteen m a.graph_legal a.graph_ok q f.0.0 f.0.1 R rounds_fit,
        subst (Decoded G.vertices rs (map (reported limit G R) rs))
            (sym (drop_at text rest (answer_size G.vertices (kind_of (fuse q).body)) size)) (all_decoded rs f.1),
      )

-- DEMANDS 2 AND 3 FOR EVERY QUESTION OF EVERY ANSWERED BOARD: for all bytes and any buffer, by pull and by push, to the first quiet round and for a given
-- number of rounds (`board::pull`, `push`, the exported calls, counted boards): where the number is under 65,536, the buffer has the answers
pub board_answers : (limit : Limit) → Sixteen limit → (b m : List ℕ) → Bytes b → Bytes m → (before after : List ℕ) (number : ℕ)
    → Returned (board_reply limit b m (length before)) number before after → number < 65536 → BoardAnswers limit b m before after number
board_answers limit h b m bb bm before after number returned answered =
    let z = board_accepted limit b m bb bm before after number returned answered in
    let a = board_passed b m bb bm z in
    let g = graph_of m in
    let qs = queries_of b in
    let r = board_rounds limit g qs in
    let bs = answers_of limit g r qs in
    let call = subst (λ (x : Reply). Returned x number before after) (finish_fits b m bb bm z limit (length before)) returned in
    let f = fitted_answered bs before after number call answered in
    let first : take number after ≡ bs = ap (take number) f.1 ∙ take_at bs (drop number before) number (sym f.0) in
    let ok = fine limit h b m bb bm z in
    let F : Query → Type 0 = λ q. QueryLegal 256 q × QueryFits g q in
    let read = board_read b bb a.board_ok in
    record {
      legal = read.0;
      written = read.1;
      rounds = r;
      rounds_right = board_rounds_right limit h b m bb bm z;
      outcomes = map (reported limit g r) qs;
      reported = each_of F (λ q o. o.rounds ≡ r) (reported limit g r) qs (λ q l. refl) ok;
      rows_right = each_of F (RowsRight limit g) (reported limit g r) qs (λ q l. rows_right limit h m a.graph_legal a.graph_ok r q l.1) ok;
      alone = each_of F (AloneRows limit m) (reported limit g r) qs (λ q l. alone_rows limit h m a.graph_legal a.graph_ok q l.0 l.1 r) ok;
      bytes = f.1 ∙ ap (λ (t : List ℕ). t ++ drop number before) (bytes_are limit g r qs);
      says = subst (Decoded g.vertices qs (map (reported limit g r) qs)) (sym first) (all_decoded limit h b m bb bm z qs ok);
    }

-- EACH QUESTION'S ROWS ARE THOSE OF `fuse` AND `run` ALONE
pub board_alone : (limit : Limit) → Sixteen limit → (b m : List ℕ) → Bytes b → Bytes m → (before after : List ℕ) (number : ℕ)
    → Returned (board_reply limit b m (length before)) number before after → number < 65536
    → (os : List Outcome) × Decoded (graph_of m).vertices (queries_of b) os (take number after) × Each (AloneRows limit m) (queries_of b) os
board_alone limit h b m bb bm before after number returned answered =
    let x = board_answers limit h b m bb bm before after number returned answered in
    (x.outcomes, x.says, x.alone)

-- STOPPED AFTER r ROUNDS: every answer reports r, and its rows are the question's meaning over walks of at most r edges
pub board_stopped : (r : ℕ) → r < 65536 → (b m : List ℕ) → Bytes b → Bytes m → (before after : List ℕ) (number : ℕ)
    → Returned (board_reply (Rounds r) b m (length before)) number before after → number < 65536
    → (os : List Outcome) × Decoded (graph_of m).vertices (queries_of b) os (take number after)
    × Each (λ q o. o.rounds ≡ r) (queries_of b) os × Each (λ q o. UnfusedWithin (graph_of m) r q o.rows) (queries_of b) os
board_stopped r h b m bb bm before after number returned answered =
    let x = board_answers (Rounds r) h b m bb bm before after number returned answered in
    let same = subst (λ (k : ℕ). Each (λ q o. o.rounds ≡ k) (queries_of b) x.outcomes) x.rounds_right x.reported in
    (x.outcomes, x.says, same, x.rows_right)

-- THE ANSWERS OF A BOARD HAVE AT MOST 18,512 BYTES: eight times 2,314
pub board_short : (limit : Limit) (b m : List ℕ) → Bytes b → Bytes m → (before after : List ℕ) (number : ℕ)
    → Returned (board_reply limit b m (length before)) number before after → number < 65536 → number ≤ 18512
board_short limit b m bb bm before after number returned answered =
    let z = board_accepted limit b m bb bm before after number returned answered in
    let r = board_rounds limit (graph_of m) (queries_of b) in
    let call = subst (λ (x : Reply). Returned x number before after) (finish_fits b m bb bm z limit (length before)) returned in
    omega (
      arith,
      (fitted_answered (answers_of limit (graph_of m) r (queries_of b)) before after number call answered).0,
      finish_short b m bb bm z limit r,
    )
