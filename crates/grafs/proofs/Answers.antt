-- DEMAND 3 WHOLE, AND DEMAND 2 OVER QUERIES, over what the public functions return: a query fused, its plan run by pull or by push, is answered by its
-- unfused meaning over all walks and by the smallest count of rounds, at most 2n; stopped after r rounds, by its meaning over walks of at most r edges.
-- Assumes nothing.
use Prim.Native.Nat.{ℕ, ◌≤◌, ◌<◌}
use mathlib.Core.Path.{◌≡◌, refl, sym, ap, ◌∙◌, subst}
use mathlib.Core.List.{List, ◌++◌}
use native.Mathlib.Omega.{arith}
use borrow.Author.Tests.{le-ltb}
use lib.ListN.{length, take, drop}
use lib.Seq.{take_at}
use Rattle.answer.specs.Answer.{answer_size}
use Rattle.answer.specs.Answer as answer
use Rattle.answer.proofs.Bytes.{count_most}
use Rattle.engine.specs.Answered.{AnswerIn}
use Rattle.engine.specs.declared.Limit.{Limit}
use Rattle.engine.specs.declared.Limit.TheVariants.{Quiet, Rounds}
use Rattle.engine.specs.Run.{Sixteen, outcome, run_reply}
use Rattle.engine.proofs.Every.{answer_in, encode_size, legal_there}
use Rattle.engine.proofs.Meant.{run_answers}
use Rattle.fusion.proofs.Exact.{fuse_answered}
use Rattle.graph.specs.Graph.{graph_code, graph_of}
use Rattle.graph.proofs.Exact as graph
use Rattle.meaning.specs.Limits.{GraphLegal, QueryFits, QueryLegal}
use Rattle.meaning.specs.Plan.{fuse}
use Rattle.meaning.specs.Query.{Query, each, single}
use Rattle.meaning.specs.Run.{stopped}
use Rattle.meaning.proofs.Limits.{fuse_legal}
use Rattle.meaning.proofs.Main.{fused_fit, pull_correct, pull_within}
use Rattle.plan.specs.Text.{kind_of}
use Rattle.plan.specs.Text as plan
use Rattle.query.specs.Query as query
use Rattle.query.specs.Tree.{query_of}
use Rattle.query.proofs.Tree.{query_read}
use Rattle.walks.specs.Walks.{Graph}
use Rattle.wire.specs.Wire.{Bytes, Reply, Returned, at16, reply_buffer, reply_number}
use Rattle.grafs.specs.Answers.{Answers, Called, QueryCorrect, query_kind}

-- fusing keeps the kind
kind_fused : (q : Query) → kind_of (fuse q).body ≡ query_kind q
kind_fused (each t) = refl
kind_fused (single t) = refl

-- the outcome of the fused plan is the query's
query_correct : (g : Graph) → GraphLegal g → (q : Query) → QueryFits g q → (limit : Limit) → QueryCorrect limit g q (outcome limit g (fuse q))
unfolding stopped
query_correct g legal q starts Quiet = pull_correct g legal.fits q starts
query_correct g legal q starts (Rounds r) = (pull_within g legal.fits q starts r, refl)

-- FOR ALL BYTES s, m and any buffers: where the map is accepted and has each source that the query names, `fuse` answered (its number is under 65,536), and
-- the answer fits its buffer, the run answers the query that the bytes s write
pub answers : (limit : Limit) → Sixteen limit → (s m : List ℕ) → Bytes s → Bytes m → graph_code m ≡ 0 → QueryFits (graph_of m) (query_of s)
    → (plan_before plan_after : List ℕ) (fused : ℕ) (before after : List ℕ) (number : ℕ)
    → Called limit s m plan_before plan_after fused before after number
    → fused < 65536 → answer_size (at16 m 5) (query_kind (query_of s)) ≤ length before
    → QueryLegal 256 (query_of s) × (query.encode (query_of s) ≡ s) × Answers limit (query_of s) m before after number
answers limit h s m bs bm graph_ok starts plan_before plan_after fused before after number c fine long =
    let q = query_of s in
    let g = graph_of m in
    let p = fuse q in
    let f = fuse_answered s (length plan_before) (subst (λ (k : ℕ). k < 65536) c.fuse_call.0 fine) in
    let r = query_read s bs f.0 in
    let legal = (graph.read_sound m bm graph_ok).0 in
    let fits = fused_fit g legal.fits q starts in
    let ws = plan.encode p in
    let size : fused ≡ length ws = c.fuse_call.0 ∙ ap reply_number f.1 in
    let held : plan_after ≡ ws ++ drop (length ws) plan_before = c.fuse_call.1 ∙ ap (λ (x : Reply). reply_buffer x plan_before) f.1 in
    let first : take fused plan_after ≡ ws = rw held (take_at ws (drop (length ws) plan_before) fused (sym size)) in
    let there = legal_there (at16 m 5) p (fuse_legal 256 q r.0) fits in
    let is = ap (λ (t : List ℕ). run_reply limit t m (length before)) first
    ∙ run_answers p (fuse_legal 256 q r.0) m graph_ok fits limit (length before) in
    let call = subst (λ (x : Reply). Returned x number before after) is c.run_call in
    let kind = kind_fused q in
    let text = answer.encode (at16 m 5) (kind_of p.body) (outcome limit g p) in
    let size_is = encode_size g legal p there limit h in
    let fitting : length text ≤ length before = rw (size_is, kind) long in
    let few = count_most (at16 m 5) (kind_of p.body) 256 legal.few_vertices (omega arith) in
    let answered : number < 65536 = omega (arith, rw (le-ltb (length before) (length text) fitting) at call.0, size_is, few) in (
      r.0,
      r.1,
      record {
        outcome = outcome limit g p;
        correct = query_correct g legal q starts limit;
        left = subst (λ (k : ℕ). AnswerIn (at16 m 5) k (outcome limit g p) number before after) kind
            (answer_in g legal p there limit h before after number call answered);
      },
    )
