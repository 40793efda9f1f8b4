-- EVERY ANSWERED RUN, of any worksheet, fused or not, by pull and by push, to the first quiet round and for a given number of rounds: `every_run`. Assumes
-- nothing.
use Prim.Native.Nat.{ℕ, ◌+◌, ◌*◌, ◌≤◌, ◌<◌}
use mathlib.Core.Path.{◌≡◌, refl, sym, ap, ◌∙◌, subst}
use mathlib.Core.Bool.{Bool, true, false, cond}
use mathlib.Core.List.{List, ◌++◌}
use native.Mathlib.Omega.{arith}
use lib.Dec.{ltb}
use lib.ListN.{length, drop}
use lib.Seq.{get_or-take, take_at}
use Rattle.answer.specs.Answer.{answer_size, encode, row_count}
use Rattle.answer.specs.Decode.{Answer, decode}
use Rattle.answer.proofs.Bytes.{encode_length}
use Rattle.answer.proofs.Decoded.{decode_back}
use Rattle.graph.specs.Graph.{graph_of}
use Rattle.meaning.specs.Limits.{GraphLegal, PathFits, PlanLegal}
use Rattle.meaning.specs.Meaning.{Outcome, Smallest}
use Rattle.meaning.specs.Plan.{Body, Plan, each_vertex, one_result}
use Rattle.meaning.specs.Run.{pull, run, run_rounds, stopped}
use Rattle.meaning.proofs.Bounds.{rows_held}
use Rattle.meaning.proofs.Lists.{tabulate_length}
use Rattle.meaning.proofs.Main.{plan_bound, plan_rows_mean, plan_rows_within, plan_smallest}
use Rattle.plan.specs.Text.{kind_of}
use Rattle.plan.specs.Tree.{plan_of}
use Rattle.value.proofs.Held.{AllHeld}
use Rattle.walks.specs.Lists.{All}
use Rattle.walks.specs.Walks.{Graph}
use Rattle.wire.specs.Wire.{Bytes, Reply, Returned, at16, done, fitted, refused, reply_number}
use Rattle.engine.specs.declared.Limit.{Limit}
use Rattle.engine.specs.declared.Limit.TheVariants.{Quiet, Rounds}
use Rattle.engine.specs.Answered.{AnswerIn, PlanCorrect, RunAnswers}
use Rattle.engine.specs.Run.{Sixteen, outcome, run_reply}
use Rattle.engine.proofs.Meant.{run_means, run_passed}

-- ---- a call that was answered

-- its reply were the bytes, and they fit
pub fitted_answered : (bs before after : List ℕ) (number : ℕ) → Returned (fitted bs (length before)) number before after → number < 65536
    → (number ≡ length bs) × (after ≡ bs ++ drop number before)
fitted_answered bs before after number returned answered = go (ltb (length before) (length bs)) returned
  where
    go : (b : Bool) → Returned (cond b (refused 15) (done bs)) number before after → (number ≡ length bs) × (after ≡ bs ++ drop number before)
    go true r = absurd (omega (arith, r.0))
    go false r = (r.0, r.1 ∙ ap (λ (k : ℕ). bs ++ drop k before) (sym r.0))

-- so it was not a refusal
pub not_refused : (r : Reply) (number : ℕ) (before after : List ℕ) → Returned r number before after → number < 65536 → (k : ℕ) → r
    ≡ refused k → ⊥
not_refused r number before after returned answered k e = omega (arith, returned.0 ∙ ap reply_number e)

-- ---- the answer of an outcome

-- its rows are as many as the kind has
pub outcome_rows : (limit : Limit) (g : Graph) (p : Plan) → length (outcome limit g p).rows ≡ row_count g.vertices (kind_of p.body)
unfolding run stopped
outcome_rows limit g p = go limit
  where
    counted : (b : Body) (r : ℕ) → length (stopped (pull g) g.vertices (record { version = p.version; paths = p.paths; body = b }) r).rows
        ≡ row_count g.vertices (kind_of b)
    counted (each_vertex t) r = tabulate_length g.vertices 0 _
    counted (one_result es t) r = refl

    go : (l : Limit) → length (outcome l g p).rows ≡ row_count g.vertices (kind_of p.body)
    go Quiet = counted p.body (run_rounds (pull g) g.vertices p)
    go (Rounds r) = counted p.body r

-- that of a legal plan

module _ (g : Graph) (legal : GraphLegal g) (p : Plan) (plan_legal : PlanLegal g.vertices p) (limit : Limit) (sixteen : Sixteen limit) where
  abbrev o : Outcome
  o = outcome limit g p

  abbrev n : ℕ
  n = g.vertices

  pub rounds_fit : (outcome limit g p).rounds < 65536
  unfolding stopped
  rounds_fit = go limit sixteen
    where
      go : (l : Limit) → Sixteen l → (outcome l g p).rounds < 65536
      go Quiet h = omega (arith, plan_bound g legal.fits p plan_legal.paths_legal, legal.few_vertices)
      go (Rounds r) h = h

  pub rows_fit : AllHeld (outcome limit g p).rows
  unfolding run stopped
  rows_fit = go limit sixteen rounds_fit
    where
      go : (l : Limit) → Sixteen l → (outcome l g p).rounds < 65536 → AllHeld (outcome l g p).rows
      go Quiet h k = rows_held g legal p plan_legal (run_rounds (pull g) n p) k
      go (Rounds r) h k = rows_held g legal p plan_legal r h

  -- read back, its bytes say it
  pub encode_size : length (encode g.vertices (kind_of p.body) (outcome limit g p)) ≡ answer_size g.vertices (kind_of p.body)
  encode_size = encode_length n (kind_of p.body) o ∙ ap (λ (k : ℕ). 10 + 9 * k) (outcome_rows limit g p)

  pub answer_in : (before after : List ℕ) (number : ℕ)
      → Returned (fitted (encode g.vertices (kind_of p.body) (outcome limit g p)) (length before)) number before after
      → number < 65536 → AnswerIn g.vertices (kind_of p.body) (outcome limit g p) number before after
  answer_in before after number returned answered =
      let bs = encode n (kind_of p.body) o in
      let f = fitted_answered bs before after number returned answered in record {
        bytes = f.1;
        size = f.0 ∙ encode_size;
        says = rw (f.1, take_at bs (drop number before) number (sym f.0))
            (decode_back n (kind_of p.body) o legal.few_vertices rounds_fit (outcome_rows limit g p) rows_fit);
      }

  pub plan_correct : PlanCorrect limit g p (outcome limit g p)
  unfolding stopped
  plan_correct = go limit
    where
      go : (l : Limit) → PlanCorrect l g p (outcome l g p)
      go Quiet =
          let fits = plan_legal.paths_legal in
          (plan_rows_mean g legal.fits p fits, plan_smallest g legal.fits p fits, plan_bound g legal.fits p fits)
      go (Rounds r) = (plan_rows_within g legal.fits p plan_legal.paths_legal r, refl)

-- ---- every run

-- a plan whose sources the graph has is legal there
pub legal_there : (m : ℕ) (p : Plan) → PlanLegal 256 p → All (PathFits m) p.paths → PlanLegal m p
legal_there m p l f = record {
  known_version = l.known_version;
  paths_held = l.paths_held;
  few_paths = l.few_paths;
  paths_legal = f;
  body_legal = l.body_legal;
  few_terms = l.few_terms;
}

-- DEMANDS 2 AND 3 OVER EVERY ANSWERED RUN: for all bytes and any buffer, whatever the call (`engine::pull`, `push`, the exported `run`, a counted run): where
-- its number is under 65,536, the buffer has the answer of the worksheet's own outcome
pub every_run : (limit : Limit) → Sixteen limit → (s m : List ℕ) → Bytes s → Bytes m → (before after : List ℕ) (number : ℕ)
    → Returned (run_reply limit s m (length before)) number before after → number < 65536 → RunAnswers limit s m before after number
every_run limit h s m bs bm before after number returned answered =
    let z = run_passed limit s m bs (length before) (not_refused _ number before after returned answered) in
    let r = run_means s m bs bm z in
    let a = r.0 in
    let g = graph_of m in
    let p = plan_of s in
    let there = legal_there (at16 m 5) p a.legal a.sources in record {
      legal = a.legal;
      written = a.written;
      outcome = outcome limit g p;
      correct = plan_correct g a.graph_legal p there limit h;
      left =
          answer_in g a.graph_legal p there limit h before after number
          (subst (λ (x : Reply). Returned x number before after) (r.1 limit (length before)) returned) answered;
    }

-- the 16 bits in the answer are the rounds
rounds_in : (n kind : ℕ) (o : Outcome) (number : ℕ) (before after : List ℕ) → AnswerIn n kind o number before after → at16 after 7 ≡ o.rounds
unfolding decode
rounds_in n kind o number before after a =
    let first = get_or-take number after 7 0 (omega (arith, a.size)) in
    let second = get_or-take number after 8 0 (omega (arith, a.size)) in
    let said = ap (λ (x : Answer). x.outcome.rounds) a.says in
    omega (arith, first, second, said)

-- DEMAND 3, SECOND SENTENCE, of the bytes: in every answered run to quiet they are the smallest count of the worksheet's own chains, and at most 2n
pub every_rounds : (s m : List ℕ) → Bytes s → Bytes m → (before after : List ℕ) (number : ℕ)
    → Returned (run_reply Quiet s m (length before)) number before after
    → number < 65536 → Smallest (graph_of m) (plan_of s).paths (at16 after 7) × (at16 after 7 ≤ 2 * at16 m 5)
every_rounds s m bs bm before after number returned answered =
    let r = every_run Quiet tt s m bs bm before after number returned answered in
    let e = rounds_in _ _ r.outcome number before after r.left in
    (subst (Smallest (graph_of m) (plan_of s).paths) (sym e) r.correct.1, omega (arith, e, r.correct.2))
