-- THE RUN THAT THE PROGRAM DOES IS THE RUN, by pull and by push, for a worksheet and a map that were accepted, and starts that are places. Assumes nothing.
use Prim.Native.Nat.{ℕ, ◌≤◌, ◌<◌, min}
use mathlib.Core.Path.{◌≡◌, refl, sym, ap, ◌∙◌, subst}
use mathlib.Core.Bool.{Bool, true, false, cond}
use mathlib.Core.List.{List, [], ◌∷◌}
use native.Mathlib.Omega.{arith}
use borrow.Author.Tests.{eqb-true, eqb-false, le-ltb, lt-ltb, ltb-true, ne_eqb}
use lib.Dec.{ltb, eqb}
use lib.ListN.{length, get_or, take}
use Rattle.answer.specs.Answer.{answer_code, answer_reply, fields_code}
use Rattle.answer.specs.Answer as answer
use Rattle.answer.proofs.Reply.{encode_judged, reply_encodes}
use Rattle.graph.specs.Graph.{graph_code, graph_of}
use Rattle.graph.proofs.Exact as graph
use Rattle.meaning.specs.Limits.{GraphLegal, PathFits, PlanLegal}
use Rattle.meaning.specs.Meaning.{Outcome}
use Rattle.meaning.specs.Plan.{Body, Plan, each_vertex, one_result}
use Rattle.meaning.specs.Query.{PathReduction}
use Rattle.meaning.specs.Run.{body_rows, pull, run, stopped, values_at}
use Rattle.plan.specs.Plan.{plan_code, plan_scan}
use Rattle.plan.specs.Text.{encode, kind_of}
use Rattle.plan.specs.Tree.{plan_of}
use Rattle.plan.proofs.Exact.{read_complete}
use Rattle.plan.proofs.Tree.{plan_back, plan_read}
use Rattle.eval.specs.Steps.{body_found}
use Rattle.rows.specs.Steps.{body_count, many, rows_at}
use Rattle.rows.proofs.Exact.{Holds, answer_rows, rows_length}
use Rattle.term_text.proofs.Table.{Table}
use Rattle.progress.specs.Progress.{Scan, blank}
use Rattle.value.specs.declared.Value.{Value}
use Rattle.value.specs.Value.{values}
use Rattle.walks.specs.Lists.{All}
use Rattle.walks.specs.Walks.{Graph}
use Rattle.wire.specs.Header.{then}
use Rattle.wire.proofs.Codes.{number_some, then_both}
use Rattle.wire.specs.declared.Refusal.{Refusal}
use Rattle.wire.specs.Refusal.{number}
use Rattle.wire.specs.Wire.{Bytes, Reply, at16, done, fitted, refused, unless}
use Rattle.engine.specs.declared.Limit.{Limit}
use Rattle.engine.specs.declared.Limit.TheVariants.{Quiet, Rounds}
use Rattle.engine.specs.Run.{outcome, run_reply, outside_code, sources_code}
use Rattle.engine.specs.Steps.{paths_of, run_code}
use Rattle.engine.proofs.Numbers.{paths_held}

-- ---- starts

-- an accepted list of starts: each is a vertex
module _ (n : ℕ) where
  below : (ss : List ℕ) → outside_code n ss ≡ 0 → All (λ s. s < n) ss
  below [] e = tt
  below (s ∷ ss) e = go (ltb s n) refl e (below ss)
    where
      go : (b : Bool) → ltb s n ≡ b → then (cond b 0 13) (outside_code n ss) ≡ 0 → (outside_code n ss ≡ 0 → All (λ s. s < n) ss)
          → All (λ s. s < n) (s ∷ ss)
      go true p z rest = (ltb-true s n p, rest z)
      go false p z rest = absurd (omega arith)

  source_fits : (c : PathReduction) → PathFits 256 c → outside_code n c.sources ≡ 0 → PathFits n c
  source_fits c f e = (f.0, (below c.sources e, f.1.1, f.1.2))

  -- so of a list
  pub sources_fit : (cs : List PathReduction) → All (PathFits 256) cs → sources_code n cs ≡ 0 → All (PathFits n) cs
  unfolding sources_code
  sources_fit [] f e = tt
  sources_fit (c ∷ cs) f e = go (eqb (outside_code n c.sources) 0) refl e (sources_fit cs f.1)
    where
      go : (b : Bool) → eqb (outside_code n c.sources) 0 ≡ b → cond b (sources_code n cs) (outside_code n c.sources) ≡ 0
          → (sources_code n cs ≡ 0 → All (PathFits n) cs)
          → All (PathFits n) (c ∷ cs)
      go true p z rest = (source_fits c f.0 (eqb-true (outside_code n c.sources) 0 p), rest z)
      go false p z rest = absurd (eqb-false (outside_code n c.sources) 0 p z)

  source_accepted : (ss : List ℕ) → All (λ s. s < n) ss → outside_code n ss ≡ 0
  source_accepted [] f = refl
  source_accepted (s ∷ ss) f = rw (lt-ltb s n f.0) (source_accepted ss f.1)

  -- and back: sources that fit are accepted
  pub sources_accepted : (cs : List PathReduction) → All (PathFits n) cs → sources_code n cs ≡ 0
  unfolding sources_code
  sources_accepted [] f = refl
  sources_accepted (c ∷ cs) f = rw (source_accepted c.sources f.0.1.0) (sources_accepted cs f.1)

-- ---- the reply

-- the path reductions in an accepted reading are those of the tree
pub paths_read : (s : List ℕ) → Bytes s → plan_code s ≡ 0 → paths_of (plan_scan s) ≡ (plan_of s).paths
paths_read s bytes z =
    let p = plan_of s in
    let r = plan_read s bytes z in
    subst (λ (t : List ℕ). paths_of (plan_scan t) ≡ p.paths) r.1 (paths_held (plan_scan (encode p)) p.paths (read_complete p r.0).table)

-- refusals one after the other
pub unless_then : (a b : ℕ) (r : Reply) → unless (then a b) r ≡ unless a (unless b r)
unless_then a b r = go (eqb a 0) refl
  where
    go : (t : Bool) → eqb a 0 ≡ t → unless (cond t b a) r ≡ cond t (unless b r) (refused a)
    go true e = refl
    go false e = rw e refl

-- the bytes of an outcome, where they fit
abbrev pub answered : Limit → List ℕ → List ℕ → ℕ → Reply
answered limit s m room = fitted (answer.encode (at16 m 5) (kind_of (plan_of s).body) (outcome limit (graph_of m) (plan_of s))) room

-- a run that is judged: refused by the first number, or answered
pub run_judged : (limit : Limit) (s m : List ℕ) → Bytes s → (room : ℕ) → run_reply limit s m room
    ≡ unless (run_code (plan_scan s) m) (answered limit s m room)
unfolding run_reply run_code
run_judged limit s m bytes room =
    sym (unless_then (plan_code s) (then (graph_code m) (sources_code (at16 m 5) (paths_of (plan_scan s)))) A
    ∙ ap (unless (plan_code s)) (unless_then (graph_code m) (sources_code (at16 m 5) (paths_of (plan_scan s))) A)
    ∙ go (eqb (plan_code s) 0) refl)
  where
    A : Reply
    A = answered limit s m room

    rest : List PathReduction → Reply
    rest cs = unless (graph_code m) (unless (sources_code (at16 m 5) cs) A)

    go : (b : Bool) → eqb (plan_code s) 0 ≡ b → cond b (rest (paths_of (plan_scan s))) (refused (plan_code s))
        ≡ cond b (rest (plan_of s).paths) (refused (plan_code s))
    go true e = ap rest (paths_read s bytes (eqb-true (plan_code s) 0 e))
    go false e = refl

-- where there is a first number, the run is refused by it
pub run_refused : (limit : Limit) (s m : List ℕ) → Bytes s → (room k : ℕ) → k ≡ run_code (plan_scan s) m → (k ≡ 0 → ⊥)
    → run_reply limit s m room ≡ refused k
run_refused limit s m bytes room k e h = run_judged limit s m bytes room ∙ rw (← e, ne_eqb k 0 h) refl

pub run_ended : (limit : Limit) (s m : List ℕ) → Bytes s → (room : ℕ) (e : Refusal) → number e ≡ run_code (plan_scan s) m
    → run_reply limit s m room ≡ refused (number e)
run_ended limit s m bytes room e k = run_refused limit s m bytes room (number e) k (number_some e)

-- a refused reading is refused by its own number
pub read_refused : (e : Refusal) (m : List ℕ) → run_code (blank (number e)) m ≡ number e
unfolding run_code blank
read_refused e m = rw (ne_eqb (number e) 0 (number_some e)) refl

-- so where the worksheet's reader refuses
pub scan_ended : (limit : Limit) (s m : List ℕ) → Bytes s → (room : ℕ) (e : Refusal) → blank (number e) ≡ plan_scan s
    → run_reply limit s m room ≡ refused (number e)
unfolding run_code blank
scan_ended limit s m bytes room e k = run_ended limit s m bytes room e (rw (← k, ne_eqb (number e) 0 (number_some e)) refl)

-- WHAT WAS ACCEPTED, where nothing is refused before 15: a legal plan, a legal graph, and sources that are its vertices
pub record Accepted (s m : List ℕ) : Type 0 where
  pub legal : PlanLegal 256 (plan_of s)
  pub written : encode (plan_of s) ≡ s
  pub graph_ok : graph_code m ≡ 0
  pub graph_legal : GraphLegal (graph_of m)
  pub sources : All (PathFits (at16 m 5)) (plan_of s).paths

-- FOR ALL BYTES that are not refused before 15: they are those of a legal plan, and the reply is the encoding of its outcome, where it fits
pub run_means : (s m : List ℕ) → Bytes s → Bytes m → run_code (plan_scan s) m ≡ 0 → Accepted s m
    × ((limit : Limit) (room : ℕ) → run_reply limit s m room ≡ answered limit s m room)
unfolding run_code
run_means s m bs bm z =
    let cs = paths_of (plan_scan s) in
    let a = then_both (plan_code s) (then (graph_code m) (sources_code (at16 m 5) cs)) z in
    let b = then_both (graph_code m) (sources_code (at16 m 5) cs) a.1 in
    let r = plan_read s bs a.0 in
    let e = paths_read s bs a.0 in (
      record {
        legal = r.0;
        written = r.1;
        graph_ok = b.0;
        graph_legal = (graph.read_sound m bm b.0).0;
        sources = sources_fit (at16 m 5) (plan_of s).paths r.0.paths_legal (rw e at b.1);
      },
      λ limit room. run_judged limit s m bs room ∙ rw z refl,
    )

-- a run that is answered was not refused
pub run_passed : (limit : Limit) (s m : List ℕ) → Bytes s → (room : ℕ) → ((k : ℕ) → run_reply limit s m room ≡ refused k → ⊥)
    → run_code (plan_scan s) m ≡ 0
run_passed limit s m bytes room n = go (eqb (run_code (plan_scan s) m) 0) refl
  where
    go : (b : Bool) → eqb (run_code (plan_scan s) m) 0 ≡ b → run_code (plan_scan s) m ≡ 0
    go true e = eqb-true (run_code (plan_scan s) m) 0 e
    go false e = absurd (n _ (run_refused limit s m bytes room _ refl (eqb-false (run_code (plan_scan s) m) 0 e)))

-- A LEGAL PLAN ON AN ACCEPTED MAP THAT HAS ITS STARTS: the reply is the encoding of its outcome, where it fits
pub run_answers : (p : Plan) → PlanLegal 256 p → (m : List ℕ) → graph_code m ≡ 0 → All (PathFits (at16 m 5)) p.paths
    → (limit : Limit) (room : ℕ)
    → run_reply limit (encode p) m room ≡ fitted (answer.encode (at16 m 5) (kind_of p.body) (outcome limit (graph_of m) p)) room
unfolding run_reply
run_answers p legal m graph_ok fits limit room =
    rw ((read_complete p legal).accepted, graph_ok, plan_back p legal, sources_accepted (at16 m 5) p.paths fits) refl

-- ---- the program's reply, where nothing is refused before 15

-- the rows are those of the body, after the rounds reported
pub rows_are : (limit : Limit) (g : Graph) (p : Plan)
    → (outcome limit g p).rows ≡ body_rows p.body (values_at (pull g) p.paths (outcome limit g p).rounds) g.vertices
unfolding run stopped
rows_are Quiet g p = refl
rows_are (Rounds r) g p = refl

-- the second byte behind the header is the kind
kind_byte : (p : Plan) → get_or (encode p) 5 0 ≡ kind_of p.body
kind_byte p = refl

module _ (s m : List ℕ) (bs : Bytes s) (bm : Bytes m) (z : run_code (plan_scan s) m ≡ 0) where
  abbrev n : ℕ
  n = at16 m 5

  abbrev g : Graph
  g = graph_of m

  abbrev p : Plan
  p = plan_of s

  a : Accepted s m
  a = (run_means s m bs bm z).0

  pub few : at16 m 5 ≤ 256
  few = a.graph_legal.few_vertices

  kind_is : get_or s 5 0 ≡ kind_of p.body
  kind_is = subst (λ (t : List ℕ). get_or t 5 0 ≡ kind_of p.body) a.written (kind_byte p)

  fields_fine : fields_code n (kind_of p.body) ≡ 0
  unfolding fields_code
  fields_fine = go p.body
    where
      go : (b : Body) → fields_code n (kind_of b) ≡ 0
      go (each_vertex t) = rw (ne_eqb n 0 (λ e. absurd (omega (arith, a.graph_legal.fits.some_vertex))), le-ltb 256 n few) refl
      go (one_result es t) = rw (ne_eqb n 0 (λ e. absurd (omega (arith, a.graph_legal.fits.some_vertex))), le-ltb 256 n few) refl

  -- and as many as the kind has
  rows_counted : (limit : Limit) → length (outcome limit g p).rows ≡ answer.row_count n (kind_of p.body)
  unfolding body_count
  rows_counted limit =
      ap length (rows_are limit g p) ∙ rows_length p (values_at (pull g) p.paths (outcome limit g p).rounds) n ∙ ap (answer.row_count n) (kind_byte p)

  -- 15 IS KNOWN BEFORE THE ROUNDS
  pub finish_judged : (limit : Limit) (room : ℕ) → run_reply limit s m room
      ≡ unless (answer_code n (get_or s 5 0) room) (done (answer.encode n (kind_of p.body) (outcome limit g p)))
  finish_judged limit room =
      (run_means s m bs bm z).1 limit room ∙ sym (rw kind_is (encode_judged n (kind_of p.body) room (outcome limit g p) fields_fine (rows_counted limit)))

  pub finish_ended : (limit : Limit) (room : ℕ) (e : Refusal) → number e ≡ answer_code n (get_or s 5 0) room
      → run_reply limit s m room ≡ refused (number e)
  finish_ended limit room e k = rw (finish_judged limit room, ← k, ne_eqb (number e) 0 (number_some e)) refl

  -- so many path reductions, and the table of their numbers
  pub held : Table (plan_scan s) (plan_of s).paths
  held = subst (λ (t : List ℕ). Table (plan_scan t) p.paths) a.written (read_complete p a.legal).table

  pub paths_are : min (plan_scan s).paths 8 ≡ length (plan_of s).paths
  paths_are = omega (arith, held.count, held.few)

  -- A TABLE THAT HOLDS THE VALUES after the rounds reported: the answer written from it is the run's
  pub finish_answers : (limit : Limit) (room rounds : ℕ) (figures slots : List ℕ)
      → rounds ≡ (outcome limit (graph_of m) (plan_of s)).rounds
      → Holds (at16 m 5) (length (plan_of s).paths) figures slots
      (values_at (pull (graph_of m)) (plan_of s).paths (outcome limit (graph_of m) (plan_of s)).rounds)
      → run_reply limit s m room ≡ answer_reply (at16 m 5) rounds (get_or s 5 0)
      (values (many (body_found s (rows_at figures slots (min (plan_scan s).paths 8)) (min (at16 m 5) 256)))) room
  finish_answers limit room rounds figures slots told holds =
      let o : Outcome = outcome limit g p in
      let vs = values (many (body_found s (rows_at figures slots (length p.paths)) (min n 256))) in
      let G : ℕ → List Value = values_at (pull g) p.paths o.rounds in
      let first =
      subst (λ (t : List ℕ). take (body_count (encode p) n) (values (many (body_found t (rows_at figures slots (length p.paths)) (min n 256))))
      ≡ body_rows p.body G n)
      a.written (answer_rows p a.legal figures slots n few G holds) in
      let begin : take (length o.rows) vs ≡ o.rows = rw (ap length (rows_are limit g p) ∙ rows_length p G n, rows_are limit g p) first in
      (run_means s m bs bm z).1 limit room
      ∙ sym (rw (told, paths_are, kind_is) (reply_encodes n (kind_of p.body) o vs (rows_counted limit) begin fields_fine room))

-- the map was accepted
pub run_graph : (w : Scan) (m : List ℕ) → run_code w m ≡ 0 → graph_code m ≡ 0
unfolding run_code
run_graph w m z =
    (then_both (graph_code m) (sources_code (at16 m 5) (paths_of w)) (then_both w.code (then (graph_code m) (sources_code (at16 m 5) (paths_of w))) z).1).0
