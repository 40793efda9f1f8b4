-- THE BOARD THAT THE PROGRAM ANSWERS IS THE BOARD: its reply by what was judged, and the answers of all queries by the table that the joint rounds left.
-- Assumes nothing.
use Prim.Native.Nat.{ℕ, zero, suc, ◌+◌, ◌-◌, ◌*◌, ◌≤◌, ◌<◌, min}
use mathlib.Core.Path.{◌≡◌, refl, sym, ap, ap₂, ◌∙◌, subst}
use mathlib.Core.Bool.{Bool, true, false, cond}
use mathlib.Core.List.{List, [], ◌∷◌, ◌++◌, map}
use native.Mathlib.Omega.{arith}
use borrow.Author.Tests.{eqb-true, le-ltb, lt-ltb, ne_eqb}
use lib.Dec.{T, eqb}
use lib.ListN.{length, get_or, drop, take, length-append, length-drop}
use lib.Seq.{take_all}
use Rattle.answer.specs.Answer.{answer_size}
use Rattle.answer.proofs.Bytes.{count_most, encode_length}
use Rattle.answer.proofs.Reply.{write_encodes}
use Rattle.board_text.specs.Board.{BoardLegal, after_query, all_written, board_code, count_code, first_code, first_query, joint_paths, queries_code}
use Rattle.board_text.specs.Board.{queries_in, queries_of}
use Rattle.board_text.specs.Steps.{board_scan}
use Rattle.board_text.proofs.Exact.{board_read}
use Rattle.board_text.proofs.Reading.{counted}
use Rattle.board_text.proofs.Joint.{drop_bytes, first_bytes, first_passed, scan_holds, scan_judges}
use Rattle.table.specs.Table.{paths_in}
use Rattle.engine.specs.declared.Limit.{Limit}
use Rattle.engine.specs.Run.{outcome, sources_code}
use Rattle.engine.specs.Steps.{Settled, paths_of, run_code}
use Rattle.engine.proofs.Every.{outcome_rows}
use Rattle.wire.proofs.Codes.{number_some}
use Rattle.engine.proofs.Meant.{rows_are, sources_fit, unless_then}
use Rattle.engine.proofs.Numbers.{paths_held}
use Rattle.engine.proofs.Table.{outcome_rounds}
use Rattle.graph.specs.Graph.{graph_code, graph_of}
use Rattle.graph.proofs.Exact as graph
use Rattle.meaning.specs.Limits.{GraphLegal, PathFits, PlanLegal, QueryLegal}
use Rattle.meaning.specs.Meaning.{Outcome}
use Rattle.meaning.specs.Plan.{Plan, among, fuse}
use Rattle.meaning.specs.Query.{PathReduction, Query, each, single, written_paths}
use Rattle.meaning.specs.Run.{pull, values_at}
use Rattle.meaning.proofs.Limits.{fuse_legal}
use Rattle.meaning.proofs.Lists.{all_both, all_weaken}
use Rattle.meaning.proofs.Paths.{all_among, put_all_has, put_all_holds}
use Rattle.packed_path.specs.declared.PackedPath.{PackedPath}
use Rattle.packed_path.specs.Packed.{packed}
use Rattle.plan.specs.Plan.{plan_scan}
use Rattle.plan.specs.Text.{encode, kind_of}
use Rattle.plan.proofs.Exact.{read_complete}
use Rattle.progress.specs.Progress.{Scan, blank}
use Rattle.query.specs.Query as query
use Rattle.query.specs.Tree.{query_of}
use Rattle.query.proofs.Tree.{query_read}
use Rattle.rows.specs.Steps.{body_count}
use Rattle.rows.proofs.Exact.{Holds, answer_rows, rows_length}
use Rattle.term_text.proofs.Table.{Table}
use Rattle.value.specs.declared.Value.{Value}
use Rattle.walks.specs.Lists.{All}
use Rattle.walks.specs.Walks.{Graph}
use Rattle.wire.specs.Header.{then}
use Rattle.wire.specs.declared.Refusal.{Refusal}
use Rattle.wire.specs.Refusal.{number}
use Rattle.wire.specs.Wire.{Bytes, Reply, at16, done, fitted, refused, unless}
use Rattle.wire.proofs.Codes.{then_both}
use Rattle.board.specs.Reply.{answer_of, answers_of, board_reply, board_rounds, reported}
use Rattle.board.specs.Steps.{answers_left, plan_answer, plan_values, sizes_left, slots_in}
use Rattle.board.proofs.Rounds.{each_fits, joint_rounds}
use Rattle.board.proofs.Slots.{holds_through}

-- ---- the reply

-- refused by the first number, or the answers where they fit
pub board_judged : (limit : Limit) (b m : List ℕ) → Bytes b → (room : ℕ) → board_reply limit b m room
    ≡ unless (run_code (board_scan b) m) (fitted (answers_of limit (graph_of m) (board_rounds limit (graph_of m) (queries_of b)) (queries_of b)) room)
unfolding board_reply run_code
board_judged limit b m bytes room =
    sym (unless_then (board_scan b).code (then (graph_code m) (sources_code (at16 m 5) (paths_of (board_scan b)))) A
    ∙ ap (unless (board_scan b).code) (unless_then (graph_code m) (sources_code (at16 m 5) (paths_of (board_scan b))) A)
    ∙ ap (λ (k : ℕ). unless k (rest (paths_of (board_scan b)))) (scan_judges b bytes)
    ∙ go (eqb (board_code b) 0) refl)
  where
    A : Reply
    A = fitted (answers_of limit (graph_of m) (board_rounds limit (graph_of m) (queries_of b)) (queries_of b)) room

    rest : List PathReduction → Reply
    rest cs = unless (graph_code m) (unless (sources_code (at16 m 5) cs) A)

    go : (t : Bool) → eqb (board_code b) 0 ≡ t → cond t (rest (paths_of (board_scan b))) (refused (board_code b))
        ≡ cond t (rest (joint_paths (queries_of b))) (refused (board_code b))
    go true e = ap rest (paths_held (board_scan b) (joint_paths (queries_of b)) (scan_holds b bytes (eqb-true (board_code b) 0 e)))
    go false e = refl

-- where there is a first number, the board is refused by it
pub board_refused : (limit : Limit) (b m : List ℕ) → Bytes b → (room k : ℕ) → k ≡ run_code (board_scan b) m → (k ≡ 0 → ⊥)
    → board_reply limit b m room ≡ refused k
board_refused limit b m bytes room k e n = board_judged limit b m bytes room ∙ rw (← e, ne_eqb k 0 n) refl

-- what is known of a board and a map that are not refused before 15
pub record Accepted (b m : List ℕ) : Type 0 where
  pub board_ok : board_code b ≡ 0
  pub legal : BoardLegal 256 (queries_of b)
  pub graph_ok : graph_code m ≡ 0
  pub graph_legal : GraphLegal (graph_of m)
  pub table : Table (board_scan b) (joint_paths (queries_of b))
  pub joint_fit : All (PathFits (at16 m 5)) (joint_paths (queries_of b))

pub board_passed : (b m : List ℕ) → Bytes b → Bytes m → run_code (board_scan b) m ≡ 0 → Accepted b m
unfolding run_code
board_passed b m bb bm z =
    let cs = paths_of (board_scan b) in
    let x = then_both (board_scan b).code (then (graph_code m) (sources_code (at16 m 5) cs)) z in
    let y = then_both (graph_code m) (sources_code (at16 m 5) cs) x.1 in
    let ok = sym (scan_judges b bb) ∙ x.0 in
    let table = scan_holds b bb ok in
    let sources = rw (paths_held (board_scan b) (joint_paths (queries_of b)) table) at y.1 in
    record {
      board_ok = ok;
      legal = (board_read b bb ok).0;
      graph_ok = y.0;
      graph_legal = (graph.read_sound m bm y.0).0;
      table = table;
      joint_fit = sources_fit (at16 m 5) (joint_paths (queries_of b)) table.legal sources;
    }

-- ---- the answer of one query

-- its path reductions are among the joint ones
abbrev There : List PathReduction → Query → Type 0
There joint q = All (λ c. T (among c joint)) (written_paths q)

module _ (g : Graph) (legal_graph : GraphLegal g) (joint : List PathReduction) (joint_legal : All (PathFits 256) joint)
    (joint_fit : All (PathFits g.vertices) joint) (joint_rest : List PackedPath) (limit : Limit) (r : ℕ) (figures : List ℕ)
    (left : Settled limit g joint r figures) where
  abbrev n : ℕ
  n = g.vertices

  abbrev table : List PackedPath
  table = map packed joint ++ joint_rest

  module _ (q : Query) (legal : QueryLegal 256 q) (there : There joint q) where
    abbrev p : Plan
    p = fuse q

    plan_legal : PlanLegal 256 p
    plan_legal = fuse_legal 256 q legal

    -- what holds of the joint path reductions holds of the plan's
    own_all : (P : PathReduction → Type 0) → All P joint → All P (fuse q).paths
    own_all P h = put_all_holds P [] (written_paths q) tt (all_weaken (written_paths q) (λ c t. all_among P c joint h t) there)

    own_there : All (λ c. T (among c joint)) (fuse q).paths
    own_there = put_all_holds (λ c. T (among c joint)) [] (written_paths q) tt there

    abbrev w : Scan
    w = plan_scan (encode p)

    held : Table (plan_scan (encode (fuse q))) (fuse q).paths
    held = (read_complete p plan_legal).table

    count : min (plan_scan (encode (fuse q))).paths 8 ≡ length (fuse q).paths
    count = omega (arith, held.count, held.few)

    abbrev o : Outcome
    o = reported limit g r q

    abbrev G : ℕ → List Value
    G = values_at (pull g) p.paths (outcome limit g p).rounds

    abbrev slots : List ℕ
    slots = slots_in w.table (length p.paths) table

    holds : Holds n (length p.paths) figures slots G
    holds =
        subst (λ (own_table : List PackedPath). Holds n (length p.paths) figures (slots_in own_table (length p.paths) table) G) (sym held.holds)
        (subst (λ (k : ℕ). Holds n (length p.paths) figures (slots_in (map packed p.paths ++ held.rest) (length p.paths) table)
        (values_at (pull g) p.paths k)) (sym (outcome_rounds limit g p))
        (holds_through p.paths joint held.rest joint_rest plan_legal.few_paths plan_legal.paths_legal joint_legal own_there
        g legal_graph.fits (own_all (PathFits n) joint_fit) joint_fit limit r figures left))

    -- the rows that are written begin with those of the query alone
    rows_length_is : length (outcome limit g (fuse q)).rows ≡ body_count (encode (fuse q)) g.vertices
    rows_length_is = ap length (rows_are limit g p) ∙ rows_length p G n

    values_are : take (length (outcome limit g (fuse q)).rows) (plan_values (encode (fuse q)) (map packed joint ++ joint_rest) figures g.vertices)
        ≡ (outcome limit g (fuse q)).rows
    unfolding plan_values
    values_are =
        rw (rows_length_is, count) (answer_rows p plan_legal figures slots n legal_graph.few_vertices G holds) ∙ sym (rows_are limit g p)

    -- ITS ANSWER IS THAT OF THE QUERY ALONE, but for the rounds
    pub query_answer : plan_answer (map packed joint ++ joint_rest) figures g.vertices r (encode (fuse q)) ≡ answer_of limit g r q
    unfolding plan_answer
    query_answer = write_encodes n (kind_of p.body) o (plan_values (encode p) table figures n) (outcome_rows limit g p) values_are

-- ---- the answers of all

-- one after another
answers_all : (limit : Limit) (g : Graph) (joint : List PackedPath) (figures : List ℕ) (r k : ℕ) (s : List ℕ)
    → All (λ q. plan_answer joint figures g.vertices r (encode (fuse q)) ≡ answer_of limit g r q) (queries_in k s)
    → answers_left joint figures g.vertices r k s ≡ answers_of limit g r (queries_in k s)
unfolding answers_left
answers_all limit g joint figures r zero s h = refl
answers_all limit g joint figures r (suc k) s h =
    ap₂ (λ (x y : List ℕ). x ++ y) h.0 (answers_all limit g joint figures r k (after_query s) h.1)

-- how many bytes one has, by its kind
kind_read : (q : Query) → get_or (query.encode q) 5 0 ≡ kind_of (fuse q).body
kind_read (each t) = refl
kind_read (single t) = refl

pub answer_sized : (limit : Limit) (g : Graph) (r : ℕ) (q : Query) → length (answer_of limit g r q) ≡ answer_size g.vertices (kind_of (fuse q).body)
answer_sized limit g r q =
    encode_length g.vertices (kind_of (fuse q).body) (reported limit g r q) ∙ ap (λ (k : ℕ). 10 + 9 * k) (outcome_rows limit g (fuse q))

-- and all together
sizes_all : (limit : Limit) (g : Graph) (r k : ℕ) (s : List ℕ) → Bytes s → queries_code k s ≡ 0
    → sizes_left g.vertices k s ≡ length (answers_of limit g r (queries_in k s))
unfolding sizes_left
sizes_all limit g r zero s b z = refl
sizes_all limit g r (suc k) s b z =
    let c = then_both (first_code s) (queries_code k (after_query s)) z in
    let q = query_of (first_query s) in
    let e = (query_read (first_query s) (first_bytes s b) (first_passed s c.0).accepted).1 in
    let kind = ap (λ (t : List ℕ). get_or t 5 0) (sym e) ∙ kind_read q in
    omega (
      arith,
      ap (answer_size g.vertices) kind,
      answer_sized limit g r q,
      sizes_all limit g r k (after_query s) (drop_bytes (2 + at16 s 0) s b) c.1,
      length-append (answer_of limit g r q) (answers_of limit g r (queries_in k (after_query s))),
    )

-- at most 2,314 bytes each
pub answers_short : (limit : Limit) (g : Graph) (r : ℕ) (qs : List Query) → g.vertices ≤ 256 → length (answers_of limit g r qs) ≤ 2314 * length qs
answers_short limit g r [] h = omega arith
answers_short limit g r (q ∷ qs) h =
    omega (
      arith,
      answer_sized limit g r q,
      count_most g.vertices (kind_of (fuse q).body) 256 h (omega arith),
      answers_short limit g r qs h,
      length-append (answer_of limit g r q) (answers_of limit g r qs),
    )

-- ---- the program's reply, where nothing is refused before 15

-- the queries of an accepted board, and their count
pub queries_ok : (b : List ℕ) → board_code b ≡ 0 → (queries_code (get_or b 0 0) (drop 1 b) ≡ 0) × (1 ≤ length b) × (get_or b 0 0 ≤ 8)
unfolding board_code
queries_ok b z =
    let c = then_both (count_code b) _ z in
    let n = counted b c.0 in
    ((then_both (queries_code (get_or b 0 0) (drop 1 b)) _ c.1).0, n.0, n.2)

module _ (b m : List ℕ) (bb : Bytes b) (bm : Bytes m) (z : run_code (board_scan b) m ≡ 0) (limit : Limit) where
  abbrev qs : List Query
  qs = queries_of b

  abbrev cs : List PathReduction
  cs = joint_paths qs

  a : Accepted b m
  a = board_passed b m bb bm z

  -- THE REPLY
  pub finish_fits : (room : ℕ) → board_reply limit b m room
      ≡ fitted (answers_of limit (graph_of m) (board_rounds limit (graph_of m) (queries_of b)) (queries_of b)) room
  finish_fits room = board_judged limit b m bb room ∙ rw z refl

  -- HOW MANY BYTES THERE ARE IS KNOWN BEFORE THE ROUNDS
  pub finish_size : (r : ℕ) → sizes_left (at16 m 5) (get_or b 0 0) (drop 1 b) ≡ length (answers_of limit (graph_of m) r (queries_of b))
  unfolding queries_of
  finish_size r = sizes_all limit (graph_of m) r (get_or b 0 0) (drop 1 b) (drop_bytes 1 b bb) (queries_ok b a.board_ok).0

  -- so is 15
  abbrev all : List ℕ
  all = answers_of limit (graph_of m) (board_rounds limit (graph_of m) qs) qs

  pub finish_refused : (room : ℕ) → room < sizes_left (at16 m 5) (get_or b 0 0) (drop 1 b) → board_reply limit b m room ≡ refused 15
  finish_refused room h = finish_fits room ∙ rw (lt-ltb room (length all) (omega (arith, finish_size (board_rounds limit (graph_of m) qs)))) refl

  pub finish_done : (room : ℕ) → sizes_left (at16 m 5) (get_or b 0 0) (drop 1 b) ≤ room → board_reply limit b m room
      ≡ done (answers_of limit (graph_of m) (board_rounds limit (graph_of m) (queries_of b)) (queries_of b))
  finish_done room h = finish_fits room ∙ rw (le-ltb room (length all) (omega (arith, finish_size (board_rounds limit (graph_of m) qs)))) refl

  pub finish_short : (r : ℕ) → length (answers_of limit (graph_of m) r (queries_of b)) ≤ 18512
  finish_short r = omega (arith, answers_short limit (graph_of m) r qs a.graph_legal.few_vertices, a.legal.few_queries)

  -- the joint path reductions in the reader's table
  joint_there : paths_in (min (board_scan b).paths 8) (board_scan b).table ≡ joint_paths (queries_of b)
  joint_there =
      let same : min (board_scan b).paths 8 ≡ (board_scan b).paths = omega (arith, a.table.count, a.table.few) in
      ap (λ (i : ℕ). paths_in i (board_scan b).table) same ∙ paths_held (board_scan b) cs a.table

  pub joint_legal : All (PathFits (at16 m 5)) (paths_in (min (board_scan b).paths 8) (board_scan b).table)
  joint_legal = subst (All (PathFits (at16 m 5))) (sym joint_there) a.joint_fit

  -- each query's path reductions are among them
  queries_there : (rs : List Query) → All (λ c. T (among c (joint_paths (queries_of b)))) (all_written rs)
      → All (λ q. There (joint_paths (queries_of b)) q) rs
  queries_there rs h = each_fits (λ c. T (among c cs)) rs h

  pub written_fit : All (PathFits (at16 m 5)) (all_written (queries_of b))
  written_fit = all_weaken (all_written qs) (λ c t. all_among (PathFits (at16 m 5)) c cs a.joint_fit t) (put_all_has [] (all_written qs))

  module _ (r : ℕ) (figures : List ℕ)
      (left : Settled limit (graph_of m) (paths_in (min (board_scan b).paths 8) (board_scan b).table) r figures) where
    joint_left : Settled limit (graph_of m) (joint_paths (queries_of b)) r figures
    joint_left = subst (λ (ds : List PathReduction). Settled limit (graph_of m) ds r figures) joint_there left

    -- THE ROUNDS ARE THE GREATEST OF THE SEPARATE COUNTS
    pub rounds_are : r ≡ board_rounds limit (graph_of m) (queries_of b)
    rounds_are = joint_left.rounds ∙ joint_rounds (graph_of m) a.graph_legal.fits limit qs a.legal.some_query written_fit

    each_answer : All (λ q. plan_answer (map packed (joint_paths (queries_of b)) ++ a.table.rest) figures (at16 m 5) r (encode (fuse q))
        ≡ answer_of limit (graph_of m) r q) (queries_of b)
    each_answer =
        all_both qs
        (λ q l t. query_answer (graph_of m) a.graph_legal cs a.table.legal a.joint_fit a.table.rest limit r figures joint_left q l t)
        a.legal.queries_legal (queries_there qs (put_all_has [] (all_written qs)))

    -- WHAT IS WRITTEN IS THE ANSWERS OF ALL QUERIES
    pub answers_are : answers_left (board_scan b).table figures (at16 m 5) r (get_or b 0 0) (drop 1 b)
        ≡ answers_of limit (graph_of m) (board_rounds limit (graph_of m) (queries_of b)) (queries_of b)
    unfolding queries_of
    answers_are =
        ap (λ (table : List PackedPath). answers_left table figures (at16 m 5) r (get_or b 0 0) (drop 1 b)) a.table.holds
        ∙ answers_all limit (graph_of m) (map packed cs ++ a.table.rest) figures r (get_or b 0 0) (drop 1 b) each_answer
        ∙ ap (λ (k : ℕ). answers_of limit (graph_of m) k (queries_in (get_or b 0 0) (drop 1 b))) rounds_are

-- ---- what the program has in hand where nothing is refused before 15

-- the queries stand behind the count
pub behind_count : (b : List ℕ) → take (length b - 1) (drop 1 b) ≡ drop 1 b
behind_count b = take_all (length b - 1) (drop 1 b) (omega (arith, length-drop 1 b))

pub record Ready (b m : List ℕ) (limit : Limit) (w : Scan) : Type 0 where
  pub queries : queries_code (get_or b 0 0) (drop 1 b) ≡ 0
  pub some_byte : 1 ≤ length b
  pub graph_ok : graph_code m ≡ 0
  pub some_vertex : 1 ≤ at16 m 5
  pub few_vertices : at16 m 5 ≤ 256
  pub paths : All (PathFits (at16 m 5)) (paths_in (min w.paths 8) w.table)
  pub refuses : (room : ℕ) → room < sizes_left (at16 m 5) (get_or b 0 0) (drop 1 b) → board_reply limit b m room ≡ refused 15
  -- a table that holds the values after the rounds reported
  pub answers : (room r : ℕ) (figures : List ℕ) → sizes_left (at16 m 5) (get_or b 0 0) (drop 1 b) ≤ room
      → Settled limit (graph_of m) (paths_in (min w.paths 8) w.table) r figures
      → (length (answers_left w.table figures (at16 m 5) r (get_or b 0 0) (drop 1 b)) ≤ room)
      × (length (answers_left w.table figures (at16 m 5) r (get_or b 0 0) (drop 1 b)) < 65536)
      × (board_reply limit b m room ≡ done (answers_left w.table figures (at16 m 5) r (get_or b 0 0) (drop 1 b)))

pub ready : (b m : List ℕ) (limit : Limit) → Bytes b → Bytes m → (w : Scan) → w ≡ board_scan b → 0 ≡ run_code w m → Ready b m limit w
ready b m limit bb bm w read ok = subst (Ready b m limit) (sym read) here
  where
    z : run_code (board_scan b) m ≡ 0
    z = sym (rw read at ok)

    a : Accepted b m
    a = board_passed b m bb bm z

    rs : ℕ
    rs = board_rounds limit (graph_of m) (queries_of b)

    here : Ready b m limit (board_scan b)
    here = record {
      queries = (queries_ok b a.board_ok).0;
      some_byte = (queries_ok b a.board_ok).1;
      graph_ok = a.graph_ok;
      some_vertex = omega (arith, a.graph_legal.fits.some_vertex);
      few_vertices = a.graph_legal.few_vertices;
      paths = joint_legal b m bb bm z limit;
      refuses = finish_refused b m bb bm z limit;
      answers = λ room r figures fits left.
          let e = answers_are b m bb bm z limit r figures left in
          let n = ap length e in (
            omega (arith, n, finish_size b m bb bm z limit rs),
            omega (arith, n, finish_short b m bb bm z limit rs),
            finish_done b m bb bm z limit room fits ∙ ap done (sym e),
          );
    }

-- a board that is refused before 15, by its reader or behind it
pub board_ended : (limit : Limit) (b m : List ℕ) → Bytes b → (room : ℕ) (e : Refusal) → number e ≡ run_code (board_scan b) m
    → board_reply limit b m room ≡ refused (number e)
board_ended limit b m bytes room e k = board_refused limit b m bytes room (number e) k (number_some e)

pub scan_ended : (limit : Limit) (b m : List ℕ) → Bytes b → (room : ℕ) (e : Refusal) → blank (number e) ≡ board_scan b
    → board_reply limit b m room ≡ refused (number e)
unfolding run_code blank
scan_ended limit b m bytes room e k = board_ended limit b m bytes room e (rw (← k, ne_eqb (number e) 0 (number_some e)) refl)
