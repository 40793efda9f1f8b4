-- The trials of document 01 that are marked P, as one table: what each asks, what is found, and what the document says.
use Rattle.std.specs.Prelude.{ℕ, List, [], ◌∷◌}
use Rattle.std.proofs.Math.Option.{Option, none, some}
use Rattle.fusion.specs.Fusion.{fuse_reply}
use Rattle.meaning.specs.Plan.{fuse}
use Rattle.meaning.specs.Query.{Query, each, path}
use Rattle.meaning.specs.Run.{Way, pull, push, run}
use Rattle.query.specs.Query.{query_code}
use Rattle.query.specs.Tree.{query_of}
use Rattle.value.specs.declared.Value.{Value}
use Rattle.value.specs.declared.Value.TheVariants.{Absent, Number}
use Rattle.walks.specs.Walks.{Edge, Graph, edge}
use Rattle.wire.specs.Wire.{Reply, done}

-- the rows expected, and the rounds where the document gives them
pub record Expected : Type 0 where
  pub rows : List Value
  pub rounds : Option ℕ

abbrev pub expected : List Value → Option ℕ → Expected
expected xs r = record { rows = xs; rounds = r }

-- what a trial asks
pub data Trial : Type 0 where
  -- a question fused and run on a map
  answers : Graph → Query → Expected → Trial
  -- the bytes of a question read: the number, 0 where they are accepted
  reads : List ℕ → ℕ → Trial
  -- the bytes of a question fused to those of a worksheet; and run, the question that those bytes write
  fuses : List ℕ → List ℕ → Graph → Expected → Trial

-- the rounds found, where the document gives them
abbrev given : Option ℕ → ℕ → Option ℕ
given none r = none
given (some k) r = some r

-- what a run of the fused question finds
abbrev found_by : (Graph → Way) → Graph → Query → Expected → Expected
found_by way g q e = let o = run (way g) g.vertices (fuse q) in expected o.rows (given e.rounds o.rounds)

-- what a trial gives: an answer by pull and by push; a number; what fusing replies, and an answer
pub data Finding : Type 0 where
  ran : Expected → Expected → Finding
  read : ℕ → Finding
  fused : Reply → Expected → Expected → Finding

-- WHAT IS FOUND, and what the document says
abbrev pub finding : Trial → Finding
finding (answers g q e) = ran (found_by pull g q e) (found_by push g q e)
finding (reads bs number) = read (query_code bs)
finding (fuses bs ws g e) = fused (fuse_reply bs 560) (found_by pull g (query_of bs) e) (found_by push g (query_of bs) e)

abbrev pub stated : Trial → Finding
stated (answers g q e) = ran e e
stated (reads bs number) = read number
stated (fuses bs ws g e) = fused (done ws) e e

abbrev graph : ℕ → List Edge → Graph
graph n es = record { vertices = n; edges = es }

-- a trial of one path reduction: its keys and source, the rounds and the values
abbrev path_answers : Graph → List ℕ → ℕ → Option ℕ → List Value → Trial
path_answers g ks s r xs = answers g (each (path (record { keys = ks; sources = s ∷ [] }))) (expected xs r)

-- "Map A: 4 places; 0→1 5 s size 10; 0→2 2 s size 4; 2→1 3 s size 20; 1→3 0 s size 7."
abbrev pub graph_a : Graph
graph_a = graph 4 (edge 0 1 5 10 ∷ edge 0 2 2 4 ∷ edge 2 1 3 20 ∷ edge 1 3 0 7 ∷ [])

-- THE TABLE
abbrev pub trials : List Trial
trials =
    -- "keys 2 from 0: 0, 5, 2, 5; rounds 3"
    path_answers graph_a (2 ∷ []) 0 (some 3) (Number 0 ∷ Number 5 ∷ Number 2 ∷ Number 5 ∷ [])
    -- "keys 2,5 from 0: 65,535, 10, 4, 7"
    ∷ path_answers graph_a (2 ∷ 5 ∷ []) 0 none (Number 65535 ∷ Number 10 ∷ Number 4 ∷ Number 7 ∷ [])
    -- "keys 2,6 from 0: 65,535, 4, 4, 4"
    ∷ path_answers graph_a (2 ∷ 6 ∷ []) 0 none (Number 65535 ∷ Number 4 ∷ Number 4 ∷ Number 4 ∷ [])
    -- "key 6 from 0: 65,535, 4, 4, 4; rounds 4"
    ∷ path_answers graph_a (6 ∷ []) 0 (some 4) (Number 65535 ∷ Number 4 ∷ Number 4 ∷ Number 4 ∷ [])
    -- "key 1 from 3: absent thrice, then 0; rounds 1"
    ∷ path_answers graph_a (1 ∷ []) 3 (some 1) (Absent ∷ Absent ∷ Absent ∷ Number 0 ∷ [])
    -- "one place, self-passage size 3, key 6: 3; rounds 2. Without passages: 65,535; rounds 1"
    ∷ path_answers (graph 1 (edge 0 0 0 3 ∷ [])) (6 ∷ []) 0 (some 2) (Number 3 ∷ [])
    ∷ path_answers (graph 1 []) (6 ∷ []) 0 (some 1) (Number 65535 ∷ [])
    -- "0→1 size 9, 1→0 size 2, key 6 from 0: 2, 2; rounds 4, which is 2 × n"
    ∷ path_answers (graph 2 (edge 0 1 0 9 ∷ edge 1 0 0 2 ∷ [])) (6 ∷ []) 0 (some 4) (Number 2 ∷ Number 2 ∷ [])
    -- "keys 5,2: refused 10. Keys 2,5: read": of one chain from 0
    ∷ reads (0x4c ∷ 0x50 ∷ 0x51 ∷ 0x01 ∷ 0x00 ∷ 0x00 ∷ 0x10 ∷ 0x02 ∷ 0x05 ∷ 0x02 ∷ 0x00 ∷ 0x00 ∷ []) 10
    ∷ reads (0x4c ∷ 0x50 ∷ 0x51 ∷ 0x01 ∷ 0x00 ∷ 0x00 ∷ 0x10 ∷ 0x02 ∷ 0x02 ∷ 0x05 ∷ 0x00 ∷ 0x00 ∷ []) 0
    -- "`4C 50 51 01 00 01 20 02 10 01 01 00 00` fuses to `4C 50 57 01 00 01 01 01 01 00 00 00 00 01 02 30 00 31 00`; on map A the result is 2, rounds 3"
    ∷ fuses (0x4c ∷ 0x50 ∷ 0x51 ∷ 0x01 ∷ 0x00 ∷ 0x01 ∷ 0x20 ∷ 0x02 ∷ 0x10 ∷ 0x01 ∷ 0x01 ∷ 0x00 ∷ 0x00 ∷ [])
    (0x4c ∷ 0x50 ∷ 0x57 ∷ 0x01 ∷ 0x00 ∷ 0x01 ∷ 0x01 ∷ 0x01 ∷ 0x01 ∷ 0x00 ∷ 0x00 ∷ 0x00 ∷ 0x00
    ∷ 0x01 ∷ 0x02 ∷ 0x30 ∷ 0x00 ∷ 0x31 ∷ 0x00 ∷ [])
    graph_a (expected (Number 2 ∷ []) (some 3))
    ∷ []
