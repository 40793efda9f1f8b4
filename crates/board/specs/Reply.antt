-- WHAT A BOARD IS ANSWERED (document 02, d), for all bytes: a board on a map, to the first quiet round or for a given number of rounds. Pull and push have this
-- one definition.
use Rattle.std.specs.Prelude.{ℕ, zero, max, List, [], ◌∷◌, ◌++◌, map}
use Rattle.answer.specs.Answer as answer
use Rattle.engine.specs.declared.Limit.{Limit}
use Rattle.engine.specs.Run.{outcome, sources_code}
use Rattle.graph.specs.Graph.{graph_code, graph_of}
use Rattle.meaning.specs.Meaning.{Outcome}
use Rattle.meaning.specs.Plan.{fuse}
use Rattle.meaning.specs.Query.{Query}
use Rattle.plan.specs.Text.{kind_of}
use Rattle.walks.specs.Walks.{Graph}
use Rattle.wire.specs.Wire.{Reply, fitted, unless}
use Rattle.board_text.specs.Board.{board_code, joint_paths, queries_of}

-- the greatest of some numbers
abbrev pub greatest : List ℕ → ℕ
greatest [] = zero
greatest (x ∷ xs) = max x (greatest xs)

-- the outcome of a query alone: fused and run
abbrev pub alone : Limit → Graph → Query → Outcome
alone limit g q = outcome limit g (fuse q)

-- "rounds is the greatest of the separate counts"; for a given number of rounds every query alone reports that number
unfoldable pub board_rounds : Limit → Graph → List Query → ℕ
board_rounds limit g qs = greatest (map (λ q. (alone limit g q).rounds) qs)

-- "Every answer equals that of its question alone, except that rounds is the greatest": the outcome of one query where r is reported, and its bytes
abbrev pub reported : Limit → Graph → ℕ → Query → Outcome
reported limit g r q = record { rounds = r; rows = (alone limit g q).rows }

abbrev pub answer_of : Limit → Graph → ℕ → Query → List ℕ
answer_of limit g r q = answer.encode g.vertices (kind_of (fuse q).body) (reported limit g r q)

-- "The answers are written one after another"
abbrev pub answers_of : Limit → Graph → ℕ → List Query → List ℕ
answers_of limit g r [] = []
answers_of limit g r (q ∷ qs) = answer_of limit g r q ++ answers_of limit g r qs

-- the board, "and the map follows", "starts in chain order" of the joint table, then 15 for all answers: "one after another or not at all"
unfoldable pub board_reply : Limit → List ℕ → List ℕ → ℕ → Reply
board_reply limit b m room =
    let g = graph_of m in
    let qs = queries_of b in
    unless (board_code b) (unless (graph_code m) (unless (sources_code g.vertices (joint_paths qs))
    (fitted (answers_of limit g (board_rounds limit g qs) qs) room)))
