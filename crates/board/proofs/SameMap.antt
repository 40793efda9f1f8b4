-- MAPS WITH THE SAME PLACES AND THE SAME ROWS EQUALLY OFTEN: every board has the same reply on both, whatever room is lent. Assumes nothing.
use Prim.Native.Nat.{ℕ}
use mathlib.Core.Path.{◌≡◌, refl, sym, ap, ap₂, ◌∙◌}
use mathlib.Core.Bool.{Bool, true, false}
use mathlib.Core.List.{List, [], ◌∷◌, ◌++◌}
use borrow.Author.Tests.{eqb-false, eqb-true}
use lib.Dec.{eqb}
use Rattle.answer.specs.Answer as answer
use Rattle.board_text.specs.Board.{queries_of}
use Rattle.board_text.specs.Steps.{board_scan}
use Rattle.engine.specs.declared.Limit.{Limit}
use Rattle.engine.specs.Steps.{run_code}
use Rattle.engine.proofs.SameMap.{outcome_same, run_code_same}
use Rattle.graph.specs.Graph.{graph_code, graph_of}
use Rattle.meaning.specs.Limits.{GraphFits, PathFits, QueryFits}
use Rattle.meaning.specs.Meaning.{Outcome}
use Rattle.meaning.specs.Plan.{fuse}
use Rattle.meaning.specs.Query.{Query}
use Rattle.meaning.proofs.Lists.{all_weaken, map_same}
use Rattle.meaning.proofs.Main.{fused_fit}
use Rattle.plan.specs.Text.{kind_of}
use Rattle.walks.specs.Lists.{All}
use Rattle.walks.specs.Often.{SameGraph}
use Rattle.walks.specs.Walks.{Graph}
use Rattle.wire.specs.Wire.{Bytes, at16, fitted}
use Rattle.board.specs.Reply.{alone, answers_of, board_reply, board_rounds, greatest}
use Rattle.board.proofs.Meant.{board_judged, board_passed, board_refused, written_fit}
use Rattle.board.proofs.Rounds.{each_fits}

-- the queries of a board alone, all together, and their answers
module _ (limit : Limit) (g h : Graph) (fits : GraphFits g) (same : SameGraph g h) where
  alone_same : (q : Query) → QueryFits g q → alone limit g q ≡ alone limit h q
  alone_same q f = outcome_same same limit (fuse q) (fused_fit g fits q f)

  rounds_same : (qs : List Query) → All (QueryFits g) qs → board_rounds limit g qs ≡ board_rounds limit h qs
  unfolding board_rounds
  rounds_same qs f = ap greatest (map_same _ _ qs (all_weaken qs (λ q l. ap (λ (o : Outcome). o.rounds) (alone_same q l)) f))

  answers_same : (r : ℕ) (qs : List Query) → All (QueryFits g) qs → answers_of limit g r qs ≡ answers_of limit h r qs
  answers_same r [] f = refl
  answers_same r (q ∷ qs) f = ap₂ (λ (x y : List ℕ). x ++ y) (ap₂ bytes same.vertices_same (alone_same q f.0)) (answers_same r qs f.1)
    where
      bytes : ℕ → Outcome → List ℕ
      bytes n o = answer.encode n (kind_of (fuse q).body) (record { rounds = r; rows = o.rows })

-- those of a board
abbrev answers : Limit → List ℕ → Graph → List ℕ
answers limit b g = answers_of limit g (board_rounds limit g (queries_of b)) (queries_of b)

-- EVERY BOARD HAS THE SAME REPLY ON BOTH
pub board_same : (m u : List ℕ) → graph_code m ≡ 0 → graph_code u ≡ 0 → SameGraph (graph_of m) (graph_of u) → Bytes m
    → (limit : Limit) (b : List ℕ) → Bytes b → (room : ℕ) → board_reply limit b m room ≡ board_reply limit b u room
board_same m u ok fine same bm limit b bb room = go (eqb (run_code (board_scan b) m) 0) refl
  where
    code : run_code (board_scan b) m ≡ run_code (board_scan b) u
    code = run_code_same m u ok fine same (board_scan b)

    go : (t : Bool) → eqb (run_code (board_scan b) m) 0 ≡ t → board_reply limit b m room ≡ board_reply limit b u room
    go true e =
        let z = eqb-true (run_code (board_scan b) m) 0 e in
        let legal = (board_passed b m bb bm z).graph_legal.fits in
        let f = each_fits (PathFits (at16 m 5)) (queries_of b) (written_fit b m bb bm z limit) in
        let left : board_reply limit b m room ≡ fitted (answers limit b (graph_of m)) room = board_judged limit b m bb room ∙ rw z in
        let right : board_reply limit b u room ≡ fitted (answers limit b (graph_of u)) room =
        board_judged limit b u bb room ∙ rw (← code, z) in
        left
        ∙ ap (λ (bs : List ℕ). fitted bs room) (answers_same limit (graph_of m) (graph_of u) legal same _ (queries_of b) f
        ∙ ap (λ (r : ℕ). answers_of limit (graph_of u) r (queries_of b)) (rounds_same limit (graph_of m) (graph_of u) legal same (queries_of b) f))
        ∙ sym right
    go false e =
        let n = eqb-false (run_code (board_scan b) m) 0 e in
        board_refused limit b m bb room _ refl n ∙ sym (board_refused limit b u bb room _ code n)
