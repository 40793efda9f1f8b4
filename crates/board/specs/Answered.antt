-- WHAT EVERY ANSWERED BOARD LEAVES (document 02, d; demands 1 to 3), said of the number that the call returned, and of the buffer.
use Rattle.std.specs.Prelude.{ℕ, ◌*◌, ◌≤◌, ◌<◌, ◌≡◌, List, [], ◌∷◌, ◌++◌, length, drop, take}
use Rattle.answer.specs.Answer.{answer_size}
use Rattle.answer.specs.Answer as answer
use Rattle.answer.specs.Decode.{decode}
use Rattle.board_text.specs.Board.{BoardLegal, all_written, encode, queries_of}
use Rattle.engine.specs.declared.Limit.{Limit}
use Rattle.engine.specs.declared.Limit.TheVariants.{Quiet, Rounds}
use Rattle.engine.specs.Run.{run_reply}
use Rattle.fusion.specs.Fusion.{fuse_reply}
use Rattle.graph.specs.Graph.{graph_of}
use Rattle.meaning.specs.Meaning.{Outcome, Smallest, Unfused, UnfusedWithin}
use Rattle.meaning.specs.Plan.{fuse}
use Rattle.meaning.specs.Query.{Query, written_paths}
use Rattle.plan.specs.Text.{kind_of}
use Rattle.query.specs.Query as query
use Rattle.walks.specs.Walks.{Graph}
use Rattle.wire.specs.Wire.{Returned}
use Rattle.board.specs.Reply.{greatest}

-- two lists, element by element
abbrev pub Each : {A B : Type 0} → (A → B → Type 0) → List A → List B → Type 0
Each P [] [] = Unit {0}
Each P [] (y ∷ ys) = ⊥
Each P (x ∷ xs) [] = ⊥
Each P (x ∷ xs) (y ∷ ys) = P x y × Each P xs ys

-- "exactly the question's unfused value over all walks"; stopped, "the value over the walks of no more passages than rounds done"
abbrev pub RowsRight : Limit → Graph → Query → Outcome → Type 0
RowsRight Quiet g q o = Unfused g q o.rows
RowsRight (Rounds r) g q o = UnfusedWithin g r q o.rows

-- "rounds is the greatest of the separate counts", each "the smallest count ≥ 1 whose last round changed no figure" of its query's chains; it is that of all
-- chains of the board, "never more than 2 × n"; stopped, every answer reports the number given
abbrev pub RoundsRight : Limit → Graph → List Query → ℕ → Type 0
RoundsRight Quiet g qs r =
    ((counts : List ℕ) × Each (λ q k. Smallest g (written_paths q) k) qs counts × (r ≡ greatest counts)) × Smallest g (all_written qs) r
    × (r ≤ 2 * g.vertices)
RoundsRight (Rounds k) g qs r = r ≡ k

-- "The answers are written one after another": the bytes of outcomes on n vertices, and some bytes read back as them
abbrev pub outcomes_bytes : ℕ → List Query → List Outcome → List ℕ
outcomes_bytes n [] os = []
outcomes_bytes n (q ∷ qs) [] = []
outcomes_bytes n (q ∷ qs) (o ∷ os) = answer.encode n (kind_of (fuse q).body) o ++ outcomes_bytes n qs os

abbrev pub Decoded : ℕ → List Query → List Outcome → List ℕ → Type 0
Decoded n [] os s = s ≡ []
Decoded n (q ∷ qs) [] s = ⊥
Decoded n (q ∷ qs) (o ∷ os) s =
    (decode (take (answer_size n (kind_of (fuse q).body)) s) ≡ record { vertices = n; kind = kind_of (fuse q).body; outcome = o })
    × Decoded n qs os (drop (answer_size n (kind_of (fuse q).body)) s)

-- "Every answer equals that of its question alone": whatever buffers were lent to `fuse` and to a run of what it left, where both answered, the rows are these
abbrev pub AloneRows : Limit → List ℕ → Query → Outcome → Type 0
AloneRows limit graph_bytes q o =
    (plan_before plan_after : List ℕ) (fused : ℕ) (before after : List ℕ) (number : ℕ)
    → Returned (fuse_reply (query.encode q) (length plan_before)) fused plan_before plan_after → fused < 65536
    → Returned (run_reply limit (take fused plan_after) graph_bytes (length before)) number before after → number < 65536
    → (decode (take number after)).outcome.rows ≡ o.rows

-- an answered board: its bytes are those of a legal one, and the buffer has the answers of its queries, the rest as it was
pub record BoardAnswers (limit : Limit) (board_bytes graph_bytes before after : List ℕ) (number : ℕ) : Type 0 where
  pub legal : BoardLegal 256 (queries_of board_bytes)
  pub written : encode (queries_of board_bytes) ≡ board_bytes
  pub rounds : ℕ
  pub rounds_right : RoundsRight limit (graph_of graph_bytes) (queries_of board_bytes) rounds
  pub outcomes : List Outcome
  pub reported : Each (λ q o. o.rounds ≡ rounds) (queries_of board_bytes) outcomes
  pub rows_right : Each (RowsRight limit (graph_of graph_bytes)) (queries_of board_bytes) outcomes
  pub alone : Each (AloneRows limit graph_bytes) (queries_of board_bytes) outcomes
  pub bytes : after ≡ outcomes_bytes (graph_of graph_bytes).vertices (queries_of board_bytes) outcomes ++ drop number before
  pub says : Decoded (graph_of graph_bytes).vertices (queries_of board_bytes) outcomes (take number after)
