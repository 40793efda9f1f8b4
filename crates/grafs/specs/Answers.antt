-- DEMANDS 2 AND 3 OVER QUESTIONS, said of what the calls return: a question fused, and its worksheet run.
use Rattle.std.specs.Prelude.{ℕ, ◌≡◌, List, length, take}
use Rattle.engine.specs.Answered.{AnswerIn}
use Rattle.engine.specs.declared.Limit.{Limit}
use Rattle.engine.specs.declared.Limit.TheVariants.{Quiet, Rounds}
use Rattle.engine.specs.Run.{run_reply}
use Rattle.fusion.specs.Fusion.{fuse_reply}
use Rattle.graph.specs.Graph.{graph_of}
use Rattle.meaning.specs.Meaning.{Correct, Outcome, UnfusedWithin}
use Rattle.meaning.specs.Query.{Query, each, single}
use Rattle.walks.specs.Walks.{Graph}
use Rattle.wire.specs.Wire.{Returned}

-- "a kind byte, 0 for a value at each place, 1 for one result"
abbrev pub query_kind : Query → ℕ
query_kind (each t) = 0
query_kind (single t) = 1

-- a query was fused into a buffer, and the plan in its first bytes was run on the graph into another, by pull or by push
pub record Called (limit : Limit) (query_bytes graph_bytes plan_before plan_after : List ℕ) (fused : ℕ) (before after : List ℕ) (number : ℕ) : Type
    0 where
  pub fuse_call : Returned (fuse_reply query_bytes (length plan_before)) fused plan_before plan_after
  pub run_call : Returned (run_reply limit (take fused plan_after) graph_bytes (length before)) number before after

-- "With no number of rounds given, pull and push answer exactly the question's unfused value over all walks" and the smallest count (`Correct`); stopped
-- after r rounds, "the value over the walks of no more passages than rounds done", and r is reported
abbrev pub QueryCorrect : Limit → Graph → Query → Outcome → Type 0
QueryCorrect Quiet g q o = Correct g q o
QueryCorrect (Rounds r) g q o = UnfusedWithin g r q o.rows × (o.rounds ≡ r)

-- what is left, and the number, where the query is q
pub record Answers (limit : Limit) (q : Query) (graph_bytes before after : List ℕ) (number : ℕ) : Type 0 where
  pub outcome : Outcome
  pub correct : QueryCorrect limit (graph_of graph_bytes) q outcome
  pub left : AnswerIn (graph_of graph_bytes).vertices (query_kind q) outcome number before after
