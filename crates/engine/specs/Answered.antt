-- WHAT EVERY ANSWERED RUN LEAVES, of any worksheet, fused or not (demands 1 to 3): said of the number that the call returned, and of the buffer.
use Rattle.std.specs.Prelude.{ℕ, ◌*◌, ◌≤◌, ◌≡◌, List, ◌++◌, drop, take}
use Rattle.answer.specs.Answer.{answer_size, encode}
use Rattle.answer.specs.Decode.{decode}
use Rattle.graph.specs.Graph.{graph_of}
use Rattle.meaning.specs.Limits.{PlanLegal}
use Rattle.meaning.specs.Meaning.{Outcome, PathMeans, PathWithin, Smallest}
use Rattle.meaning.specs.Plan.{Plan}
use Rattle.meaning.specs.Run.{PlanRows}
use Rattle.plan.specs.Text.{kind_of}
use Rattle.plan.specs.Text as plan
use Rattle.plan.specs.Tree.{plan_of}
use Rattle.walks.specs.Walks.{Graph}
use Rattle.engine.specs.declared.Limit.{Limit}
use Rattle.engine.specs.declared.Limit.TheVariants.{Quiet, Rounds}

-- "the buffer begins with the answer in document 01's layout, .. the rest of the buffer is untouched": the bytes of an outcome on n vertices, and read back
-- they say that outcome, so that no row and no count was cut to the width of its field
pub record AnswerIn (n kind : ℕ) (o : Outcome) (number : ℕ) (before after : List ℕ) : Type 0 where
  pub bytes : after ≡ encode n kind o ++ drop number before
  pub size : number ≡ answer_size n kind
  pub says : decode (take number after) ≡ record { vertices = n; kind = kind; outcome = o }

-- "in every answered run the rounds reported are the smallest count ≥ 1 whose last round changed no figure of any chain of the worksheet, never more than 2
-- × n"; a run for a given number "reports that number and answers from the values reached". The rows are the worksheet's expressions
abbrev pub PlanCorrect : Limit → Graph → Plan → Outcome → Type 0
PlanCorrect Quiet g p o = PlanRows (PathMeans g) g.vertices p o.rows × Smallest g p.paths o.rounds × (o.rounds ≤ 2 * g.vertices)
PlanCorrect (Rounds r) g p o = PlanRows (PathWithin g r) g.vertices p o.rows × (o.rounds ≡ r)

-- an answered run of the worksheet with these bytes: they are those of a legal plan, and the buffer has the answer of its outcome
pub record RunAnswers (limit : Limit) (plan_bytes graph_bytes before after : List ℕ) (number : ℕ) : Type 0 where
  pub legal : PlanLegal 256 (plan_of plan_bytes)
  pub written : plan.encode (plan_of plan_bytes) ≡ plan_bytes
  pub outcome : Outcome
  pub correct : PlanCorrect limit (graph_of graph_bytes) (plan_of plan_bytes) outcome
  pub left : AnswerIn (graph_of graph_bytes).vertices (kind_of (plan_of plan_bytes).body) outcome number before after
