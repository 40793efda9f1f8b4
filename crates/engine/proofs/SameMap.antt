-- MAPS WITH THE SAME PLACES AND THE SAME ROWS EQUALLY OFTEN: every run replies the same on both, by pull and by push, to quiet and stopped, whatever room is
-- lent. Assumes nothing.
use Prim.Native.Nat.{ℕ}
use mathlib.Core.Path.{◌≡◌, refl, sym, ap₂, ◌∙◌}
use mathlib.Core.Bool.{Bool, true, false}
use mathlib.Core.List.{List}
use borrow.Author.Tests.{eqb-false, eqb-true}
use lib.Dec.{eqb}
use Rattle.answer.specs.Answer as answer
use Rattle.graph.specs.Graph.{graph_code, graph_of}
use Rattle.meaning.specs.Limits.{PathFits}
use Rattle.meaning.specs.Meaning.{Outcome}
use Rattle.meaning.specs.Plan.{Plan}
use Rattle.meaning.proofs.SameGraph.{run_pull_same, stopped_pull_same}
use Rattle.plan.specs.Plan.{plan_scan}
use Rattle.plan.specs.Text.{kind_of}
use Rattle.plan.specs.Tree.{plan_of}
use Rattle.progress.specs.Progress.{Scan}
use Rattle.walks.specs.Lists.{All}
use Rattle.walks.specs.Often.{SameGraph}
use Rattle.walks.specs.Walks.{Graph}
use Rattle.wire.specs.Wire.{Bytes, Reply, fitted}
use Rattle.engine.specs.declared.Limit.{Limit}
use Rattle.engine.specs.declared.Limit.TheVariants.{Quiet, Rounds}
use Rattle.engine.specs.Run.{outcome, run_reply}
use Rattle.engine.specs.Steps.{run_code}
use Rattle.engine.proofs.Meant.{run_judged, run_means, run_refused}

-- a plan has the same outcome on both
pub outcome_same : {g h : Graph} → SameGraph g h → (limit : Limit) (p : Plan) → All (PathFits g.vertices) p.paths
    → outcome limit g p ≡ outcome limit h p
outcome_same same Quiet p fits = run_pull_same same p fits
outcome_same same (Rounds r) p fits = stopped_pull_same same p fits r

module _ (m u : List ℕ) (ok : graph_code m ≡ 0) (fine : graph_code u ≡ 0) (same : SameGraph (graph_of m) (graph_of u)) where
  -- what is refused before 15 is refused by the same number
  pub run_code_same : (w : Scan) → run_code w m ≡ run_code w u
  unfolding run_code
  run_code_same w = rw (ok, fine, same.vertices_same)

  -- EVERY WORKSHEET HAS THE SAME REPLY ON BOTH
  pub run_same : Bytes m → (limit : Limit) (s : List ℕ) → Bytes s → (room : ℕ) → run_reply limit s m room ≡ run_reply limit s u room
  run_same bm limit s bs room = go (eqb (run_code (plan_scan s) m) 0) refl
    where
      replied : ℕ → Outcome → Reply
      replied n o = fitted (answer.encode n (kind_of (plan_of s).body) o) room

      go : (b : Bool) → eqb (run_code (plan_scan s) m) 0 ≡ b → run_reply limit s m room ≡ run_reply limit s u room
      go true e =
          let z = eqb-true (run_code (plan_scan s) m) 0 e in
          let a = run_means s m bs bm z in
          a.1 limit room
          ∙ ap₂ replied same.vertices_same (outcome_same same limit (plan_of s) a.0.sources)
          ∙ sym (run_judged limit s u bs room ∙ rw (← run_code_same (plan_scan s), z))
      go false e =
          let n = eqb-false (run_code (plan_scan s) m) 0 e in
          run_refused limit s m bs room _ refl n ∙ sym (run_refused limit s u bs room _ (run_code_same (plan_scan s)) n)
