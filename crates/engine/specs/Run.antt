-- A RUN (document 01), for all bytes: a worksheet on a map, to the first quiet round or for a given number of rounds. Pull and push have this one definition.
use Rattle.std.specs.Prelude.{ℕ, ◌<◌, cond, List, [], ◌∷◌, ltb}
use Rattle.answer.specs.Answer.{encode}
use Rattle.graph.specs.Graph.{graph_code, graph_of}
use Rattle.meaning.specs.Meaning.{Outcome}
use Rattle.meaning.specs.Plan.{Plan}
use Rattle.meaning.specs.Query.{PathReduction}
use Rattle.meaning.specs.Run.{pull, run, stopped}
use Rattle.plan.specs.Plan.{plan_code}
use Rattle.plan.specs.Text.{kind_of}
use Rattle.plan.specs.Tree.{plan_of}
use Rattle.walks.specs.Walks.{Graph}
use Rattle.wire.specs.Header.{then}
use Rattle.wire.specs.Wire.{Reply, fitted, unless}
use Rattle.engine.specs.declared.Limit.{Limit}
use Rattle.engine.specs.declared.Limit.TheVariants.{Quiet, Rounds}

-- "13 | start | .. at a run n or more", of each source in turn; "What held for one start holds for every set" (document 02, b)
abbrev pub outside_code : ℕ → List ℕ → ℕ
outside_code n [] = 0
outside_code n (s ∷ ss) = then (cond (ltb s n) 0 13) (outside_code n ss)

-- "starts in chain order"
unfoldable pub sources_code : ℕ → List PathReduction → ℕ
sources_code n [] = 0
sources_code n (c ∷ cs) = then (outside_code n c.sources) (sources_code n cs)

-- "A run stops after the first round, counted from 1, in which no place changes for any chain"; "Each run can also be stopped after a given 16-bit number
-- of rounds"
abbrev pub outcome : Limit → Graph → Plan → Outcome
outcome Quiet g p = run (pull g) g.vertices p
outcome (Rounds r) g p = stopped (pull g) g.vertices p r

-- the number given has 16 bits
abbrev pub Sixteen : Limit → Type 0
Sixteen Quiet = Unit {0}
Sixteen (Rounds r) = r < 65536

-- "A run judges the worksheet, the map, starts in chain order, then 15."
unfoldable pub run_reply : Limit → List ℕ → List ℕ → ℕ → Reply
run_reply limit s m room =
    let g = graph_of m in
    let p = plan_of s in
    unless (plan_code s) (unless (graph_code m) (unless (sources_code g.vertices p.paths)
    (fitted (encode g.vertices (kind_of p.body) (outcome limit g p)) room)))
