use Prim.Native.Nat.{ℕ, min}
use mathlib.Core.List.{List}
use mathlib.Core.Path.{◌≡◌, subst}
use native.Mathlib.Omega.{arith}
use lib.ListN.{length}
use Rattle.table.specs.Table.{paths_in}
use Rattle.graph.specs.Graph.{graph_of}
use Rattle.meaning.specs.Limits.{PathFits}
use Rattle.plan.specs.Plan.{plan_scan}
use Rattle.progress.specs.Progress.{Scan}
use Rattle.walks.specs.Lists.{All}
use Rattle.wire.specs.Wire.{Bytes, at16}
use Rattle.engine.specs.Steps.{Settled, run_code}
use Rattle.engine.proofs.Meant.{finish_answers, run_graph}
use Rattle.engine.proofs.Table.{own, rounds_are, sources_there, table_holds}
use Rattle.engine.proofs.answer_in.Goals as goal

pub settle-done-requires : goal.settle-done-requires
settle-done-requires c =
    let a = c.args in
    let passed : run_code (plan_scan a.plan.now) a.graph.now ≡ 0 = rw c.requires.0 at c.requires.1 in
    let there : All (PathFits (at16 a.graph.now 5)) (paths_in (min a.w.now.paths 8) a.w.now.table) =
    rw (← c.requires.0) at (sources_there a.plan.now a.graph.now (λ i. omega (arith, c.type_inv.plan i)) (λ i. omega (arith, c.type_inv.graph i)) passed) in
    (run_graph _ _ passed, omega arith, rw c.min-paths.ensures there, c.requires.2)

pub returns : goal.returns
returns c =
    let a = c.args in
    let s = a.plan.now in
    let m = a.graph.now in
    let passed : run_code (plan_scan s) m ≡ 0 = rw c.requires.0 at c.requires.1 in
    let bs : Bytes s = λ i. omega (arith, c.type_inv.plan i) in
    let bm : Bytes m = λ i. omega (arith, c.type_inv.graph i) in
    let done = c.settle-done.result in
    let figures : List ℕ = c.settle-done.new.figures in
    let left = subst (λ (w : Scan). Settled a.limit (graph_of m) (paths_in (min w.paths 8) w.table) done figures) c.requires.0
    (rw c.min-paths.ensures at c.settle-done.ensures) in
    let e = finish_answers s m bs bm passed a.limit (length a.out.now) done figures own
    (rounds_are s m bs bm passed a.limit done figures left) (table_holds s m bs bm passed a.limit done figures left) in
    rw (e, ← c.requires.0, ← c.vertices.ensures, ← c.min-paths.ensures) c.write.ensures
