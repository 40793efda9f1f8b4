use native.Mathlib.Omega.{arith}
use Prim.Native.Nat.{◌<◌}
use mathlib.Core.Path.{◌∙◌}
use native.Mathlib.Numerals.{add-one}
use Rattle.rounds.specs.Prepared.{graph_in}
use Rattle.rounds.proofs.Given.{given_at}
use Rattle.rounds.proofs.Joint.{started_all, started_more}
use Rattle.rounds.proofs.PreparedRun.initialize_all.Goals as goal

pub loop-j-preserved : goal.loop-j-preserved
loop-j-preserved c =
    let x = c.args.self.now in
    let l = c.loop-j in
    let h : l.j < x.paths = omega arith in (
      rw (add-one l.j)
          (started_more x.indexed.graph.bytes.now x.table l.j (omega (arith, x.few)) (given_at x l.j h) l.figures _ l.invariant.0
          c.initialize_at.ensures),
      c.initialize_at.auto.figures ∙ l.invariant.1,
    )

pub returns : goal.returns
returns c =
    let x = c.args.self.now in
    let l = c.loop-j in
    started_all (graph_in x) x.paths x.table x.few l.j l.figures l.invariant.0 (omega arith)
