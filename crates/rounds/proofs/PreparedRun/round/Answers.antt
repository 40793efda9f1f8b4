use native.Mathlib.Omega.{arith}
use Prim.Native.Nat.{◌<◌}
use mathlib.Core.Path.{refl, ◌∙◌}
use native.Mathlib.Numerals.{add-one}
use Rattle.rounds.specs.Prepared.{graph_in}
use Rattle.rounds.proofs.Joint.{upto_all, upto_more, upto_none}
use Rattle.rounds.proofs.PreparedRun.round.Goals as goal

pub loop-j-init : goal.loop-j-init
loop-j-init c =
    let x = c.args.self.now in
    (upto_none (graph_in x) x.paths x.table x.few c.args.r c.args.figures.now c.requires.0, refl, refl)

pub advance-moved-requires : goal.advance-moved-requires
advance-moved-requires c =
    let l = c.loop-j in
    let h : l.j < c.args.self.now.paths = omega arith in
    (h, l.invariant.0.waits l.j (omega arith) h, omega (arith, l.invariant.2, c.requires.1))

pub loop-j-preserved : goal.loop-j-preserved
loop-j-preserved c =
    let x = c.args.self.now in
    let l = c.loop-j in
    let t = c.advance-moved in
    let h : l.j < x.paths = omega arith in (
      rw (add-one l.j)
          (upto_more (graph_in x) x.paths x.table x.few c.args.r l.j h (omega (arith, h, x.few, x.wide)) l.figures _ l.changed t.result
          l.invariant.0 t.ensures.0),
      t.auto.figures ∙ l.invariant.1,
      t.ensures.1 ∙ l.invariant.2,
    )

pub returns : goal.returns
returns c =
    let x = c.args.self.now in
    let l = c.loop-j in
    let u = upto_all (graph_in x) x.paths x.table x.few c.args.r l.j l.figures l.changed (omega arith) l.invariant.0 in
    (u.0, u.1, l.invariant.2)
