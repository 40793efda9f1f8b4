use native.Mathlib.Omega.{arith}
use mathlib.Core.Path.{◌≡◌, refl, sym, ◌∙◌}
use native.Mathlib.Numerals.{add-one}
use Rattle.rounds.specs.Prepared.{graph_in}
use Rattle.rounds.proofs.Joint.{ran_quiet, ran_spent}
use Rattle.rounds.proofs.PreparedRun.rounds.Goals as goal

pub returns-then-not-changed : goal.returns-then-not-changed
returns-then-not-changed c =
    let x = c.args.self.now in
    let l = c.loop-r in
    let t = c.round-changed.ensures in (
      rw (add-one l.r)
          (ran_quiet (graph_in x) x.paths x.table x.few c.args.limit l.r _ (omega arith) t.0 l.invariant.1
          (sym c.if-not-changed.true ∙ t.1)),
      t.2 ∙ l.invariant.3,
    )

pub returns : goal.returns
returns c =
    let x = c.args.self.now in
    let l = c.loop-r in
    let e : l.r ≡ c.args.limit = omega arith in
    (rw (sym e) (ran_spent (graph_in x) x.paths x.table x.few l.r l.r _ refl l.invariant.0 l.invariant.1), l.invariant.3)
