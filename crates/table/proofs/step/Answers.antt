use native.Mathlib.Omega.{arith}
use mathlib.Core.Path.{◌∙◌}
use Rattle.table.proofs.Rounds.{inside, lends_not, stepped, walk_blank, walk_ready}
use Rattle.table.proofs.step.Goals as goal

pub walk-requires : goal.walk-requires
walk-requires c =
    let a = c.args in
    let t = rw c.vertices-n.ensures.0 at
    c.touch.ensures in
    rw c.clear.ensures (
      walk_ready (inside a.indexed.now) a.c a.j a.figures.now a.work.now c.requires _ _ t,
      walk_blank (inside a.indexed.now) a.c a.j a.figures.now a.work.now c.requires _ _ t,
    )

pub unlend-requires : goal.unlend-requires
unlend-requires c =
    let a = c.args in
    let v = c.vertices-n.ensures in
    let t = rw v.0 at c.touch.ensures in
    let p = rw c.clear.ensures at
    c.walk.ensures in (
      c.requires.slot,
      v.1,
      omega (arith, v.0, c.requires.table_fits, t.relent.size, p.size),
      rw v.0
          (lends_not (inside a.indexed.now) a.c a.j a.figures.now a.work.now c.requires _ _ t _ _ p),
    )

pub returns : goal.returns
returns c =
    let a = c.args in
    let e = c.vertices-n.ensures.0 in
    let t = rw e at c.touch.ensures in
    let p = rw c.clear.ensures at c.walk.ensures
    in
    let z = rw e at c.unlend.ensures in (
      rw (c.mark.ensures.0, c.mark.ensures.1)
          (stepped (inside a.indexed.now) a.c a.j a.figures.now a.work.now c.requires _ _ t _ _ p _ z),
      c.walk.auto.work ∙ c.clear.auto.words ∙ c.touch.auto.work,
    )
