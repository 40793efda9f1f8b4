use Prim.Native.Nat.{ℕ, ◌+◌, ◌<◌}
use mathlib.Core.Path.{◌≡◌, sym, ◌∙◌}
use mathlib.Core.List.{List}
use native.Mathlib.Omega.{arith}
use Rattle.vertex_set.specs.Sets.{above}
use Rattle.vertex_set.proofs.Sets.{met_least}
use Rattle.packed_figures.specs.declared.PathConstants.{PathConstants}
use Rattle.table.specs.Steps.{Walked, lent_in, moves, walked_mark}
use Rattle.table.proofs.Cells.{marked_above}
use Rattle.table.proofs.Walks.{passed, walked_more, walked_none}
use Rattle.table.proofs.walk.Goals as goal

-- the digits above a vertex that is walked
above_kept : (s : List ℕ) (c : PathConstants) (j : ℕ) (l work : List ℕ) (v : ℕ) → v < 256 → above (walked_mark s c j l work v) 0 v ≡ above work
    0 v
unfolding walked_mark
above_kept s c j l work v h = marked_above (moves s c j (lent_in s l) l v) work 1 v 0 v h (omega arith)

pub loop-m-init : goal.loop-m-init
loop-m-init c =
    let a = c.args in
    let slot = c.requires.0.slot in
    let f = c.first-m.ensures in
    let h = met_least a.work.now 0 0 (omega arith) _ f in (
      h.most,
      h.passes,
      passed a.indexed.now.graph.bytes.now a.c a.j slot a.figures.now a.work.now a.figures.now a.work.now 0 _
          (λ u k l. h.none_before u k l) h.from (walked_none a.indexed.now.graph.bytes.now a.c a.j slot a.figures.now a.work.now c.requires.1),
      f.above_is,
    )

pub after-m-requires : goal.after-m-requires
after-m-requires c =
    let l = c.loop-m in
    let t = c.walk_at in
    let small : l.m.vertex < 256 = omega (arith, c.loop-m-test.true) in (
      small,
      rw t.ensures.1 (l.invariant.3 small ∙ sym (above_kept c.args.indexed.now.graph.bytes.now c.args.c c.args.j l.figures l.work l.m.vertex small)),
      omega (arith, t.auto.work, l.invariant.2.room, c.requires.0.work_fits),
    )

pub loop-m-smaller : goal.loop-m-smaller
loop-m-smaller c =
    let l = c.loop-m in
    let small : l.m.vertex < 256 = omega (arith, c.loop-m-test.true) in
    let h = met_least c.walk_at.new.work 0 (l.m.vertex + 1) (omega (arith, small)) _
    c.after-m.ensures in
    omega (arith, small, h.from)

pub loop-m-preserved : goal.loop-m-preserved
loop-m-preserved c =
    let a = c.args in
    let slot = c.requires.0.slot in
    let l = c.loop-m in
    let v = l.m.vertex in
    let t = c.walk_at in
    let figures : List ℕ = t.new.figures in
    let work : List ℕ = t.new.work in
    let p = l.invariant.2 in
    let small : v < 256 = omega (arith, c.loop-m-test.true) in
    let m = l.invariant.1 small in
    let vertex = c.requires.0.walked_fit v small (sym (p.chosen v small) ∙ m) in
    let walked : Walked a.indexed.now.graph.bytes.now a.c a.j a.figures.now a.work.now figures work (v + 1) =
    rw (t.ensures.0, t.ensures.1)
    (walked_more a.indexed.now.graph.bytes.now a.c a.j slot a.figures.now a.work.now l.figures l.work v p
    (omega (arith, slot, vertex, c.requires.0.lends.table_fits)) c.requires.0.work_fits small vertex m) in
    let f = c.after-m.ensures in
    let h = met_least work 0 (v + 1) (omega (arith, small)) _ f in (
      h.most,
      h.passes,
      passed a.indexed.now.graph.bytes.now a.c a.j slot a.figures.now a.work.now figures work (v + 1) _ (λ u k w. h.none_before u k w) h.from walked,
      f.above_is,
    )
