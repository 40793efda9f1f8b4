use Prim.Native.Nat.{ℕ, suc, ◌+◌, ◌-◌, ◌*◌, ◌≤◌, ◌<◌}
use mathlib.Core.Path.{◌≡◌, refl, ◌∙◌, subst}
use native.Mathlib.Omega.{arith}
use lib.ListN.{length}
use Rattle.wire.specs.Wire.{at16}
use Rattle.graph.specs.Graph.{edge_in}
use Rattle.incoming.specs.Incoming.{Successors, Threaded}
use Rattle.incoming.proofs.Ends.{ends}
use Rattle.incoming.proofs.Sizes.{few_vertices}
use Rattle.incoming.proofs.Threads.{successors_more, successors_none, threaded_more, threaded_none}
use Rattle.incoming.proofs.index.Goals as goal

pub loop-i-init : goal.loop-i-init
loop-i-init c =
    let s = c.args.graph.bytes.now in
    let m = c.rows-m.ensures.0 in
    let n = c.vertices.ensures.0 in
    let e = c.blank.ensures in (
      refl,
      refl,
      refl,
      rw m (threaded_none s _ _ (λ v h. e.0 v (rw n h) ∙ m)),
      rw m (successors_none s _ (λ f t h g. e.1 f t (rw n h) g)),
    )

pub loop-i-preserved : goal.loop-i-preserved
loop-i-preserved c =
    let a = c.args.graph in
    let g = a.bytes.now in
    let l = c.loop-i in
    let t = c.thread in
    let e : l.i ≡ suc (l.i - 1) = omega arith in
    let there : l.i - 1 < at16 g 7 = omega (arith, c.rows-m.ensures.0) in
    let x = ends g a.bytes_fit a.accepted (l.i - 1) there in
    let heads : (edge_in g (l.i - 1)).to < length l.heads = omega (arith, x.1, c.requires.0, l.invariant.0) in
    let nexts : l.i - 1 < length l.nexts = omega (arith, c.requires.1, l.invariant.1) in
    let sets : 4 * (edge_in g (l.i - 1)).from + 4 ≤ length l.successors = omega (arith, x.0, c.requires.2, l.invariant.2) in (
      t.auto.heads ∙ l.invariant.0,
      t.auto.nexts ∙ l.invariant.1,
      t.auto.successors ∙ l.invariant.2,
      rw (t.ensures.0, t.ensures.1)
          (threaded_more g (l.i - 1) there l.heads l.nexts heads x.1 nexts (subst (λ (y : ℕ). Threaded g y l.heads l.nexts) e l.invariant.3)),
      rw t.ensures.2
          (successors_more g (l.i - 1) there l.successors x.0 (omega (arith, x.1, few_vertices g a.accepted)) sets
          (subst (λ (y : ℕ). Successors g y l.successors) e l.invariant.4)),
    )
