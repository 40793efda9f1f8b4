use Prim.Native.Nat.{◌+◌, ◌*◌, ◌<◌, min}
use mathlib.Core.Path.{◌≡◌, refl, sym, ◌∙◌}
use native.Mathlib.Omega.{arith}
use lib.ListN.{set}
use Rattle.vertex_set.proofs.Sets.{met_least}
use Rattle.packed_figures.specs.Packed.{absent}
use Rattle.table.proofs.Lent.{above_stored, marks_stored, upto_more, upto_none, upto_passed}
use Rattle.table.proofs.unlend.Goals as goal

pub loop-m-init : goal.loop-m-init
loop-m-init c =
    let a = c.args in
    let l = a.figures.now in
    let f = c.first-m.ensures in
    let h = met_least l a.j 0 (omega arith) _ f in (
      h.most,
      f.above_is,
      upto_passed a.n (λ u. absent) l l 0 (min c.first-m.result.vertex a.n) (omega arith)
          (λ u k w. c.requires.3 u (omega arith) (h.none_before u k (omega arith))) (upto_none a.n (λ u. absent) l),
    )

pub loop-m-smaller : goal.loop-m-smaller
loop-m-smaller c =
    let l = c.loop-m in
    let a = c.args in
    let here : l.m.vertex < a.n = omega (arith, c.loop-m-test.true) in
    let h = met_least (set l.figures (32 + 8 * a.n + l.m.vertex) absent) a.j (l.m.vertex + 1) (omega (
      arith,
      here,
      c.requires.1,
    )) _
    c.after-m.ensures in
    omega (arith, here, c.requires.1, h.from)

pub loop-m-preserved : goal.loop-m-preserved
loop-m-preserved c =
    let a = c.args in
    let l = c.loop-m in
    let v = l.m.vertex in
    let base = a.figures.now in
    let now = set l.figures (32 + 8 * a.n + v) absent in
    let here : v < a.n = omega (arith, c.loop-m-test.true) in
    let f = c.after-m.ensures in
    let h = met_least now a.j (v + 1) (omega (arith, here, c.requires.1)) _ f in
    let at : min v a.n ≡ v = omega (arith, here) in
    let p = rw at at l.invariant.2 in
    let next = c.after-m.result.vertex in
    let same = marks_stored a.n (λ u. absent) base l.figures v p a.j c.requires.0 v absent in (
      h.most,
      λ k. f.above_is k ∙ above_stored a.n (λ u. absent) base l.figures v p a.j c.requires.0 v absent next k,
      upto_passed a.n (λ u. absent) base now (v + 1) (min next a.n) (omega (arith, here, h.from))
          (λ u k w. c.requires.3 u (omega arith) (sym (same u (omega (arith, c.requires.1))) ∙ h.none_before u k (omega arith)))
          (upto_more a.n (λ u. absent) base l.figures v absent (omega (arith, here, c.requires.2)) refl p),
    )
