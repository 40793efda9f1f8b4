use Prim.Native.Nat.{◌-◌}
use mathlib.Core.Path.{◌≡◌, refl, sym, ap}
use native.Mathlib.Omega.{arith}
use lib.ListN.{get_or}
use Rattle.progress.specs.Progress.{going}
use Rattle.terms.specs.Terms.{Step, advanced}
use Rattle.terms.proofs.Reading.{read_several, tagged_counts}
use Rattle.terms.proofs.+read_on.Goals as goal

pub overflow_add-w : goal.overflow_add-w
unfolding advanced
overflow_add-w t c =
    let a = c.args in
    let e = c.in_ok-term.ensures in
    let counts = (tagged_counts (going a.w.now) a.kind (get_or a.s.now a.w.now.at 0) a.s.now (ap (λ (x : Step). x.progress.code) (sym e))).0 in
    let terms = ap (λ (x : Step). x.progress.terms) e in
    omega (arith, counts, terms)

pub loop-init : goal.loop-init
unfolding advanced
loop-init t c =
    let a = c.args in
    let f = c.in_ok-term.term.follow in
    let all : f - 0 ≡ f = omega arith in
    rw all (read_several a.kind a.left a.s.now (going a.w.now) refl c.if-s-w.false c.if-w-ge64.false c.if-left-eq0.false _ c.in_ok-term.ensures refl)
