use Prim.Native.Nat.{◌+◌, ◌*◌, ◌-◌, ◌/◌}
use mathlib.Core.Path.{◌≡◌, sym, ap, ◌∙◌}
use mathlib.Core.List.{foldl}
use native.Mathlib.Omega.{arith}
use lib.ListN.{length, get_or}
use Rattle.value.specs.declared.Value.{Value}
use Rattle.walked.specs.declared.Walk.{Walk}
use Rattle.walked.specs.Steps.{judged}
use Rattle.walked.specs.Walked.{longer, walks}
use Rattle.walked.proofs.Laws.{over, over_none, over_next, over_skip, walks_none, walks_next}
use Rattle.walked.proofs.+best_of.Goals as goal

pub returns-then-left-eq0 : goal.returns-then-left-eq0
returns-then-left-eq0 t c =
    let a = c.args in
    c.judged-best.ensures ∙ sym (ap (foldl (judged a.k) a.found) (walks_none a.rows.now a.left a.w c.if-left-eq0.true))

pub loop-i-init : goal.loop-i-init
loop-i-init t c = sym (over_none _ _ _ _ _)

pub loop-i-preserved-then-rows-j : goal.loop-i-preserved-then-rows-j
loop-i-preserved-then-rows-j t c = c.loop-i.invariant ∙ over_skip _ _ _ _ _ c.loop-i.i c.if-rows-j.true

pub loop-i-preserved : goal.loop-i-preserved
loop-i-preserved t c =
    let a = c.args in
    let l = c.loop-i in
    let rows = a.rows.now in
    c.best_of-best.ensures
    ∙ ap (λ (w : Walk). foldl (judged a.k) l.best (walks rows (a.left - 1) w)) c.longer-more.ensures.0
    ∙ ap (λ (b : Value). foldl (judged a.k) b
    (walks rows (a.left - 1) (longer a.w (get_or rows (4 * l.i) 0) (get_or rows (4 * l.i + 2) 0) (get_or rows (4 * l.i + 3) 0)))) l.invariant
    ∙ over_next rows a.k a.w (a.left - 1) _ l.i c.if-rows-j.false

pub returns : goal.returns
returns t c =
    let a = c.args in
    let l = c.loop-i in
    let rows = a.rows.now in
    let e : l.i ≡ length rows / 4 = omega arith in
    l.invariant
    ∙ ap (over rows a.k a.w (a.left - 1) _) e
    ∙ ap (λ (b : Value). over rows a.k a.w (a.left - 1) b (length rows / 4)) c.judged-best.ensures
    ∙ sym (ap (foldl (judged a.k) a.found) (walks_next rows a.left a.w c.if-left-eq0.false))
