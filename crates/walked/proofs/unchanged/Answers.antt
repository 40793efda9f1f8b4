use mathlib.Core.Path.{sym, ◌∙◌}
use native.Mathlib.Omega.{arith}
use Rattle.walked.proofs.Laws.{not_back, same_few, unchanged_next, unchanged_none, unchanged_not}
use Rattle.walked.proofs.unchanged.Goals as goal

pub loop-v-init : goal.loop-v-init
loop-v-init c = unchanged_none _ _ _

pub loop-v-preserved : goal.loop-v-preserved
loop-v-preserved c =
    let a = c.args in
    let v = c.loop-v.v in
    let e = same_few a.rows.now a.path a.before c.min-few.result v _ _ c.min-few.ensures c.figures_at-a.ensures c.figures_at-b.ensures in
    unchanged_next _ _ _ v c.loop-v.invariant (sym e ∙ not_back _ _ (sym c.ne.ensures ∙ c.if-ne.false))

pub returns-then-ne : goal.returns-then-ne
returns-then-ne c =
    let a = c.args in
    let v = c.loop-v.v in
    let e = same_few a.rows.now a.path a.before c.min-few.result v _ _ c.min-few.ensures c.figures_at-a.ensures c.figures_at-b.ensures in
    sym (unchanged_not a.rows.now a.path a.before v a.n (omega arith) (sym e ∙ not_back _ _ (sym c.ne.ensures ∙ c.if-ne.true)))
