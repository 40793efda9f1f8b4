use mathlib.Core.Path.{sym, ◌∙◌}
use native.Mathlib.Omega.{arith}
use Rattle.walked.proofs.Laws.{agrees_none, agrees_next, agrees_not}
use Rattle.walked.proofs.is_kept.Goals as goal

pub loop-i-init : goal.loop-i-init
loop-i-init c = agrees_none _ _ _

pub returns-then-figure_of-k : goal.returns-then-figure_of-k
returns-then-figure_of-k c =
    let a = c.args in
    sym (agrees_not a.k.path.keys a.k.best a.w c.loop-i.i a.k.passed (omega arith)
    (λ e. c.if-figure_of-k.true (c.figure_of.ensures ∙ e)))

pub loop-i-preserved : goal.loop-i-preserved
loop-i-preserved c =
    let l = c.loop-i in
    agrees_next _ _ _ l.i l.invariant (sym c.figure_of.ensures ∙ c.if-figure_of-k.false)
