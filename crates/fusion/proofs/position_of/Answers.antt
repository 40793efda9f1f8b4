use mathlib.Core.Path.{sym, ◌∙◌}
use native.Mathlib.Omega.{arith}
use Rattle.fusion.proofs.Parts.{index_here, index_next, index_none}
use Rattle.fusion.proofs.position_of.Goals as goal

pub returns-then-same : goal.returns-then-same
returns-then-same c =
    let l = c.loop-i in
    let a = c.args in
    (sym (index_here a.p a.table l.i (omega arith) (sym c.if-same.ensures)) ∙ l.invariant, omega arith)

pub loop-i-preserved : goal.loop-i-preserved
loop-i-preserved c =
    let l = c.loop-i in
    let a = c.args in
    sym (index_next a.p a.table l.i (omega arith) (sym c.if-same.ensures)) ∙ l.invariant

pub returns : goal.returns
returns c =
    let l = c.loop-i in
    let a = c.args in
    (omega (arith, index_none a.p a.table l.i (omega arith), l.invariant), omega arith)
