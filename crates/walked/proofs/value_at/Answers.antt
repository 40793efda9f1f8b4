use Prim.Native.Nat.{min}
use mathlib.Core.Path.{refl}
use borrow.Author.Tests.{lt-ltb, le-ltb}
use Rattle.walked.proofs.Laws.{keys_fit, value_padded}
use Rattle.walked.proofs.value_at.Goals as goal

pub returns-in_default : goal.returns-in_default
returns-in_default c =
    let a = c.args in
    let e = value_padded a.rows.now a.path a.vertex a.most (min a.path.count 3) c.figures_at.result (keys_fit a.path _ c.well_formed.1.0) refl
    c.figures_at.ensures in
    rw c.in_default.is at e

pub returns-then-count-gt0 : goal.returns-then-count-gt0
returns-then-count-gt0 c =
    let a = c.args in
    let e = value_padded a.rows.now a.path a.vertex a.most c.min-count.result c.figures_at.result (keys_fit a.path _ c.well_formed.1.0)
    c.min-count.ensures c.figures_at.ensures in
    rw (c.in-Some.is, lt-ltb _ _ c.if-count-gt0.true) at e

pub returns-else-count-gt0 : goal.returns-else-count-gt0
returns-else-count-gt0 c =
    let a = c.args in
    let e = value_padded a.rows.now a.path a.vertex a.most c.min-count.result c.figures_at.result (keys_fit a.path _ c.well_formed.1.0)
    c.min-count.ensures c.figures_at.ensures in
    rw (c.in-Some.is, le-ltb _ _ c.if-count-gt0.false) at e
