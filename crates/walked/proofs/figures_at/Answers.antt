use Prim.Native.Nat.{min}
use mathlib.Core.Path.{refl, sym, ◌∙◌}
use native.Mathlib.Omega.{arith}
use lib.ListN.{length-set}
use Rattle.walked.specs.Walked.{figures_at, sources_of, walks_to}
use Rattle.walked.proofs.Laws.{found_best, goes_first, goes_last, goes_next, goes_none, keys_fit}
use Rattle.walked.proofs.figures_at.Goals as goal

pub loop-passed-init : goal.loop-passed-init
unfolding figures_at
loop-passed-init c =
    let a = c.args in
    (refl, goes_first a.path.keys (min a.path.count 3) (walks_to a.rows.now (sources_of a.path) a.vertex a.most) (omega arith))

pub returns-in_default : goal.returns-in_default
returns-in_default c =
    let a = c.args in
    let l = c.loop-passed in
    let fits = keys_fit a.path _ c.well_formed.1.0 in
    let ws = walks_to a.rows.now (sources_of a.path) a.vertex a.most in
    let b = sym (found_best a.rows.now a.path a.vertex a.most l.best l.passed _ _ c.min.ensures c.standing.ensures)
    ∙ sym c.best_of-found.ensures in
    sym (goes_none a.path.keys (min a.path.count 3) ws l.best l.passed (omega arith) (omega arith) (b ∙ c.in_default.is)) ∙ l.invariant.1

pub loop-passed-preserved : goal.loop-passed-preserved
loop-passed-preserved c =
    let a = c.args in
    let l = c.loop-passed in
    let fits = keys_fit a.path _ c.well_formed.1.0 in
    let ws = walks_to a.rows.now (sources_of a.path) a.vertex a.most in
    let b = sym (found_best a.rows.now a.path a.vertex a.most l.best l.passed _ _ c.min.ensures c.standing.ensures)
    ∙ sym c.best_of-found.ensures in (
      length-set l.best l.passed _ ∙ l.invariant.0,
      sym (goes_next a.path.keys (min a.path.count 3) ws l.best l.passed (omega arith) (omega arith) _ (omega arith) (b ∙ c.in-Number.is))
          ∙ l.invariant.1,
    )

pub returns : goal.returns
returns c =
    let a = c.args in
    let l = c.loop-passed in
    let ws = walks_to a.rows.now (sources_of a.path) a.vertex a.most in
    sym (goes_last a.path.keys (min a.path.count 3) ws l.best l.passed (omega arith)) ∙ l.invariant.1
