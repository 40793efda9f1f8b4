use Prim.Native.Nat.{ℕ, ◌<◌}
use mathlib.Core.Path.{◌≡◌, refl, sym, ap, ap₂, ◌∙◌}
use mathlib.Core.List.{List}
use native.Mathlib.Numerals.{add-one}
use native.Mathlib.Omega.{arith}
use lib.ListN.{set}
use Rattle.value.specs.declared.Row.{Row}
use Rattle.eval.specs.declared.Found.{Found}
use Rattle.eval.specs.Steps.{entries_end, entry_end, evaluated, final_found, rows_in}
use Rattle.eval.proofs.Fill.{filled}
use Rattle.rows.specs.Steps.{rows_at}
use Rattle.rows.proofs.Laws.{absent_slot, absent_word, end_next, end_none, number_slot, number_word, result_at, result_slot, result_word, results_leaves}
use Rattle.rows.proofs.Body.final_of.Goals.{in-Number, in_default}
use Rattle.rows.proofs.Body.final_of.Goals as goal

pub loop-k-init : goal.loop-k-init
loop-k-init c = (end_none c.args.self.now.plan.now c.args.at, refl, refl)

pub loop-k-preserved : goal.loop-k-preserved
loop-k-preserved c =
    let a = c.args in
    let l = c.loop-k in
    let plan : List ℕ = a.self.now.plan.now in
    let F : ℕ → List Row = rows_at a.self.now.figures.now a.self.now.slots.now 8 in
    let result = c.result_of-result.ensures in
    let next = result.1 ∙ ap (entry_end plan) l.invariant.0 ∙ end_next plan l.k a.at
    ∙ ap (λ (k : ℕ). entries_end k plan a.at) (sym (add-one l.k)) in
    let one = sym (ap (result_at plan F a.self.now.n) l.invariant.0) ∙ sym result.0 in
    let some : l.k < 8 = omega (arith, c.requires) in
    elim c.match-result.branch [
      | in-Number w ↦ (
        next,
        w.words-is ∙ ap (λ (words : List ℕ). set words l.k w.in-Number.x) l.invariant.1
            ∙ number_word plan F a.self.now.n a.at l.k some w.in-Number.x (one ∙ w.in-Number.is),
        w.places-is ∙ ap (λ (places : List ℕ). set places l.k l.k) l.invariant.2
            ∙ number_slot plan F a.self.now.n a.at l.k some w.in-Number.x (one ∙ w.in-Number.is),
      )
      | in_default w ↦ (
        next,
        w.words-is ∙ l.invariant.1 ∙ absent_word plan F a.self.now.n a.at l.k some (one ∙ w.in_default.is),
        w.places-is ∙ l.invariant.2 ∙ absent_slot plan F a.self.now.n a.at l.k some (one ∙ w.in_default.is),
      )
    ]

pub returns : goal.returns
unfolding final_found
returns c =
    let a = c.args in
    let l = c.loop-k in
    let plan : List ℕ = a.self.now.plan.now in
    let F : ℕ → List Row = rows_at a.self.now.figures.now a.self.now.slots.now 8 in
    let e : l.k ≡ a.e = omega arith in
    let leaves = ap₂ (λ (words places : List ℕ). rows_in words places 0) l.invariant.1 l.invariant.2
    ∙ ap (λ (k : ℕ). rows_in (filled 8 (result_word plan F a.self.now.n a.at) 0 k) (filled 8 (result_slot plan F a.self.now.n a.at) 8 k) 0) e
    ∙ results_leaves plan F a.self.now.n a.at a.e c.requires in
    ap (λ (f : Found). f.value)
    (c.evaluate.ensures ∙ ap₂ (evaluated 16 plan) leaves (l.invariant.0 ∙ ap (λ (k : ℕ). entries_end k plan a.at) e))
