use Prim.Native.Nat.{ℕ}
use mathlib.Core.List.{List}
use mathlib.Core.Path.{sym, ap, ◌∙◌}
use native.Mathlib.Omega.{arith}
use Rattle.value.specs.declared.Row.{Row}
use Rattle.eval.specs.Steps.{entry_found, slot_number}
use Rattle.eval.proofs.Laws.{lone}
use Rattle.table.specs.Table.{value_in}
use Rattle.rows.proofs.Laws.{leaves_at, lone_value}
use Rattle.rows.proofs.Body.entry_at.Goals as goal

pub overflow_add-result : goal.overflow_add-result
overflow_add-result c =
    let a = c.args in
    let slot = sym c.requires.0 ∙ ap slot_number c.in-Some.is in
    omega (arith, (lone a.self.now.plan.now a.self.now.slots.now a.at (omega (arith, slot, c.if-slot-lt8.true))).there)

pub returns-in-Some : goal.returns-in-Some
returns-in-Some c =
    let a = c.args in
    let body = a.self.now in
    let slot = sym c.requires.0 ∙ ap slot_number c.in-Some.is in
    let l = lone body.plan.now body.slots.now a.at (omega (arith, slot, c.if-slot-lt8.true)) in (
      c.value_at.ensures ∙ ap (λ (j : ℕ). value_in body.figures.now j a.v) (sym slot)
          ∙ lone_value body.plan.now body.figures.now body.slots.now a.at a.v l,
      sym l.end,
    )

pub returns-in_default : goal.returns-in_default
returns-in_default c =
    let a = c.args in
    let body = a.self.now in
    let found = c.entry.ensures in
    let rows = leaves_at body.figures.now body.slots.now a.v c.min-from.result c.min-to.result c.requires.1 c.min-from.ensures c.min-to.ensures in
    (found.0 ∙ ap (λ (rows : List Row). entry_found body.plan.now rows a.at) rows, found.1)
