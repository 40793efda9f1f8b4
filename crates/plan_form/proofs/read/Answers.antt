use mathlib.Core.Path.{◌≡◌, sym, ap, ◌∙◌}
use native.Mathlib.Omega.{arith}
use Rattle.progress.specs.Progress.{Scan}
use Rattle.plan.specs.Plan.{plan_code}
use Rattle.plan_form.specs.Steps.{form_after}
use Rattle.plan_form.proofs.Exact.{read_steps_accepted}
use Rattle.plan_form.proofs.read.Goals as goal

pub returns-clause-ok : goal.returns-clause-ok
unfolding form_after
returns-clause-ok c =
    let s = c.args.s.now in
    let found = c.in_ok-found.ensures in
    let accepted : plan_code s ≡ 0 = sym (ap (λ (w : Scan). w.code) found) in
    rw (
      c.read_nodes-nodes.ensures,
      c.count_at.ensures.0,
      c.byte.ensures,
      c.byte-2.ensures,
      c.min.ensures,
      c.min-2.ensures,
      c.min-entries.ensures,
    ) (ap (form_after s) found ∙ read_steps_accepted s (λ i. omega (arith, c.type_inv.s i)) accepted)
