use mathlib.Core.Path.{◌≡◌, sym, ap, ◌∙◌}
use native.Mathlib.Omega.{arith}
use Rattle.progress.specs.Progress.{Scan}
use Rattle.query.specs.Query.{query_code}
use Rattle.query_form.specs.Steps.{form_after, read_after}
use Rattle.query_form.proofs.Exact.{read_steps_accepted}
use Rattle.query_form.proofs.read.Goals as goal

pub returns-clause-ok : goal.returns-clause-ok
unfolding read_after form_after
returns-clause-ok c =
    let s = c.args.s.now in
    let found = c.in_ok-found.ensures in
    let accepted : query_code s ≡ 0 = sym (ap (λ (w : Scan). w.code) found) in
    rw (c.read_nodes-nodes.ensures, c.byte.ensures) (ap (read_after s) found ∙ read_steps_accepted s (λ i. omega (arith, c.type_inv.s i)) accepted)
