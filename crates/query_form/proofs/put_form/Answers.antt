use mathlib.Core.Path.{◌≡◌, refl, ◌∙◌}
use native.Mathlib.Omega.{arith}
use Rattle.draft.specs.Steps.{draft, put_list}
use Rattle.draft.proofs.Drafts.{drafted}
use Rattle.query_form.specs.Form.{form_bytes}
use Rattle.query_form.proofs.put_form.Goals as goal

pub returns : goal.returns
unfolding put_list form_bytes
returns c =
    let a = c.args in
    let text = form_bytes a.form.now in
    let made : draft c.put_nodes.new.d c.put_nodes.result ≡ put_list (draft a.d.now 0) text =
    c.put_nodes.ensures.0 ∙ rw (c.put-start.ensures, c.header-fifth.ensures) refl in (
      drafted text a.d.now (omega (arith, c.put_nodes.ensures.1)) c.put_nodes.new.d c.put_nodes.result made,
      omega (arith, c.put_nodes.ensures.1),
    )
