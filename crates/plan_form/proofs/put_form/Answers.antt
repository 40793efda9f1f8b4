use mathlib.Core.Path.{◌≡◌, sym, ◌∙◌}
use mathlib.Core.List.{◌∷◌, []}
use native.Mathlib.Omega.{arith}
use lib.ListN.{take, length-append}
use Rattle.draft.specs.Steps.{draft, put_list}
use Rattle.draft.proofs.Drafts.{drafted, put_append}
use Rattle.nodes.specs.Text.{nodes_text}
use Rattle.wire.specs.Header.{header_bytes}
use Rattle.plan_form.specs.Form.{all_listed_text, form_bytes}
use Rattle.plan_form.proofs.put_form.Goals as goal

pub returns : goal.returns
unfolding put_list form_bytes
returns c =
    let a = c.args in
    let f = a.form.now in
    let all = all_listed_text f.version (take f.paths f.table) in
    let rest = nodes_text (take f.count f.nodes) in
    let start = put_list (put_list (draft a.d.now 0) (header_bytes 0x57 f.version)) (f.kind ∷ f.paths ∷ []) in
    let made : draft c.put_nodes.new.d c.put_nodes.result ≡ put_list (draft a.d.now 0) (form_bytes f) =
    c.put_nodes.ensures.0
    ∙ rw (c.put-first.ensures, c.put_rows-behind.ensures.0, c.put_two-seventh.ensures, c.header-fifth.ensures)
    (sym (put_append all (f.entries ∷ rest) start)) in
    let few = length-append all (f.entries ∷ rest) in (
      drafted (form_bytes f) a.d.now (omega (arith, c.put_nodes.ensures.1, c.put_rows-behind.ensures.1, few, c.requires)) c.put_nodes.new.d
          c.put_nodes.result made,
      omega (arith, c.put_nodes.ensures.1, c.put_rows-behind.ensures.1, few),
    )
