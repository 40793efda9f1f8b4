use mathlib.Core.Path.{◌≡◌, sym, ap, ◌∙◌}
use native.Mathlib.Omega.{arith}
use lib.ListN.{length}
use Rattle.plan_form.specs.declared.Form.{Form}
use Rattle.plan_form.specs.Form.{write_reply}
use Rattle.fusion.specs.Fusion.{fuse_reply}
use Rattle.fusion.specs.Steps.{fused_form}
use Rattle.fusion.proofs.Exact.{fuse_steps}
use Rattle.fusion.proofs.Refusal.{reply_written}
use Rattle.fusion.proofs.fuse.Goals as goal

pub returns : goal.returns
returns c =
    let s = c.args.query.now in
    let room = length c.args.out.now in
    let read = c.in_ok-read.ensures in
    let e : fuse_reply s room ≡ write_reply c.fused_form_of.result room =
    sym (fuse_steps s (λ i. omega (arith, c.type_inv.query i)) room)
    ∙ reply_written s room (sym read.code)
    ∙ ap (λ (x : Form). write_reply x room) (sym (c.fused_form_of.ensures ∙ ap fused_form read.ok)) in
    rw e c.write.ensures
