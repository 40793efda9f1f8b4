use mathlib.Core.Path.{ap, ◌∙◌}
use native.Mathlib.Omega.{arith}
use lib.ListN.{length}
use Rattle.draft.proofs.Texts.{delivered}
use Rattle.query_form.specs.Form.{write_reply}
use Rattle.query_form.proofs.write.Goals as goal

pub returns : goal.returns
unfolding write_reply
returns c =
    let found = c.front-text in
    let put = c.put_form-n in
    let room = length c.args.out.now in
    let text = found.ensures ∙ put.ensures.0 in
    rw (← text, ← c.judge.ensures, ← delivered found.result.now _ room (omega (arith, put.ensures.1, ap length text))) c.deliver_judged.ensures
