use mathlib.Core.Path.{ap, ◌∙◌}
use mathlib.Core.List.{List}
use native.Mathlib.Omega.{arith}
use lib.Seq.{take_all}
use Rattle.draft.specs.Steps.{draft, put_list}
use Rattle.draft.proofs.Texts.{put_next, take_least}
use Rattle.packed_path.specs.declared.PackedPath.{PackedPath}
use Rattle.packed_path.specs.Packed.{no_path}
use Rattle.plan_form.specs.Form.{all_listed_text, listed_text}
use Rattle.plan_form.proofs.Written.{rows_short}
use Rattle.plan_form.proofs.put_rows.Goals as goal

pub loop-p-preserved : goal.loop-p-preserved
loop-p-preserved c =
    let l = c.loop-p in
    let a = c.args in
    rw (c.put_row-next.ensures, l.invariant) (put_next (listed_text a.version) (draft a.d.now a.at) _ l.p-index no_path c.loop-p-test.true)

pub returns : goal.returns
returns c =
    let l = c.loop-p in
    let a = c.args in
    let all = take_all l.p-index _ c.loop-p-test.false ∙ take_least a.paths c.min.result a.table (omega arith) in (
      l.invariant ∙ ap (λ (t : List PackedPath). put_list (draft a.d.now a.at) (all_listed_text a.version t)) all,
      rows_short a.version a.paths a.table (omega arith),
    )
