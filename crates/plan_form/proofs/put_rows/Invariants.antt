use mathlib.Core.Path.{◌≡◌}
use lib.ListN.{take}
use Rattle.draft.specs.Steps.{draft, put_list}
use Rattle.plan_form.specs.Form.{all_listed_text}
use Rattle.plan_form.proofs.put_rows.Given as goal

abbrev pub invariant-loop-p : goal.invariant-loop-p
invariant-loop-p l = draft l.d l.next ≡ put_list (draft l.initial.d l.at) (all_listed_text l.version (take l.p-index l.p-items))
