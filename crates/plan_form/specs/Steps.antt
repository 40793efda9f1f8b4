-- The reader as the program goes. Nothing to believe: `read_steps` (proofs/Exact) says that of all bytes it gives `plan_judged`.
use Rattle.std.specs.Prelude.{ℕ, ◌+◌, min, cond, List, Result, Ok, Err, eqb, get_or}
use Rattle.nodes.specs.Steps.{nodes_read}
use Rattle.plan.specs.Plan.{count_at}
use Rattle.progress.specs.Progress.{Scan}
use Rattle.plan_form.specs.declared.Form.{Form}

-- the typed form, from what the scan of the bytes has found
unfoldable pub form_after : List ℕ → Scan → Form
form_after s w =
    let count = min w.terms 64 + min w.reductions 8 in
    record {
      version = get_or s 3 0;
      kind = get_or s 5 0;
      paths = min w.paths 8;
      table = w.table;
      entries = min w.reductions 8;
      count = count;
      nodes = nodes_read count s (count_at s + 1);
    }

-- the whole reading: the typed form, or the number of the refusal
unfoldable pub judged_after : List ℕ → Scan → Result Form ℕ
judged_after s w = cond (eqb w.code 0) (Ok (form_after s w)) (Err w.code)
