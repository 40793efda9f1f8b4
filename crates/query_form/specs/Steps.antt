-- The reader as the program goes. Nothing to believe: `read_steps` (proofs/Exact) says that of all bytes it gives `query_judged`.
use Rattle.std.specs.Prelude.{ℕ, cond, List, Result, Ok, Err, eqb, get_or}
use Rattle.nodes.specs.Steps.{nodes_read}
use Rattle.progress.specs.Progress.{Scan}
use Rattle.query_form.specs.declared.Form.{Form}
use Rattle.query_form.specs.declared.Reading.{Reading}

-- the typed form, of so many terms
unfoldable pub form_after : List ℕ → ℕ → Form
form_after s count = record { kind = get_or s 5 0; count = count; nodes = nodes_read count s 6 }

-- the whole reading of accepted bytes, from what the scan of the bytes has found
unfoldable pub read_after : List ℕ → Scan → Reading
read_after s w = record { form = form_after s w.terms; paths = w.paths; table = w.table; reductions = w.reductions }

-- of all bytes: that reading, or the number of the refusal
unfoldable pub judged_after : List ℕ → Scan → Result Reading ℕ
judged_after s w = cond (eqb w.code 0) (Ok (read_after s w)) (Err w.code)
