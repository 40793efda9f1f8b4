use mathlib.Core.Path.{◌≡◌}
use lib.ListN.{take}
use lib.Seq.{sets}
use Rattle.value.specs.Value.{values}
use Rattle.answer.specs.Answer.{rows_bytes}
use Rattle.answer.proofs.put_rows.Given as goal

abbrev pub invariant-loop-i : goal.invariant-loop-i
invariant-loop-i l = l.out ≡ sets l.initial.out 10 (rows_bytes (values (take l.i l.rows)))
