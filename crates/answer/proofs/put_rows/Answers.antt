use Prim.Native.Nat.{ℕ, ◌+◌, ◌*◌, ◌<◌}
use mathlib.Core.Path.{◌≡◌, ◌∙◌}
use mathlib.Core.List.{List}
use native.Mathlib.Omega.{arith}
use lib.ListN.{get_or, length, take}
use lib.Seq.{sets}
use Rattle.value.specs.declared.Row.{Row}
use Rattle.value.specs.declared.Value.TheVariants.{Absent}
use Rattle.value.specs.Value.{values}
use Rattle.answer.specs.Answer.{row_bytes, rows_bytes}
use Rattle.answer.proofs.Bytes.{row_more}
use Rattle.answer.proofs.put_rows.Goals as goal

abbrev blank : Row
blank = record { value = Absent }

-- row i at any number that is its place: a wrong place is refused as such
row_at : (out : List ℕ) (rows : List Row) (i at : ℕ) (d : Row) → at ≡ 10 + 9 * i → i < length rows →
    sets (sets out 10 (rows_bytes (values (take i rows)))) at (row_bytes (get_or rows i d).value)
    ≡ sets out 10 (rows_bytes (values (take (i + 1) rows)))
row_at out rows i at d e h = rw e (row_more out rows i d h)

pub loop-i-preserved : goal.loop-i-preserved
loop-i-preserved c =
    let a = c.args in
    let l = c.loop-i in
    c.put_row.ensures ∙ rw l.invariant (row_at a.out.now a.rows.now l.i _ blank (omega arith) (omega arith))
