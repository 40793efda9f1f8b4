use Prim.Native.Nat.{ℕ, ◌+◌}
use mathlib.Core.Path.{◌≡◌, ap, ◌∙◌}
use native.Mathlib.Numerals.{add-one}
use native.Mathlib.Omega.{arith}
use lib.ListN.{set, length-set}
use lib.Seq.{sets}
use Rattle.wire.specs.Wire.{le64}
use Rattle.answer.proofs.Bytes.{le64_bytes, put_sets}
use Rattle.answer.proofs.put_marked.Goals as goal

pub returns : goal.returns
returns c =
    let a = c.args in
    let out = set a.out.now a.at a.mark in
    let bytes : c.copy_from_slice.new.self ≡ le64 a.x = c.copy_from_slice.ensures.after ∙ c.to_le_bytes.ensures ∙ le64_bytes a.x in
    rw bytes (
    put_sets out (a.at + 1) (a.at + 9) (le64 a.x) (omega arith) (rw length-set (omega arith))
    ∙ ap (λ (k : ℕ). sets out k (le64 a.x)) (add-one a.at)
    )
