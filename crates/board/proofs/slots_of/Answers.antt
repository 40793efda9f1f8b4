use Prim.Native.Nat.{ℕ}
use mathlib.Core.Path.{◌≡◌, ap, ap₂, ◌∙◌}
use mathlib.Core.List.{List}
use native.Mathlib.Omega.{arith}
use lib.ListN.{set}
use Rattle.eval.proofs.Fill.{filled, fill_next}
use Rattle.board.specs.Steps.{slots_in}
use Rattle.board.proofs.slots_of.Invariants.{slot}
use Rattle.board.proofs.slots_of.Goals as goal

pub loop-j-preserved : goal.loop-j-preserved
loop-j-preserved c =
    let a = c.args in
    let l = c.loop-j in
    ap₂ (λ (slots : List ℕ) (k : ℕ). set slots l.j k) l.invariant c.position_of.ensures.0
    ∙ fill_next 8 (slot a.own a.joint) 0 l.j (omega (arith, c.requires))

pub returns : goal.returns
unfolding slots_in
returns c =
    let a = c.args in
    let e : c.loop-j.j ≡ a.paths = omega arith in
    c.loop-j.invariant ∙ ap (filled 8 (slot a.own a.joint) 0) e
