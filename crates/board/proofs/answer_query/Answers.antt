use Prim.Native.Nat.{ℕ}
use mathlib.Core.Path.{subst}
use mathlib.Core.List.{List}
use native.Mathlib.Omega.{arith}
use lib.ListN.{length, replicate, length-replicate, take}
use Rattle.wire.specs.Refusal.{number_of}
use Rattle.wire.specs.Wire.{Returned}
use Rattle.board.specs.Steps.{plan_reply, plan_values}
use Rattle.board.proofs.Loops.{fused_in, plan_taken}
use Rattle.board.proofs.answer_query.Goals as goal

pub returns-in_err-size : goal.returns-in_err-size
returns-in_err-size c =
    let fused = fused_in c.args.query.now (replicate 560 0) c.fuse.new.out _ (λ i. omega (arith, c.type_inv.query i)) c.requires
    (length-replicate {A = ℕ} 560 0) c.in_err-size.ensures in
    absurd (omega (arith, fused.short))

pub returns-in_err-w : goal.returns-in_err-w
returns-in_err-w c =
    let fused = fused_in c.args.query.now (replicate 560 0) c.fuse.new.out _ (λ i. omega (arith, c.type_inv.query i)) c.requires
    (length-replicate {A = ℕ} 560 0) c.in_ok-size.ensures in
    absurd (plan_taken _ _ c.in_err-w.ensures fused.accepted)

pub returns : goal.returns
unfolding plan_reply plan_values
returns c =
    let fused = fused_in c.args.query.now (replicate 560 0) c.fuse.new.out _ (λ i. omega (arith, c.type_inv.query i)) c.requires
    (length-replicate {A = ℕ} 560 0) c.in_ok-size.ensures in
    let a = c.args in
    let written : Returned (plan_reply (take c.in_ok-size.field-0 c.fuse.new.out) a.joint a.figures.now a.n a.rounds (length a.out.now))
    (number_of c.write.result) a.out.now c.write.new.out = rw (← c.in_ok-w.ensures, ← c.min-paths.ensures, ← c.slots_of-slots.ensures) c.write.ensures in
    subst (λ (s : List ℕ). Returned (plan_reply s a.joint a.figures.now a.n a.rounds (length a.out.now)) (number_of c.write.result)
    a.out.now c.write.new.out) fused.first written
