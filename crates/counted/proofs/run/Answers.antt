use Prim.Native.Nat.{ℕ, ◌<◌}
use native.Mathlib.Omega.{arith}
use borrow.Author.Rules.{rules}
use Rattle.std.specs.Prelude.{IfOk}
use Rattle.wire.specs.Wire.{Bytes}
use Rattle.counted.proofs.Numbers.{counted_result}
use Rattle.counted.proofs.run.Goals as goal

pub returns : goal.returns
returns c =
    let a = c.args in
    let asked : Bytes a.asked.now = λ i. omega (arith, c.type_inv.asked i) in
    let graph : Bytes a.graph.now = λ i. omega (arith, c.type_inv.graph i) in
    let fits : IfOk c.call-end.result (λ (n : ℕ). n < 65536) = search rules in
    counted_result a.way a.limit a.asked.now a.graph.now a.out.now a.counters.now asked graph c.call-end.result fits c.call-end.ensures
    (rw c.is_ok-done.ensures.value at c.counted-after.ensures)
