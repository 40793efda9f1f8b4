use native.Mathlib.Omega.{arith}
use Rattle.graph.proofs.Accepted.{accepted}
use Rattle.wire.specs.Wire.{Bytes}
use Rattle.engine.proofs.Table.{settled}
use Rattle.engine.proofs.settle.Goals as goal

pub most-most-requires : goal.most-most-requires
most-most-requires c = omega (arith, (accepted c.args.graph.now c.requires.0).sizes.few_vertices)

pub returns : goal.returns
returns c =
    let a = c.args in
    let bm : Bytes a.graph.now = λ i. omega (arith, c.type_inv.graph i) in
    let ran = rw (c.most-most.ensures, c.vertices.ensures) at c.run-done.ensures in
    rw c.reported.ensures (settled a.graph.now bm c.requires.0 a.paths a.table c.requires.1 (omega arith) c.requires.2 a.limit _ _ ran.1 _ ran.2)
