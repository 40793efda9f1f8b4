use Prim.Native.Nat.{◌+◌, ◌*◌}
use mathlib.Core.Path.{◌≡◌}
use native.Mathlib.Omega.{arith}
use Rattle.incoming.proofs.Ends.{ends}
use Rattle.incoming.proofs.Sizes.{few_vertices}
use Rattle.incoming.proofs.Accepted.ends.Goals as goal

pub returns-clause-from : goal.returns-clause-from
returns-clause-from c =
    let a = c.args.self.now in
    let h = ends a.bytes.now a.bytes_fit a.accepted c.args.i c.requires in
    let none : 9 + 8 * c.args.i + 0 ≡ 9 + 8 * c.args.i = omega arith in
    let e = rw none at c.field_at.ensures.0 in
    (e, omega (arith, e, h), omega (arith, e, h, few_vertices _ a.accepted))

pub returns-clause-to : goal.returns-clause-to
returns-clause-to c =
    let a = c.args.self.now in
    let h = ends a.bytes.now a.bytes_fit a.accepted c.args.i c.requires in
    let e = c.field_at-2.ensures.0 in
    (e, omega (arith, e, h), omega (arith, e, h, few_vertices _ a.accepted))
