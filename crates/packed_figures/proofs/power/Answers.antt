use Prim.Native.Nat.{◌^◌, ◌≤◌, ◌<◌}
use native.Mathlib.Omega.{arith}
use lib.Pow.{pow_mono, pow_pos}
use Rattle.packed_figures.proofs.power.Goals as goal

pub returns : goal.returns
returns c =
    let most : 2 ^ c.args.n ≤ 4503599627370496 = pow_mono c.requires in
    let some : 0 < 2 ^ c.args.n = pow_pos c.args.n in
    (omega arith, omega arith, omega arith)
