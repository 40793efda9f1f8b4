use Prim.Native.Nat.{◌<◌}
use mathlib.Core.Path.{◌≡◌}
use native.Mathlib.Omega.{arith}
use lib.ListN.{length}
use Rattle.meaning.specs.Limits.{PathFits}
use Rattle.packed_path.specs.declared.PackedPath.{PackedPath}
use Rattle.rounds.proofs.Tables.{legal_at}
use Rattle.rounds.proofs.all_constants.Goals as goal

pub constants_of-requires : goal.constants_of-requires
constants_of-requires c =
    let a = c.args in
    let j = c.loop-j.j in
    let e : length {A = PackedPath} a.table ≡ 8 = omega arith in
    let h : j < a.paths = omega arith in
    (legal_at (PathFits a.n) a.table a.paths c.requires.1 j h (omega (arith, c.requires.0))).0
