-- What holds of the path reductions of a table, and of a small graph. Assumes nothing.
use Prim.Native.Nat.{ℕ, zero, suc, ◌≤◌, ◌<◌}
use mathlib.Core.Path.{◌≡◌}
use mathlib.Core.Bool.{true}
use mathlib.Core.List.{List, [], ◌∷◌}
use native.Mathlib.Omega.{arith}
use native.Mathlib.Nat.{not-suc-le-zero}
use lib.Dec.{leb, leb→le}
use lib.ListN.{length}
use Rattle.walks.specs.Lists.{All}
use Rattle.walks.proofs.Tests.{T_of, and_left, and_right}
use Rattle.meaning.specs.Query.{PathReduction}
use Rattle.packed_path.specs.declared.PackedPath.{PackedPath}
use Rattle.wire.specs.Wire.{at16}
use Rattle.table.specs.Table.{path_at, paths_in}
use Rattle.rounds.specs.Steps.{small}

-- what holds of the first path reductions of a table holds of each
pub legal_at : (P : PathReduction → Type 0) (table : List PackedPath) (paths : ℕ) → All P (paths_in paths table)
    → (j : ℕ) → j < paths → j < length table → P (path_at table j)
legal_at P [] paths a j h k = absurd (not-suc-le-zero k)
legal_at P (x ∷ t) zero a j h k = absurd (not-suc-le-zero h)
legal_at P (x ∷ t) (suc p) a zero h k = a.0
legal_at P (x ∷ t) (suc p) a (suc j) h k = legal_at P t p a.1 j (omega arith) (omega arith)

-- a small graph has few vertices and edges
pub small_sizes : (s : List ℕ) → small s ≡ true → (at16 s 5 ≤ 16) × (at16 s 7 ≤ 64)
small_sizes s e =
    let a = leb (at16 s 5) 16 in
    let b = leb (at16 s 7) 64 in
    (leb→le (at16 s 5) 16 (and_left a b (T_of e)), leb→le (at16 s 7) 64 (and_right a b (T_of e)))
