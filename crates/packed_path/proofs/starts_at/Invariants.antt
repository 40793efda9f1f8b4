use Prim.Native.Nat.{◌+◌}
use mathlib.Core.Path.{◌≡◌}
use Rattle.meaning.specs.Query.{member}
use Rattle.packed_path.specs.Packed.{sources_of}
use Rattle.packed_path.proofs.starts_at.Given as goal

abbrev pub invariant-loop : goal.invariant-loop
invariant-loop l = (l.left.count + l.counter ≡ l.p.count) × (member l.v (sources_of l.left) ≡ member l.v (sources_of l.p))
