use Prim.Native.Nat.{◌+◌}
use mathlib.Core.Path.{◌≡◌}
use Rattle.packed_path.specs.Packed.{sources_of}
use Rattle.engine.specs.Run.{outside_code}
use Rattle.engine.proofs.judge_path.Given as goal

abbrev pub invariant-loop : goal.invariant-loop
invariant-loop l = (l.left.count + l.counter ≡ l.fn.path.count) × (outside_code l.n (sources_of l.left) ≡ outside_code l.n (sources_of l.fn.path))
