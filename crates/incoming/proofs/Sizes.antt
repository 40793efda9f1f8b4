-- The sizes of a graph whose bytes are accepted. Assumes nothing.
use Prim.Native.Nat.{ℕ, ◌+◌, ◌*◌, ◌≤◌}
use mathlib.Core.Path.{◌≡◌}
use mathlib.Core.List.{List}
use lib.ListN.{length}
use Rattle.wire.specs.Wire.{at16}
use Rattle.graph.specs.Graph.{graph_code}
use Rattle.graph.proofs.Accepted.{accepted}

pub exact : (s : List ℕ) → graph_code s ≡ 0 → length s ≡ 9 + 8 * at16 s 7
exact s z = (accepted s z).exact

pub few_vertices : (s : List ℕ) → graph_code s ≡ 0 → at16 s 5 ≤ 256
few_vertices s z = (accepted s z).sizes.few_vertices

pub few_rows : (s : List ℕ) → graph_code s ≡ 0 → at16 s 7 ≤ 1024
few_rows s z = (accepted s z).sizes.few_edges
