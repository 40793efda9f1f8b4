-- What is known of the bytes of a graph that are accepted. Assumes nothing.
use Prim.Native.Nat.{ℕ, ◌+◌, ◌*◌, ◌≤◌, ◌<◌}
use mathlib.Core.Path.{◌≡◌}
use mathlib.Core.List.{List, ◌++◌}
use native.Mathlib.Omega.{arith}
use borrow.Author.Tests.{ltb-false, eqb-true, eqb-false}
use lib.Dec.{ltb, eqb}
use lib.ListN.{length, drop}
use Rattle.wire.specs.Header.{header_bytes, header_code}
use Rattle.wire.specs.Wire.{at16}
use Rattle.wire.proofs.Codes.{held, past, then_both}
use Rattle.wire.proofs.Header.{header_one}
use Rattle.graph.specs.Graph.{counts_code, edges_code, edges_in, graph_code, length_code}

-- numbers of vertices and of edges that are not refused
pub record Counts (n m : ℕ) : Type 0 where
  pub some_vertex : 0 < n
  pub few_vertices : n ≤ 256
  pub few_edges : m ≤ 1024

-- what the judge of the two counts lets pass
pub counts : (n m : ℕ) → counts_code n m ≡ 0 → Counts n m
unfolding counts_code
counts n m e =
    let a = past (eqb n 0) 3 _ e in
    let b = past (ltb 256 n) 3 _ a.1 in
    let c = past (ltb 1024 m) 4 _ b.1 in
    let z : n ≡ 0 → ⊥ = eqb-false _ _ a.0 in
    record { some_vertex = omega arith; few_vertices = ltb-false _ _ b.0; few_edges = ltb-false _ _ c.0 }

-- bytes of a graph: its header, its counts, its length, and no edge refused
pub record Accepted (s : List ℕ) : Type 0 where
  pub header : s ≡ header_bytes 0x4d 1 ++ drop 5 s
  pub sizes : Counts (at16 s 5) (at16 s 7)
  pub exact : length s ≡ 9 + 8 * at16 s 7
  pub rows : edges_code (at16 s 5) (edges_in s) ≡ 0

-- WHAT THE JUDGE LETS PASS
pub accepted : (s : List ℕ) → graph_code s ≡ 0 → Accepted s
unfolding graph_code
accepted s e =
    let a = then_both (header_code 0x4d 1 9 s) _ e in
    let b = then_both (counts_code (at16 s 5) (at16 s 7)) _ a.1 in
    let c = then_both (length_code s) _ b.1 in
    record {
      header = header_one 0x4d 9 s a.0;
      sizes = counts _ _ b.0;
      exact = eqb-true _ _ (held (eqb (length s) (9 + 8 * at16 s 7)) 5 0 c.0).0;
      rows = c.1;
    }
