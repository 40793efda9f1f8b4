-- What is judged of a typed form by its fields is what is judged of its bytes; and the writer's three ways out. Assumes nothing.
use Prim.Native.Nat.{ℕ, ◌+◌, ◌*◌, ◌≤◌, ◌<◌}
use mathlib.Core.Path.{◌≡◌, refl, sym, ap, ◌∙◌}
use mathlib.Core.List.{List, ◌++◌}
use native.Mathlib.Omega.{arith}
use borrow.Author.Tests.{lt-ltb, le-ltb, ne_eqb}
use lib.ListN.{length, drop, length-append}
use lib.Seq.{sets}
use Rattle.wire.specs.Wire.{done, refused}
use Rattle.wire.proofs.Codes.{then_both, then_some}
use Rattle.wire.proofs.Stores.{sets_front}
use Rattle.graph.specs.declared.EdgeTable.{EdgeTable}
use Rattle.graph.specs.Encode.{edges_bytes, encode, head_bytes, table_bytes, table_graph, write_reply}
use Rattle.graph.specs.Graph.{counts_code, edges_code, graph_code, graph_of}
use Rattle.graph.specs.Steps.{table_code}
use Rattle.graph.proofs.Accepted.{counts}
use Rattle.graph.proofs.Bytes.{EdgesFit, edges_length, edges_read, word_back}
use Rattle.graph.proofs.Exact.{judged_bytes}
use Rattle.graph.proofs.Fits.{TableFits}
use Rattle.graph.proofs.Table.{table_count, table_there}

module _ (t : EdgeTable) (f : TableFits t) where
  -- where the count is legal, there are as many edges
  pub edges_few : t.count ≤ 1024 → t.count ≡ length (table_graph t).edges
  edges_few h = omega (arith, table_count t.count t.rows, f.room)

  -- each field of an edge is 16 bits wide
  pub table_edges_fit : EdgesFit (table_graph t).edges
  table_edges_fit i h =
      rw (table_there t.count t.rows i (omega (arith, table_count t.count t.rows)))
      (f.rows i (omega (arith, table_count t.count t.rows)))

  -- WHAT IS JUDGED OF THE FIELDS IS WHAT IS JUDGED OF THE BYTES
  pub judged : graph_code (table_bytes t) ≡ table_code t
  unfolding table_bytes table_code
  judged =
      judged_bytes t.vertices t.count (table_graph t).edges f.vertices f.count edges_few table_edges_fit

  -- a typed form that is not refused counts at most 1,024 edges
  pub table_few : graph_code (table_bytes t) ≡ 0 → t.count ≤ 1024
  unfolding table_code
  table_few z = (counts t.vertices t.count (then_both (counts_code t.vertices t.count) _ (sym judged ∙ z)).0).few_edges

  -- what is written is the encoding of the graph that the typed form means
  pub write_encodes : graph_code (table_bytes t) ≡ 0 → table_bytes t ≡ encode (table_graph t)
  unfolding table_bytes
  write_encodes z =
      ap (λ (m : ℕ). head_bytes t.vertices m ++ edges_bytes (table_graph t).edges) (edges_few (table_few z))

  -- and read back it is that graph
  pub table_meant : graph_code (table_bytes t) ≡ 0 → graph_of (table_bytes t) ≡ table_graph t
  unfolding table_bytes
  table_meant z =
      let m = edges_few (table_few z) in
      rw (word_back t.vertices f.vertices, edges_read t.vertices t.count (table_graph t).edges f.count m table_edges_fit)

  -- as the judge goes: the counts are refused; or they are not, and the rows are judged
  pub counts_refused : (k : ℕ) → k ≡ counts_code t.vertices t.count → (k ≡ 0 → ⊥) → k ≡ graph_code (table_bytes t)
  unfolding table_code
  counts_refused k e h = sym (judged ∙ rw (← e) (then_some k _ h))

  pub rows_judged : (k : ℕ) → 0 ≡ counts_code t.vertices t.count → k ≡ edges_code t.vertices (table_graph t).edges
      → k ≡ graph_code (table_bytes t)
  unfolding table_code
  rows_judged k z e = sym (judged ∙ rw (← z, ← e) refl)

  -- how many bytes there are
  pub table_size : t.count ≤ 1024 → length (table_bytes t) ≡ 9 + 8 * t.count
  unfolding table_bytes
  table_size h =
      length-append (head_bytes t.vertices t.count) (edges_bytes (table_graph t).edges)
      ∙ omega (arith, edges_length (table_graph t).edges, edges_few h)

-- THE WRITER'S THREE WAYS OUT
module _ (t : EdgeTable) where
  -- it refuses what is judged wrong, by its number
  pub write_refused : (room k : ℕ) → k ≡ graph_code (table_bytes t) → (k ≡ 0 → ⊥) → write_reply t room ≡ refused k
  unfolding write_reply
  write_refused room k e h = rw (← e, ne_eqb k 0 h)

  module _ (z : 0 ≡ graph_code (table_bytes t)) (size : ℕ) (sized : size ≡ length (table_bytes t)) where
    -- 15 where the bytes do not fit
    pub write_short : (room : ℕ) → room < size → write_reply t room ≡ refused 15
    unfolding write_reply
    write_short room h = rw (← z, ← sized, lt-ltb _ _ h) refl

    -- and writes them where they do
    pub write_done : (room : ℕ) → size ≤ room → write_reply t room ≡ done (table_bytes t)
    unfolding write_reply
    write_done room h = rw (← z, ← sized, le-ltb _ _ h) refl

    -- the rows stored behind the header are the bytes
    pub table_laid : (out : List ℕ) → size ≤ length out →
        sets (sets out 0 (head_bytes t.vertices t.count)) 9 (edges_bytes (table_graph t).edges) ≡ table_bytes t ++ drop (length (table_bytes t)) out
    unfolding table_bytes
    table_laid out h = sets_front out (head_bytes t.vertices t.count) (edges_bytes (table_graph t).edges) 9 refl (omega (arith, sized))
