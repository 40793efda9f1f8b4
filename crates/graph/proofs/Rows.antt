-- Reading a graph as its loops go: one row more is judged, one row more is stored. Assumes nothing.
use Prim.Native.Nat.{ℕ, zero, suc, ◌+◌, ◌-◌, ◌≤◌, ◌<◌}
use mathlib.Core.Path.{◌≡◌, sym, ap, ◌∙◌}
use mathlib.Core.List.{List, [], ◌∷◌, ◌++◌, map}
use native.Mathlib.Numerals.{add-one}
use native.Mathlib.Omega.{arith}
use native.Mathlib.Nat.{add-zero, add-suc, suc-add, zero-add}
use lib.ListN.{length, drop, set, replicate, length-append, length-map, drop_of_length-le}
use lib.Seq.{drop-cons, append_snoc, set_at}
use Rattle.meaning.specs.Run.{tabulate}
use Rattle.meaning.proofs.Lists.{map_append, tabulate_at, tabulate_length}
use Rattle.walks.specs.Walks.{Edge, edge, edge_at}
use Rattle.wire.specs.Header.{then}
use Rattle.wire.specs.Wire.{at16}
use Rattle.wire.proofs.Codes.{then_none, then_some}
use Rattle.graph.specs.declared.EdgeRow.{EdgeRow}
use Rattle.graph.specs.Graph.{blank_row, edge_code, edge_in, edges_code, edges_in, filled, row_of}

-- ---- edges judged in turn: those before edge i were right

module _ (n : ℕ) (es : List Edge) (i : ℕ) (right : edges_code n (drop i es) ≡ edges_code n es) where
  -- the code from edge i on, by edge i
  next : i < length es → edges_code n es ≡ then (edge_code n (edge_at es i)) (edges_code n (drop (i + 1) es))
  unfolding edges_code
  next h = sym right ∙ rw (add-one i, drop-cons es i (edge 0 0 0 0) h)

  -- edge i is refused: so are the edges, by its number
  pub row_refused : i < length es → (k : ℕ) → k ≡ edge_code n (edge_at es i) → (k ≡ 0 → ⊥) → k ≡ edges_code n es
  row_refused h k e z = sym (next h ∙ rw (← e) (then_some k _ z))

  -- edge i is not refused: those before the next one were right
  pub row_passed : i < length es → (k : ℕ) → k ≡ edge_code n (edge_at es i) → k ≡ 0 → edges_code n (drop (i + 1) es) ≡ edges_code n es
  row_passed h k e z = sym (next h ∙ rw (← e) (then_none k _ z))

  -- all edges passed: none is refused
  pub rows_passed : length es ≤ i → 0 ≡ edges_code n es
  unfolding edges_code
  rows_passed h = rw (drop_of_length-le es h) at right

-- ---- the rows of some bytes

-- as many as the field says
pub edges_count : (s : List ℕ) → length (edges_in s) ≡ at16 s 7
unfolding edges_in
edges_count s = tabulate_length (at16 s 7) zero (edge_in s)

-- edge i is what stands at row i
pub edge_there : (s : List ℕ) (i : ℕ) → i < at16 s 7 → edge_at (edges_in s) i ≡ edge_in s i
unfolding edges_in
edge_there s i h = tabulate_at (at16 s 7) i (edge_in s) (edge 0 0 0 0) h

-- ---- rows stored in turn

-- a row of zeros is the blank one
pub zeros : (r : EdgeRow) → (r.from ≡ 0) × ((r.to ≡ 0) × ((r.weight ≡ 0) × (r.capacity ≡ 0))) → r ≡ blank_row
zeros r z = λ i. record { from = z.0 i; to = z.1.0 i; weight = z.1.1.0 i; capacity = z.1.1.1 i }

-- one more at the end
tabulate_more : (n i : ℕ) (f : ℕ → Edge) → tabulate (suc n) i f ≡ tabulate n i f ++ (f (i + n) ∷ [])
tabulate_more zero i f = ap (λ (j : ℕ). f j ∷ []) (sym (add-zero i))
tabulate_more (suc n) i f =
    ap (λ (l : List Edge). f i ∷ l) (tabulate_more n (suc i) f
    ∙ ap (λ (j : ℕ). tabulate n (suc i) f ++ (f j ∷ [])) (suc-add i n ∙ sym (add-suc i n)))

-- a row stored behind those of some edges
pub stored : (es : List Edge) (e : Edge) → length es < 1024 → set (filled es) (length es) (row_of e) ≡ filled (es ++ (e ∷ []))
unfolding filled
stored es e h =
    let rest : ℕ = 1024 - (length es + 1) in
    let more : 1024 - length es ≡ suc rest = omega arith in
    rw (more, map_append, length-append)
    (set_at (map row_of es) blank_row (replicate rest blank_row) (row_of e) (length es) (length-map es row_of)
    ∙ sym (append_snoc (map row_of es) (row_of e) (replicate rest blank_row)))

-- row n stored behind the n rows before it
pub filled_more : (f : ℕ → Edge) (n : ℕ) → n < 1024 → set (filled (tabulate n zero f)) n (row_of (f n)) ≡ filled (tabulate (n + 1) zero f)
filled_more f n h =
    let k : length (tabulate n zero f) ≡ n = tabulate_length n zero f in
    let more : tabulate (n + 1) zero f ≡ tabulate n zero f ++ (f n ∷ []) = rw (add-one n) (tabulate_more n zero f ∙ rw (zero-add n)) in
    rw more (ap (λ (j : ℕ). set (filled (tabulate n zero f)) j (row_of (f n))) (sym k) ∙ stored (tabulate n zero f) (f n) (omega arith))
