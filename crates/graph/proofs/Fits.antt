-- Each field of a typed form that a function is handed is as wide as its type. Assumes nothing.
use Prim.Native.Nat.{ℕ, zero, suc, ◌<◌}
use mathlib.Core.Path.{◌≡◌}
use mathlib.Core.List.{List, [], ◌∷◌}
use native.Mathlib.Omega.{arith}
use native.Mathlib.Nat.{le_of_suc-le-suc}
use lib.ListN.{length, get_or}
use denote.Array.{each}
use borrow.Struct.Parts.{StructFacts}
use denote.Laws.{Is}
use denote.Shadow.{shadow}
use mir.Val.{Val}
use Rattle.graph.specs.declared.EdgeRow.{EdgeRow}
use Rattle.graph.specs.declared.EdgeTable.{EdgeTable}
use Rattle.graph.specs.Encode.{row_edge}
use Rattle.graph.specs.Graph.{blank_row}
use Rattle.graph.proofs.Bytes.{EdgeFits}
use Rattle.graph.specs.contracts.EdgeRow as row
use Rattle.graph.specs.contracts.EdgeTable as table
use Rattle.graph.proofs.EdgeRow.TheLaws as row_laws
use Rattle.graph.proofs.EdgeTable.TheLaws as laws

-- 16 bits each, and 1,024 rows
pub record TableFits (t : EdgeTable) : Type 0 where
  pub vertices : t.vertices < 65536
  pub count : t.count < 65536
  pub room : length t.rows ≡ 1024
  pub rows : (i : ℕ) → i < length t.rows → EdgeFits (row_edge (get_or t.rows i blank_row))

-- a row that is lent fits
pub row_told : (r : EdgeRow) → StructFacts row.the_type row_laws.the_maybe r → EdgeFits (row_edge r)
row_told r f =
    record { from = omega (arith, f.0.1); to = omega (arith, f.1.0.1); weight = omega (arith, f.1.1.0.1); capacity = omega (arith, f.1.1.1.0.1) }

-- from what the logic knows of an array of rows
rows_fit : (rs : List EdgeRow) (us : List Val) → shadow (each (row.the_row).Denot (row.the_row).own_val rs us) →
    (i : ℕ) → i < length rs → EdgeFits (row_edge (get_or rs i blank_row))
rows_fit [] us g i h = absurd (omega arith)
rows_fit (r ∷ rs) [] g i h = absurd g
rows_fit (r ∷ rs) (u ∷ us) g zero h =
    let f = g.0.1.1 in
    record { from = omega (arith, f.0.1); to = omega (arith, f.1.0.1); weight = omega (arith, f.1.1.0.1); capacity = omega (arith, f.1.1.1.0.1) }
rows_fit (r ∷ rs) (u ∷ us) g (suc i) h = rows_fit rs us g.1 i (le_of_suc-le-suc h)

-- A TYPED FORM THAT A FUNCTION IS HANDED FITS
pub table_fits : (t : EdgeTable) (vs : List Val) → Is table.the_row t vs → TableFits t
table_fits t vs g =
    let f = g.1.1 in
    let a = f.1.1.0 in
    record {
      vertices = omega (arith, f.0.1);
      count = omega (arith, f.1.0.1);
      room = a.1.0.1;
      rows = rows_fit t.rows a.0 a.1.1;
    }

-- so does one that is lent
pub table_told : (t : EdgeTable) → StructFacts table.the_type laws.the_maybe t → TableFits t
table_told t f =
    let a = f.1.1.0 in
    record {
      vertices = omega (arith, f.0.1);
      count = omega (arith, f.1.0.1);
      room = a.1.0.1;
      rows = rows_fit t.rows a.0 a.1.1;
    }
