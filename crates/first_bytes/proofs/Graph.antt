-- A map longer than 8,201 bytes is judged by one byte more as it is whole: it is refused by its head, or 6 for its length. Assumes nothing.
use Prim.Native.Nat.{ℕ, ◌+◌, ◌*◌, ◌≤◌, ◌<◌}
use mathlib.Core.Path.{◌≡◌, refl}
use mathlib.Core.Bool.{Bool, true, false, cond}
use mathlib.Core.List.{List}
use native.Mathlib.Omega.{arith}
use borrow.Author.Tests.{eqb-true, eqb-false, le-ltb, ne_eqb}
use lib.Dec.{eqb}
use lib.ListN.{length, get_or}
use Rattle.graph.specs.Graph.{counts_code, edges_code, edges_in, graph_code}
use Rattle.graph.proofs.Accepted.{counts}
use Rattle.wire.specs.Header.{header_code, then}
use Rattle.wire.specs.Wire.{at16}

-- two texts that begin alike and are longer
pub record Alike (s t : List ℕ) : Type 0 where
  pub bytes : (i : ℕ) → i < 9 → get_or t i 0 ≡ get_or s i 0
  pub long : 8202 ≤ length s
  pub longer : 8202 ≤ length t

module _ (s t : List ℕ) (a : Alike s t) where
  header_same : header_code 0x4d 1 9 t ≡ header_code 0x4d 1 9 s
  unfolding header_code
  header_same =
      rw (
        le-ltb (length t) 5 (omega (arith, a.longer)),
        le-ltb (length s) 5 (omega (arith, a.long)),
        le-ltb (length t) 9 (omega (arith, a.longer)),
        le-ltb (length s) 9 (omega (arith, a.long)),
        a.bytes 0 (omega arith),
        a.bytes 1 (omega arith),
        a.bytes 2 (omega arith),
        a.bytes 3 (omega arith),
        a.bytes 4 (omega arith),
      )
      refl

  vertices_same : at16 t 5 ≡ at16 s 5
  vertices_same = rw (a.bytes 5 (omega arith), a.bytes 6 (omega arith)) refl

  edges_same : at16 t 7 ≡ at16 s 7
  edges_same = rw (a.bytes 7 (omega arith), a.bytes 8 (omega arith)) refl

  -- behind legal counts the length is not what they say
  over : (u : List ℕ) (m : ℕ) → m ≤ 1024 → 8202 ≤ length u → ◌≡◌ {A = ℕ} (cond (eqb (length u) (9 + 8 * m)) 0 6) 6
  over u m h l = rw (ne_eqb (length u) (9 + 8 * m) (λ e. omega arith)) refl

  abbrev behind : List ℕ → ℕ → ℕ → ℕ
  behind u n m = then (cond (eqb (length u) (9 + 8 * m)) 0 6) (edges_code n (edges_in u))

  -- TEXTS THAT BEGIN ALIKE ARE REFUSED ALIKE
  pub code_same : (graph_code t ≡ graph_code s) × (graph_code s ≡ 0 → ⊥)
  unfolding graph_code
  code_same = rw (header_same, vertices_same, edges_same) (go (eqb head 0) (eqb (counts_code n m) 0) refl refl)
    where
      head : ℕ
      head = header_code 0x4d 1 9 s

      n : ℕ
      n = at16 s 5

      m : ℕ
      m = at16 s 7

      whole : List ℕ → Bool → Bool → ℕ
      whole u x y = cond x (cond y (behind u n m) (counts_code n m)) head

      go : (x y : Bool) → eqb head 0 ≡ x → eqb (counts_code n m) 0 ≡ y → (whole t x y ≡ whole s x y) × (whole s x y ≡ 0 → ⊥)
      go true true p q =
          let c = counts n m (eqb-true (counts_code n m) 0 q) in
          rw (over t m c.few_edges a.longer, over s m c.few_edges a.long) (refl, λ z. omega arith)
      go true false p q = (refl, λ z. eqb-false (counts_code n m) 0 q z)
      go false y p q = (refl, λ z. eqb-false head 0 p z)
