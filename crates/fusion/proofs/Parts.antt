-- The loops of fusing: the search in a table, and one part of a plan put node by node. Assumes nothing.
use Prim.Native.Nat.{ℕ, suc, ◌+◌, ◌-◌, ◌≤◌, ◌<◌}
use mathlib.Core.Path.{◌≡◌, refl, ap, ◌∙◌}
use mathlib.Core.Bool.{true, false}
use mathlib.Core.List.{List, [], ◌∷◌}
use native.Mathlib.Numerals.{add-one}
use native.Mathlib.Omega.{arith}
use borrow.Author.Tests.{le-leb, lt-leb}
use lib.ListN.{length, get_or, set, drop, take, drop_of_length-le}
use lib.Seq.{drop-cons}
use Rattle.nodes.specs.declared.Term.{Term}
use Rattle.packed_path.specs.declared.PackedPath.{PackedPath}
use Rattle.packed_path.specs.Packed.{no_path, same_packed}
use Rattle.fusion.specs.declared.Written.{Written}
use Rattle.fusion.specs.Steps.{index_of, put_part, put_term, reduces, size}

-- the search from index i on: i is added to what it finds there
module _ (p : PackedPath) (table : List PackedPath) (i : ℕ) (h : i < length table) where
  -- the path reduction stands at i
  pub index_here : same_packed (get_or table i no_path) p ≡ true → i + index_of p (drop i table) ≡ i
  unfolding index_of
  index_here e = rw (drop-cons table i no_path h, e) (omega arith)

  -- it does not: the search goes on
  pub index_next : same_packed (get_or table i no_path) p ≡ false → i + index_of p (drop i table) ≡ i + 1 + index_of p (drop (i + 1) table)
  unfolding index_of
  index_next e = rw (drop-cons table i no_path h, e, add-one i) (omega arith)

-- it stands nowhere
pub index_none : (p : PackedPath) (table : List PackedPath) (i : ℕ) → length table ≤ i → i + index_of p (drop i table) ≡ i
unfolding index_of
index_none p table i h = rw (drop_of_length-le table h) (omega arith)

-- n of the nodes from the i-th on
abbrev pub left : List Term → ℕ → ℕ → List Term
left l n i = take (n - i) (drop i l)

-- so many nodes written
abbrev pub written : List Term → ℕ → Written
written l n = record { list = l; len = n }

-- a term put where there is room
put_room : (list : List Term) (len : ℕ) (t : Term) → len < 72 → put_term (written list len) t ≡ written (set list len t) (len + size t)
unfolding put_term
put_room list len t h = rw (lt-leb 72 len h) refl

-- a part goes on behind the node at i, where there is room
pub part_more : (part : ℕ → Term → Term) (k : ℕ) (list : List Term) (len : ℕ) (l : List Term) (n i : ℕ) (z : Term) → len < 72 → i < n
    → n ≤ length l
    → put_part part k (written list len) (left l n i)
    ≡ put_part part (k + reduces (get_or l i z))
    (written (set list len (part k (get_or l i z))) (len + size (part k (get_or l i z)))) (left l n (i + 1))
unfolding put_part
part_more part k list len l n i z r h m =
    let e : n - i ≡ suc (n - (i + 1)) = omega arith in
    let t = part k (get_or l i z) in
    let q : left l n i ≡ get_or l i z ∷ left l n (i + 1) = rw (e, drop-cons l i z (omega arith), ← add-one i) refl in
    ap (put_part part k (written list len)) q
    ∙ ap (λ (d : Written). put_part part (k + reduces (get_or l i z)) d (left l n (i + 1))) (put_room list len t r)

-- no node is left
pub part_done : (part : ℕ → Term → Term) (k : ℕ) (d : Written) (l : List Term) (n i : ℕ) → n ≤ i
    → put_part part k d (left l n i) ≡ d
unfolding put_part
part_done part k d l n i h = let e : n - i ≡ 0 = omega arith in rw e refl

-- nothing is put where there is no room
pub part_full : (part : ℕ → Term → Term) (k : ℕ) (d : Written) (l : List Term) → 72 ≤ d.len → put_part part k d l ≡ d
unfolding put_part put_term
part_full part k d [] h = refl
part_full part k d (n ∷ l) h = rw (le-leb 72 d.len h) (part_full part (k + reduces n) d l h)
