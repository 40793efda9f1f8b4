-- WHAT A STORE LEAVES of the words and marks of each path reduction. Assumes nothing.
use Prim.Native.Nat.{ℕ, ◌+◌, ◌*◌, ◌≤◌, ◌<◌}
use mathlib.Core.Path.{◌≡◌, refl, ap₂, ◌∙◌}
use mathlib.Core.Bool.{Bool, true, false, cond, ◌&&◌, ◌||◌}
use mathlib.Core.List.{List}
use native.Mathlib.Omega.{arith}
use borrow.Author.Tests.{eq-eqb}
use lib.Dec.{eqb}
use lib.ListN.{length, get_or, set}
use lib.Seq.{get_or-set_same, get_or-set_other}
use Rattle.vertex_set.specs.Sets.{above, inserted, member, replaced}
use Rattle.vertex_set.proofs.Sets.{above_inserted, inserted_length, inserted_other, member_inserted, member_stored, replaced_other}
use Rattle.table.specs.Table.{cell, cell_in}
use Rattle.table.specs.Steps.{word_in}

or_false : (b : Bool) → b ≡ (b || false)
or_false true = refl
or_false false = refl

or_false_both : (a b : Bool) → (a || (b && false)) ≡ a
or_false_both true b = refl
or_false_both false true = refl
or_false_both false false = refl

and_true : (b : Bool) → (b && true) ≡ b
and_true true = refl
and_true false = refl

-- a cell is its word and its mark
pub cell_same : (l : List ℕ) (j v : ℕ) (x : ℕ) (b : Bool) → word_in l j v ≡ x → member l j v ≡ b → cell_in l j v ≡ cell x b
unfolding cell_in
cell_same l j v x b e f = ap₂ cell e f

pub cell_word : (l : List ℕ) (j v : ℕ) → (cell_in l j v).word ≡ word_in l j v
unfolding cell_in
cell_word l j v = refl

pub cell_mark : (l : List ℕ) (j v : ℕ) → (cell_in l j v).changed ≡ member l j v
unfolding cell_in
cell_mark l j v = refl

-- so two are the same
pub cells_same : (l k : List ℕ) (j v : ℕ) → word_in k j v ≡ word_in l j v → member k j v ≡ member l j v → cell_in k j v ≡ cell_in l j v
unfolding cell_in
cells_same l k j v e f = ap₂ cell e f

-- a word stored at (j, v)
module _ (l : List ℕ) (j v x : ℕ) (slot : j < 8) where
  pub stored_here : 32 + 8 * v + j < length l → word_in (set l (32 + 8 * v + j) x) j v ≡ x
  stored_here h = get_or-set_same l (32 + 8 * v + j) x 0 h

  -- other words, and all sets, stay
  pub stored_vertex : (u : ℕ) → (u ≡ v → ⊥) → word_in (set l (32 + 8 * v + j) x) j u ≡ word_in l j u
  stored_vertex u n = get_or-set_other l (32 + 8 * v + j) (32 + 8 * u + j) x 0 (λ e. n (omega (arith, e)))

  pub stored_slot : (i u : ℕ) → i < 8 → (i ≡ j → ⊥) → word_in (set l (32 + 8 * v + j) x) i u ≡ word_in l i u
  stored_slot i u h n = get_or-set_other l (32 + 8 * v + j) (32 + 8 * u + i) x 0 (λ e. n (omega (arith, e)))

  pub stored_marks : (i u : ℕ) → i < 8 → u < 256 → member (set l (32 + 8 * v + j) x) i u ≡ member l i u
  stored_marks i u h k = member_stored l (32 + 8 * v + j) x i u k (omega arith)

-- words stay where a set is changed
pub replaced_words : (l : List ℕ) (j : ℕ) (w : ℕ → ℕ) (i u : ℕ) → j < 8 → word_in (replaced l j w) i u ≡ word_in l i u
replaced_words l j w i u h = replaced_other l j w (32 + 8 * u + i) (omega arith)

-- a vertex put into a set where a test holds
pub marked_size : (test : Bool) (l : List ℕ) (f x : ℕ) → length (cond test (inserted l f x) l) ≡ length l
marked_size true l f x = inserted_length l f x
marked_size false l f x = refl

pub marked_other : (test : Bool) (l : List ℕ) (f x k : ℕ) → x < 256 → 4 * f + 4 ≤ k → get_or (cond test (inserted l f x) l) k 0 ≡ get_or l k 0
marked_other true l f x k h g = inserted_other l f x k h g
marked_other false l f x k h g = refl

pub marked_member : (test : Bool) (l : List ℕ) (f x g v : ℕ) → x < 256 → v < 256 → 4 * f + 4 ≤ length l
    → member (cond test (inserted l f x) l) g v ≡ (member l g v || (test && (eqb g f && eqb v x)))
marked_member true l f x g v h k room = member_inserted l f x g v h k room
marked_member false l f x g v h k room = or_false (member l g v)

-- itself; another
pub marked_here : (test : Bool) (l : List ℕ) (f x : ℕ) → x < 256 → 4 * f + 4 ≤ length l → member l f x ≡ false
    → member (cond test (inserted l f x) l) f x ≡ test
marked_here test l f x h room e =
    marked_member test l f x f x h h room ∙ rw (e, eq-eqb f f refl, eq-eqb x x refl) (and_true test)

pub marked_elsewhere : (test : Bool) (l : List ℕ) (f x g v : ℕ) → x < 256 → v < 256 → 4 * f + 4 ≤ length l → (eqb g f && eqb v x) ≡ false
    → member (cond test (inserted l f x) l) g v ≡ member l g v
marked_elsewhere test l f x g v h k room e = marked_member test l f x g v h k room ∙ rw e (or_false_both (member l g v) test)

-- the digits above a vertex of an earlier set
pub marked_above : (test : Bool) (l : List ℕ) (f x g v : ℕ) → v < 256 → g < f → above (cond test (inserted l f x) l) g v ≡ above l g v
marked_above true l f x g v h k = above_inserted l f x g v h k
marked_above false l f x g v h k = refl
