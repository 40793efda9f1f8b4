-- The value found is that of the expression's tree, of entries and of final expressions alike: `expression_value`. Assumes nothing.
use Prim.Native.Nat.{ℕ, zero, suc, ◌+◌, ◌^◌, ◌≤◌, ◌<◌}
use mathlib.Core.Path.{◌≡◌, refl, ap, ap₂, ◌∙◌}
use mathlib.Core.Logic.{◌⊎◌, inl, inr}
use mathlib.Core.List.{List, [], ◌∷◌, ◌++◌, append_assoc}
use native.Mathlib.Omega.{arith}
use borrow.Author.Tests.{lt-leb}
use lib.ListN.{length, get_or, drop, length-append}
use Rattle.meaning.specs.Limits.{Every, Expression, depth}
use Rattle.meaning.specs.Plan.{Term, apply, leaf, literal}
use Rattle.meaning.specs.Run.{evaluate}
use Rattle.nodes.proofs.Fields.{literal_tags}
use Rattle.terms.specs.declared.TermKind.{TermKind}
use Rattle.terms.specs.declared.TermKind.TheVariants.{OfEntry, OfFinal}
use Rattle.terms.specs.Terms.{literal_tag}
use Rattle.term_text.specs.Text.{expression_bytes, index_tag}
use Rattle.term_text.proofs.Steps.{byte_there, drop_on, tag_there, there, word_there}
use Rattle.value.specs.declared.Row.{Row}
use Rattle.value.specs.declared.Value.{Value}
use Rattle.value.specs.declared.Value.TheVariants.{Absent, Number}
use Rattle.value.specs.Value.{operate, values}
use Rattle.wire.specs.Wire.{le32}
use Rattle.eval.specs.declared.Head.TheVariants.{Apply, Leaf}
use Rattle.eval.specs.Steps.{evaluated, found, head, joined}

-- the byte of an index, in entries and in final expressions
abbrev Indexed : TermKind → Type 0
Indexed m = (index_tag m ≡ 0x30) ⊎ (index_tag m ≡ 0x31)

-- what stands at a position, by its tag
module _ (s : List ℕ) (rows : List Row) (at : ℕ) where
  head_index : (tag i : ℕ) (l : List ℕ) → (tag ≡ 0x30) ⊎ (tag ≡ 0x31) → drop at s ≡ tag ∷ i ∷ l
      → head s rows at ≡ Leaf (found (get_or (values rows) i Absent) (at + 2))
  unfolding head
  head_index tag i l (inl p) e = rw (lt-leb (length s) at (there s at tag (i ∷ l) e), tag_there s at tag (i ∷ l) e, byte_there s at tag i l e, p) refl
  head_index tag i l (inr p) e = rw (lt-leb (length s) at (there s at tag (i ∷ l) e), tag_there s at tag (i ∷ l) e, byte_there s at tag i l e, p) refl

  head_literal : (tag k : ℕ) (l : List ℕ) → (tag ≡ 0x11) ⊎ (tag ≡ 0x21) → k < 2 ^ 32 → drop at s ≡ tag ∷ (le32 k ++ l)
      → head s rows at ≡ Leaf (found (Number k) (at + 5))
  unfolding head
  head_literal tag k l (inl p) h e =
      rw (lt-leb (length s) at (there s at tag (le32 k ++ l) e), tag_there s at tag (le32 k ++ l) e, word_there s at tag k l h e, p) refl
  head_literal tag k l (inr p) h e =
      rw (lt-leb (length s) at (there s at tag (le32 k ++ l) e), tag_there s at tag (le32 k ++ l) e, word_there s at tag k l h e, p) refl

  head_apply : (tag o : ℕ) (l : List ℕ) → (tag ≡ 0x11) ⊎ (tag ≡ 0x21) → drop at s ≡ (tag + 1) ∷ o ∷ l → head s rows at
      ≡ Apply o (at + 2)
  unfolding head
  head_apply tag o l (inl p) e =
      rw (lt-leb (length s) at (there s at (tag + 1) (o ∷ l) e), tag_there s at (tag + 1) (o ∷ l) e, byte_there s at (tag + 1) o l e, p) refl
  head_apply tag o l (inr p) e =
      rw (lt-leb (length s) at (there s at (tag + 1) (o ∷ l) e), tag_there s at (tag + 1) (o ∷ l) e, byte_there s at (tag + 1) o l e, p) refl

module _ (m : TermKind) (indexed : Indexed m) (count : ℕ) (s : List ℕ) (rows : List Row) where
  -- THE VALUE OF THE TREE, where its bytes stand and its depth is not above what is left; and the position behind it
  pub expression_value : (t : Term ℕ) → Every (λ i. i < count) t → (left at : ℕ) (rest : List ℕ) → depth t ≤ left
      → drop at s ≡ expression_bytes m t ++ rest
      → evaluated left s rows at ≡ found (evaluate (values rows) t) (at + length (expression_bytes m t))
  unfolding evaluated joined
  expression_value t f zero at rest h e = absurd (deep t h)
    where
      deep : (t : Term ℕ) → depth t ≤ 0 → ⊥
      deep (leaf a) h = omega arith
      deep (literal k) h = omega arith
      deep (apply o t u) h = omega arith
  expression_value (leaf i) f (suc left) at rest h e = ap (joined (evaluated left s rows)) (head_index s rows at (index_tag m) i rest indexed e)
  expression_value (literal k) f (suc left) at rest h e =
      ap (joined (evaluated left s rows)) (head_literal s rows at (literal_tag m) k rest (literal_tags m) f e)
  expression_value (apply o t u) f (suc left) at rest h e =
      let d1 : drop (at + 2) s ≡ expression_bytes m t ++ (expression_bytes m u ++ rest) =
      drop_on s at 2 ((literal_tag m + 1) ∷ o ∷ []) ((expression_bytes m t ++ expression_bytes m u) ++ rest) e refl
      ∙ append_assoc (expression_bytes m t) (expression_bytes m u) rest in
      let d2 = drop_on s (at + 2) (length (expression_bytes m t)) (expression_bytes m t) (expression_bytes m u ++ rest) d1 refl in
      let a = expression_value t f.2 left (at + 2) (expression_bytes m u ++ rest) (omega arith) d1 in
      let b = expression_value u f.3 left (at + 2 + length (expression_bytes m t)) rest (omega arith) d2 in
      let end : at + 2 + length (expression_bytes m t) + length (expression_bytes m u) ≡ at + suc
      (suc (length (expression_bytes m t ++ expression_bytes m u))) = omega (arith, length-append (expression_bytes m t) (expression_bytes m u)) in
      ap (joined (evaluated left s rows)) (head_apply s rows at (literal_tag m) o ((expression_bytes m t ++ expression_bytes m u) ++ rest) (literal_tags m) e)
      ∙ rw (a, b, end) refl

module _ (count : ℕ) (s : List ℕ) (rows : List Row) (t : Term ℕ) (legal : Expression count t) (at : ℕ) (rest : List ℕ) where
  -- of an entry, whose leaves are the indices of path reductions
  pub entry_value : drop at s ≡ expression_bytes OfEntry t ++ rest
      → evaluated 16 s rows at ≡ found (evaluate (values rows) t) (at + length (expression_bytes OfEntry t))
  entry_value = expression_value OfEntry (inl refl) count s rows t legal.0 16 at rest legal.1

  -- of the final expression, whose leaves are the indices of entries
  pub final_value : drop at s ≡ expression_bytes OfFinal t ++ rest
      → evaluated 16 s rows at ≡ found (evaluate (values rows) t) (at + length (expression_bytes OfFinal t))
  final_value = expression_value OfFinal (inr refl) count s rows t legal.0 16 at rest legal.1

-- the value rests on the first `count` values alone: rows behind them may hold anything
pub evaluate_same : (count : ℕ) (vs ws : List Value) → ((i : ℕ) → i < count → get_or vs i Absent ≡ get_or ws i Absent) → (t : Term ℕ)
    → Every (λ i. i < count) t
    → evaluate vs t ≡ evaluate ws t
evaluate_same count vs ws h (leaf i) f = h i f
evaluate_same count vs ws h (literal k) f = refl
evaluate_same count vs ws h (apply o t u) f = ap₂ (operate o) (evaluate_same count vs ws h t f.2) (evaluate_same count vs ws h u f.3)
