-- The terms of queries (document 01: place terms and result terms) and the expressions of plans: the bytes of each are collected as its nodes, the text of
-- these is its bytes, and there are as many as it has terms. Assumes nothing.
use Prim.Native.Nat.{ℕ, suc, ◌+◌, ◌<◌}
use mathlib.Core.Path.{◌≡◌, refl, ap, ap₂, ◌∙◌}
use mathlib.Core.List.{List, [], ◌∷◌, ◌++◌}
use lib.ListN.{length, length-append}
use Rattle.meaning.specs.Limits.{Every, TermFits, size_of, terms}
use Rattle.meaning.specs.Plan.{Term, apply, leaf, literal}
use Rattle.meaning.specs.Query.{Kind, QueryTerm, number, operator, over, over_where, path, path_set, vertex}
use Rattle.terms.specs.declared.TermKind.{TermKind}
use Rattle.terms.specs.declared.TermKind.TheVariants.{OfEntry, OfFinal}
use Rattle.term_text.specs.Text.{expression_bytes, index_tag, of_kind, query_bytes}
use Rattle.nodes.specs.declared.Term.{Term as Node}
use Rattle.nodes.specs.declared.Term.TheVariants.{EntryIndex, PathIndex, Reduce, ReduceWhere}
use Rattle.nodes.specs.Text.{term_text}
use Rattle.nodes.specs.Tree.{entry_nodes, expression_nodes, final_nodes, query_nodes}
use Rattle.nodes.proofs.Fields.{One, apply_one, byte_one, literal_one, path_one, set_one}
use Rattle.nodes.proofs.Shape.{Written, both_written, more_written, one_written}

-- a node, and those of two terms
two_size : (l r : List Node) (n m : ℕ) → length l ≡ n → length r ≡ m → suc (length (l ++ r)) ≡ suc (n + m)
two_size l r n m p q = ap suc (length-append l r ∙ ap₂ ◌+◌ p q)

-- ---- terms of queries, of both kinds

-- the bytes are collected as the nodes, and the text of these is the bytes
pub query_written : (κ : Kind) (t : QueryTerm κ) → TermFits 256 t → Written (size_of t) (query_bytes κ t) (query_nodes κ t)
unfolding term_text
query_written κ (path c) f = one_written (path_one c f)
query_written κ (path_set c) f = one_written (set_one c f)
query_written κ (over o t) f = more_written (byte_one 0x20 o Reduce (λ s i. refl) (λ s i. refl) refl) (query_written vertex t f.2)
query_written κ (over_where o c t) f =
    more_written (byte_one 0x23 o ReduceWhere (λ s i. refl) (λ s i. refl) refl)
    (both_written (query_written vertex c f.2) (query_written vertex t f.3))
query_written κ (number x) f = one_written (literal_one (of_kind κ) x f)
query_written κ (operator o s t) f =
    more_written (apply_one (of_kind κ) o) (both_written (query_written κ s f.2) (query_written κ t f.3))

-- a node for each of its terms
pub query_size : (κ : Kind) (t : QueryTerm κ) → length (query_nodes κ t) ≡ size_of t
query_size κ (path c) = refl
query_size κ (path_set c) = refl
query_size κ (over o t) = ap suc (query_size vertex t)
query_size κ (over_where o c t) = two_size (query_nodes vertex c) (query_nodes vertex t) (size_of c) (size_of t) (query_size vertex c) (query_size vertex t)
query_size κ (number x) = refl
query_size κ (operator o s t) = two_size (query_nodes κ s) (query_nodes κ t) (size_of s) (size_of t) (query_size κ s) (query_size κ t)

-- ---- expressions of plans, over the node of an index

-- the same, where it holds of an index
module _ (kind : TermKind) (N : ℕ → Node) where
  expression_written : ((i : ℕ) → One (index_tag kind ∷ i ∷ []) (N i)) → (count : ℕ) (t : Term ℕ) → Every (λ i. i < count) t
      → Written (terms t) (expression_bytes kind t) (expression_nodes kind N t)
  expression_written one count (leaf i) f = one_written (one i)
  expression_written one count (literal x) f = one_written (literal_one kind x f)
  expression_written one count (apply o s t) f =
      more_written (apply_one kind o)
      (both_written (expression_written one count s f.2) (expression_written one count t f.3))

  expression_size : (t : Term ℕ) → length (expression_nodes kind N t) ≡ terms t
  expression_size (leaf i) = refl
  expression_size (literal x) = refl
  expression_size (apply o s t) =
      two_size (expression_nodes kind N s) (expression_nodes kind N t) (terms s) (terms t) (expression_size s) (expression_size t)

-- ---- entries, over the indices of path reductions

pub entry_written : (count : ℕ) (t : Term ℕ) → Every (λ i. i < count) t → Written (terms t) (expression_bytes OfEntry t) (entry_nodes t)
unfolding term_text
entry_written = expression_written OfEntry PathIndex (λ i. byte_one 0x30 i PathIndex (λ s j. refl) (λ s j. refl) refl)

-- a node for each of its terms
pub entry_size : (t : Term ℕ) → length (entry_nodes t) ≡ terms t
entry_size = expression_size OfEntry PathIndex

-- ---- final expressions, over the indices of entries

pub final_written : (count : ℕ) (t : Term ℕ) → Every (λ i. i < count) t → Written (terms t) (expression_bytes OfFinal t) (final_nodes t)
unfolding term_text
final_written = expression_written OfFinal EntryIndex (λ i. byte_one 0x31 i EntryIndex (λ s j. refl) (λ s j. refl) refl)

-- a node for each of its terms
pub final_size : (t : Term ℕ) → length (final_nodes t) ≡ terms t
final_size = expression_size OfFinal EntryIndex
