-- The terms of a tree in written order: "one term written operator first" (document 01, "Layouts").
use Rattle.std.specs.Prelude.{ℕ, cond, List, [], ◌∷◌, ◌++◌, eqb}
use Rattle.meaning.specs.Plan.{Term, apply, leaf, literal}
use Rattle.meaning.specs.Query.{Kind, QueryTerm, number, operator, over, over_where, path, path_set, vertex}
use Rattle.terms.specs.declared.TermKind.{TermKind}
use Rattle.terms.specs.declared.TermKind.TheVariants.{OfEntry, OfFinal}
use Rattle.terms.specs.Terms.{literal_tag}
use Rattle.packed_path.specs.Packed.{packed}
use Rattle.term_text.specs.Text.{of_kind}
use Rattle.nodes.specs.declared.Term.{Term as Node}
use Rattle.nodes.specs.declared.Term.TheVariants.{Path, PathSet, Literal, Apply, Reduce, ReduceWhere, ResultLiteral, ResultApply, PathIndex}
use Rattle.nodes.specs.declared.Term.TheVariants.{EntryIndex}

-- a literal, of vertex terms and entries (0x11), or of result terms and final expressions (0x21)
unfoldable pub literal_node : ℕ → ℕ → Node
literal_node tag k = cond (eqb tag 0x11) (Literal k) (ResultLiteral k)

-- an operator, by the tag of the literals beside it (0x11 for 0x12, 0x21 for 0x22)
unfoldable pub apply_node : ℕ → ℕ → Node
apply_node tag o = cond (eqb tag 0x11) (Apply o) (ResultApply o)

-- "one term written operator first": a query's, a condition before the value
abbrev pub query_nodes : (κ : Kind) → QueryTerm κ → List Node
query_nodes κ (path c) = Path (packed c) ∷ []
query_nodes κ (path_set c) = PathSet (packed c) ∷ []
query_nodes κ (over o t) = Reduce o ∷ query_nodes vertex t
query_nodes κ (over_where o c t) = ReduceWhere o ∷ (query_nodes vertex c ++ query_nodes vertex t)
query_nodes κ (number x) = literal_node (literal_tag (of_kind κ)) x ∷ []
query_nodes κ (operator o s t) = apply_node (literal_tag (of_kind κ)) o ∷ (query_nodes κ s ++ query_nodes κ t)

-- and a worksheet's expression, over the node of an index
abbrev pub expression_nodes : TermKind → (ℕ → Node) → Term ℕ → List Node
expression_nodes kind N (leaf i) = N i ∷ []
expression_nodes kind N (literal x) = literal_node (literal_tag kind) x ∷ []
expression_nodes kind N (apply o s t) = apply_node (literal_tag kind) o ∷ (expression_nodes kind N s ++ expression_nodes kind N t)

-- "Worksheet expressions": an entry's, over the indices of path reductions
abbrev pub entry_nodes : Term ℕ → List Node
entry_nodes = expression_nodes OfEntry PathIndex

-- and the final one, over the indices of entries
abbrev pub final_nodes : Term ℕ → List Node
final_nodes = expression_nodes OfFinal EntryIndex
