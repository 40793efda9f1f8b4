-- THE BYTES OF TERMS (document 01, "Layouts").
use Rattle.std.specs.Prelude.{ℕ, ◌+◌, List, [], ◌∷◌, ◌++◌, length}
use Rattle.meaning.specs.Plan.{Term, apply, leaf, literal}
use Rattle.meaning.specs.Query.{Kind, PathReduction, QueryTerm, number, operator, over, over_where, path, path_set, result, vertex}
use Rattle.wire.specs.Wire.{le16, le32}
use Rattle.terms.specs.declared.TermKind.{TermKind}
use Rattle.terms.specs.declared.TermKind.TheVariants.{OfVertex, OfResult, OfEntry, OfFinal}
use Rattle.terms.specs.Terms.{literal_tag}

-- "a 16-bit start (0 to 255, or 65,535 for anywhere)"
abbrev pub start_of : List ℕ → ℕ
start_of [] = 65535
start_of (s ∷ ss) = s

-- "key count 1 to 3, the keys, a 16-bit start"
abbrev pub path_bytes : PathReduction → List ℕ
path_bytes c = length c.keys ∷ (c.keys ++ le16 (start_of c.sources))

-- "key count, keys, a set count 1 to 16, the 16-bit starts" (document 02, b)
abbrev pub starts_bytes : List ℕ → List ℕ
starts_bytes [] = []
starts_bytes (s ∷ ss) = le16 s ++ starts_bytes ss

abbrev pub set_bytes : PathReduction → List ℕ
set_bytes c = length c.keys ∷ (c.keys ++ (length c.sources ∷ starts_bytes c.sources))

-- how each kind of a query's terms is read
abbrev pub of_kind : Kind → TermKind
of_kind vertex = OfVertex
of_kind result = OfResult

-- "Place terms: 0x10, key count .. ; 0x11 and a 32-bit literal; 0x12, operator, two place terms. Result terms: 0x20, reduction, a place term; 0x21 and a 32-bit
-- literal; 0x22, operator, two result terms"; 0x23: "reduction, a place term as condition, a place term as value" (document 02, a); 0x13: "a chain whose start
-- is a set" (document 02, b)
abbrev pub query_bytes : (κ : Kind) → QueryTerm κ → List ℕ
query_bytes κ (path c) = 0x10 ∷ path_bytes c
query_bytes κ (path_set c) = 0x13 ∷ set_bytes c
query_bytes κ (over o t) = 0x20 ∷ o ∷ query_bytes vertex t
query_bytes κ (over_where o c t) = 0x23 ∷ o ∷ (query_bytes vertex c ++ query_bytes vertex t)
query_bytes κ (number x) = literal_tag (of_kind κ) ∷ le32 x
query_bytes κ (operator o s t) = (literal_tag (of_kind κ) + 1) ∷ o ∷ (query_bytes κ s ++ query_bytes κ t)

-- "Worksheet expressions use 0x30 and a chain's index for a chain, 0x31 and an entry's index for a reduction; operators and literals keep their bytes." (A
-- query's terms have no index; they are given the byte of the expression that they are fused to.)
abbrev pub index_tag : TermKind → ℕ
index_tag OfVertex = 0x30
index_tag OfResult = 0x31
index_tag OfEntry = 0x30
index_tag OfFinal = 0x31

abbrev pub expression_bytes : TermKind → Term ℕ → List ℕ
expression_bytes kind (leaf i) = index_tag kind ∷ i ∷ []
expression_bytes kind (literal x) = literal_tag kind ∷ le32 x
expression_bytes kind (apply o s t) = (literal_tag kind + 1) ∷ o ∷ (expression_bytes kind s ++ expression_bytes kind t)
