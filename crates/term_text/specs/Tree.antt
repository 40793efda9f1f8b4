-- BYTES AS TREES (document 01, "Layouts"): the terms that accepted bytes write. Of the bytes of every legal term these give back the term and where it ends
-- (`term_back`, `expression_back`, proofs/Tree). Other bytes are given some term, and accepted bytes do not reach that.
use Rattle.std.specs.Prelude.{ℕ, zero, suc, ◌+◌, ◌*◌, true, false, cond, List, [], ◌∷◌, eqb, get_or, take, drop}
use Rattle.meaning.specs.Plan.{Term, apply, leaf, literal}
use Rattle.meaning.specs.Query.{Kind, QueryTerm, ResultTerm, VertexTerm, number, operator, over, over_where, path, path_set, result, vertex}
use Rattle.wire.specs.Wire.{at16, at32}

-- what was read, and where it ends
pub record Read (A : Type 0) : Type 0 where
  pub tree : A
  pub end : ℕ

-- a reader: of what starts at some byte
abbrev pub Reader : Type 0 → Type 0
Reader A = List ℕ → ℕ → Read A

-- two bytes, the second a number, and one thing or two behind them: "reduction, a place term", "operator, two .. terms"
abbrev pub one_of : {A B : Type 0} → (ℕ → A → B) → Reader A → Reader B
one_of make read s i = let t = read s (i + 2) in record { tree = make (get_or s (i + 1) 0) t.tree; end = t.end }

abbrev pub two_of : {A B : Type 0} → (ℕ → A → A → B) → Reader A → Reader B
two_of make read s i =
    let t = read s (i + 2) in
    let u = read s t.end in
    record { tree = make (get_or s (i + 1) 0) t.tree u.tree; end = u.end }

-- "a 32-bit literal" behind the byte `tag`, "operator, two .. terms" behind the byte that is one more; any other byte as `other` says
abbrev pub by_tag : {A : Type 0} → (ℕ → A) → (ℕ → A → A → A) → (tag : ℕ) → Reader A → (other : Reader A) → Reader A
by_tag literal_as join tag read other s i =
    elim (eqb (get_or s i 0) tag) [
      | true ↦ record { tree = literal_as (at32 s (i + 1)); end = i + 5 }
      | false ↦ elim (eqb (get_or s i 0) (tag + 1)) [ true ↦ two_of join read s i | false ↦ other s i ]
    ]

-- "a 16-bit start (0 to 255, or 65,535 for anywhere)" as a set; "a set count .. and its starts" (document 02, b): so many starts from byte i on
abbrev pub one_start : ℕ → List ℕ
one_start source = cond (eqb source 65535) [] (source ∷ [])

unfoldable pub starts_of : (count : ℕ) → List ℕ → ℕ → List ℕ
starts_of zero s i = []
starts_of (suc count) s i = at16 s i ∷ starts_of count s (i + 2)

-- "0x10, key count 1 to 3, the keys, a 16-bit start"; 0x13: "key count, keys, a set count 1 to 16, the 16-bit starts" (document 02, b)
unfoldable pub written_path : Reader VertexTerm
written_path s i =
    let n = get_or s (i + 1) 0 in
    let k = get_or s (i + 2 + n) 0 in
    elim (eqb (get_or s i 0) 0x13) [
      | true ↦
          record { tree = path_set (record { keys = take n (drop (i + 2) s); sources = starts_of k s (i + 3 + n) }); end = i + 3 + n + 2 * k }
      | false ↦ record { tree = path (record { keys = take n (drop (i + 2) s); sources = one_start (at16 s (i + 2 + n)) }); end = i + 4 + n }
    ]

-- "0x20, reduction, a place term", and 0x23: "reduction, a place term as condition, a place term as value" (document 02, a)
unfoldable pub written_reduction : Reader VertexTerm → Reader ResultTerm
written_reduction read s i = elim (eqb (get_or s i 0) 0x23) [ true ↦ two_of over_where read s i | false ↦ one_of over read s i ]

-- "one term written operator first", to so many levels of depth. "Place terms: ..; 0x11 and a 32-bit literal; 0x12, operator, two place terms. Result terms:
-- ..; 0x21 and a 32-bit literal; 0x22, operator, two result terms"
unfoldable pub query_term_of : (depth : ℕ) → (κ : Kind) → Reader (QueryTerm κ)
query_term_of zero κ s i = record { tree = number 0; end = i }
query_term_of (suc depth) vertex s i = by_tag number operator 0x11 (query_term_of depth vertex) written_path s i
query_term_of (suc depth) result s i = by_tag number operator 0x21 (query_term_of depth result) (written_reduction (query_term_of depth vertex)) s i

-- "to a depth of 16"
abbrev pub vertex_of : Reader VertexTerm
vertex_of = query_term_of 16 vertex

abbrev pub result_of : Reader ResultTerm
result_of = query_term_of 16 result

-- "0x30 and a chain's index for a chain, 0x31 and an entry's index for a reduction"
unfoldable pub written_index : Reader (Term ℕ)
written_index s i = record { tree = leaf (get_or s (i + 1) 0); end = i + 2 }

-- "Worksheet expressions ..; operators and literals keep their bytes": 0x11 and 0x12 in entries, 0x21 and 0x22 in the final expression
unfoldable pub expression_to : (depth : ℕ) → (tag : ℕ) → Reader (Term ℕ)
expression_to zero tag s i = record { tree = literal 0; end = i }
expression_to (suc depth) tag s i = by_tag literal apply tag (expression_to depth tag) written_index s i

abbrev pub expression_of : (tag : ℕ) → Reader (Term ℕ)
expression_of = expression_to 16

-- so many things, one behind the other
unfoldable pub several_of : {A : Type 0} → Reader A → (count : ℕ) → Reader (List A)
several_of one zero s i = record { tree = []; end = i }
several_of one (suc count) s i =
    let a = one s i in
    let l = several_of one count s a.end in
    record { tree = a.tree ∷ l.tree; end = l.end }
