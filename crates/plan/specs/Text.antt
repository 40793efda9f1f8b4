-- THE BYTES OF A PLAN (document 01, "Layouts": worksheet `LPW`).
use Rattle.std.specs.Prelude.{ℕ, ◌+◌, cond, List, [], ◌∷◌, ◌++◌, eqb, length, get_or}
use Rattle.std.proofs.Math.Option.{Option, none, some}
use Rattle.meaning.specs.Plan.{Body, Plan, Term, VertexReduction, each_vertex, one_result}
use Rattle.meaning.specs.Query.{PathReduction}
use Rattle.terms.specs.declared.TermKind.TheVariants.{OfEntry, OfFinal}
use Rattle.term_text.specs.Text.{expression_bytes, start_of, starts_bytes}
use Rattle.wire.specs.Header.{header_bytes}
use Rattle.wire.specs.Wire.{le16}

-- "16-bit start" in version 1; in version 2 "each chain has a set count (0 for anywhere) and its starts after its key bytes" (document 02, b)
abbrev pub listed_starts : ℕ → List ℕ → List ℕ
listed_starts version ss = cond (eqb version 1) (le16 (start_of ss)) (length ss ∷ starts_bytes ss)

-- "key count, three key bytes with unused ones 0"
abbrev pub listed_bytes : ℕ → PathReduction → List ℕ
listed_bytes version c = length c.keys ∷ get_or c.keys 0 0 ∷ get_or c.keys 1 0 ∷ get_or c.keys 2 0 ∷ listed_starts version c.sources

-- "c chains"
abbrev pub all_listed_bytes : ℕ → List PathReduction → List ℕ
all_listed_bytes version [] = []
all_listed_bytes version (c ∷ cs) = listed_bytes version c ++ all_listed_bytes version cs

-- "the entry's reduction byte has 128 added and the condition's expression precedes the value's" (document 02, a)
abbrev pub reduction_byte : ℕ → Option (Term ℕ) → ℕ
reduction_byte r none = r
reduction_byte r (some c) = 128 + r

abbrev pub condition_bytes : Option (Term ℕ) → List ℕ
condition_bytes none = []
condition_bytes (some c) = expression_bytes OfEntry c

-- "e entries, each a reduction byte and an expression"
abbrev pub entry_bytes : VertexReduction ℕ → List ℕ
entry_bytes e = reduction_byte e.reduction e.condition ∷ (condition_bytes e.condition ++ expression_bytes OfEntry e.body)

abbrev pub entries_bytes : List (VertexReduction ℕ) → List ℕ
entries_bytes [] = []
entries_bytes (e ∷ es) = entry_bytes e ++ entries_bytes es

-- "Kind 0 has e = 1 and reduction byte 0"; "for kind 1 a final expression"
abbrev pub body_bytes : Body → List ℕ
body_bytes (each_vertex t) = 1 ∷ 0 ∷ expression_bytes OfEntry t
body_bytes (one_result es t) = length es ∷ (entries_bytes es ++ expression_bytes OfFinal t)

-- "kind" and "e" of a worksheet's bytes
abbrev pub kind_of : Body → ℕ
kind_of (each_vertex t) = 0
kind_of (one_result es t) = 1

abbrev pub entry_count : Body → ℕ
entry_count (each_vertex t) = 1
entry_count (one_result es t) = length es

-- "kind byte; chain count c (0 to 8) and c chains ..; entry count e; e entries ..; for kind 1 a final expression", behind the header of its version
abbrev pub encode : Plan → List ℕ
encode p =
    header_bytes 0x57 p.version ++ (kind_of p.body ∷ length p.paths ∷ (all_listed_bytes p.version p.paths ++ body_bytes p.body))
