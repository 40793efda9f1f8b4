-- The bytes of a query (document 01: question `LPQ`), and how they are read.
use Rattle.std.specs.Prelude.{ℕ, cond, List, ◌∷◌, ◌++◌, eqb, get_or}
use Rattle.meaning.specs.Query.{Query, each, result, single, vertex}
use Rattle.fields.specs.Fields.{opening_code}
use Rattle.progress.specs.Progress.{Scan}
use Rattle.terms.specs.declared.TermKind.{TermKind}
use Rattle.terms.specs.declared.TermKind.TheVariants.{OfVertex, OfResult}
use Rattle.terms.specs.Terms.{read}
use Rattle.progress.specs.Progress.{blank, ended, started}
use Rattle.term_text.specs.Text.{query_bytes}
use Rattle.wire.specs.Header.{header_bytes}

-- "a kind byte, 0 for a value at each place, 1 for one result, then one term written operator first"
abbrev pub body_bytes : Query → List ℕ
body_bytes (each t) = 0 ∷ query_bytes vertex t
body_bytes (single t) = 1 ∷ query_bytes result t

-- with the header of an `LPQ` file
abbrev pub encode : Query → List ℕ
encode q = header_bytes 0x51 1 ++ body_bytes q

-- "A question of kind 0 is a place term, of kind 1 a result term.": the kind of its term, by its kind byte
abbrev pub term_kind : ℕ → TermKind
term_kind b = cond (eqb b 0) OfVertex OfResult

-- the reading: header, kind, the term to a depth of 16, left-over bytes
unfoldable pub query_scan : List ℕ → Scan
query_scan s =
    cond (eqb (opening_code 0x51 1 s) 0) (ended s (read (term_kind (get_or s 5 256)) 16 s (started 6))) (blank (opening_code 0x51 1 s))

-- the number of the first refusal, 0 where the bytes are accepted
abbrev pub query_code : List ℕ → ℕ
query_code s = (query_scan s).code
