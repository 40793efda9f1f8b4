-- Queries in their typed form, and what reading and writing them says (document 01: question `LPQ`).
use Rattle.std.specs.Prelude.{ℕ, cond, List, ◌∷◌, ◌++◌, Result, Ok, Err, eqb, take}
use Rattle.meaning.specs.Limits.{query_terms}
use Rattle.meaning.specs.Query.{Query, each, result, single, vertex}
use Rattle.nodes.specs.Text.{nodes_text}
use Rattle.nodes.specs.Nodes.{padded}
use Rattle.nodes.specs.Tree.{query_nodes}
use Rattle.query.specs.Query.{query_code, query_scan}
use Rattle.query.specs.Tree.{query_of}
use Rattle.wire.specs.Header.{header_bytes}
use Rattle.wire.specs.Wire.{Reply, fitted, unless}
use Rattle.query_form.specs.declared.Form.{Form}
use Rattle.query_form.specs.declared.Reading.{Reading}

-- the typed form of a query: "a kind byte, 0 for a value at each place, 1 for one result, then one term written operator first"
unfoldable pub form_of : Query → Form
form_of (each t) = record { kind = 0; count = query_terms (each t); nodes = padded (query_nodes vertex t) }
form_of (single t) = record { kind = 1; count = query_terms (single t); nodes = padded (query_nodes result t) }

-- the bytes of a typed form, legal or not
unfoldable pub form_bytes : Form → List ℕ
form_bytes f = header_bytes 0x51 1 ++ (f.kind ∷ nodes_text (take f.count f.nodes))

-- "A writer judges what it is handed as the reader of its bytes would, then 15"
unfoldable pub write_reply : Form → ℕ → Reply
write_reply f room = unless (query_code (form_bytes f)) (fitted (form_bytes f) room)

-- THE READING OF ACCEPTED BYTES: the typed form of the query that they write, its different path reductions in order of first writing (`table`) and how
-- many reductions it has, as the scan finds them
unfoldable pub query_reading : List ℕ → Reading
query_reading s =
    let w = query_scan s in
    record { form = form_of (query_of s); paths = w.paths; table = w.table; reductions = w.reductions }

-- THE READING OF ANY BYTES: that of accepted ones, or the number of the refusal
unfoldable pub query_judged : List ℕ → Result Reading ℕ
query_judged s = cond (eqb (query_code s) 0) (Ok (query_reading s)) (Err (query_code s))
