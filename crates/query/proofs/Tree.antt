-- THE ENCODING OF A LEGAL QUERY GIVES BACK THE QUERY, AND ACCEPTED BYTES ARE THE ENCODING OF THE QUERY THAT THEY GIVE. Assumes nothing.
use Prim.Native.Nat.{ℕ}
use mathlib.Core.Path.{◌≡◌, sym, ap}
use mathlib.Core.List.{List, [], append-nil}
use Rattle.meaning.specs.Limits.{QueryLegal}
use Rattle.meaning.specs.Query.{Query, ResultTerm, VertexTerm, each, result, single, vertex}
use Rattle.term_text.specs.Text.{query_bytes}
use Rattle.term_text.specs.Tree.{Read}
use Rattle.term_text.proofs.Tree.{given, seen, term_back}
use Rattle.wire.specs.Wire.{Bytes}
use Rattle.query.specs.Query.{encode, query_code}
use Rattle.query.specs.Tree.{query_of}
use Rattle.query.proofs.Exact.{read_complete, read_sound}

-- THE QUERY IS GIVEN BACK
pub query_back : (q : Query) → QueryLegal 256 q → query_of (encode q) ≡ q
unfolding query_of
query_back (each t) l =
    ap (λ (r : Read VertexTerm). each r.tree)
    (term_back (encode (each t)) vertex t l.legal 16 l.shallow 6 [] (sym (append-nil (query_bytes vertex t))))
query_back (single t) l =
    ap (λ (r : Read ResultTerm). single r.tree)
    (term_back (encode (single t)) result t l.legal 16 l.shallow 6 [] (sym (append-nil (query_bytes result t))))

-- so a query is seen from its bytes: accepted bytes are read as one query
pub encode_unique : (q r : Query) → QueryLegal 256 q → QueryLegal 256 r → encode q ≡ encode r → q ≡ r
encode_unique = seen encode query_of (QueryLegal 256) query_back

-- THE READER ACCEPTS EVERY LEGAL QUERY'S BYTES
pub query_accepted : (q : Query) → QueryLegal 256 q → query_code (encode q) ≡ 0
query_accepted q l = (read_complete q l).accepted

-- WHAT ACCEPTED BYTES GIVE IS LEGAL, AND THEY ARE ITS ENCODING
pub query_read : (s : List ℕ) → Bytes s → query_code s ≡ 0 → QueryLegal 256 (query_of s) × (encode (query_of s) ≡ s)
query_read s b z = given encode query_of (QueryLegal 256) query_back s (read_sound s b z)
