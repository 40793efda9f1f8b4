-- THE QUERY THAT ACCEPTED BYTES WRITE: of every legal query's encoding it is the query (`query_back`, proofs/Tree).
use Rattle.std.specs.Prelude.{ℕ, true, false, List, eqb, get_or}
use Rattle.meaning.specs.Query.{Query, each, single}
use Rattle.term_text.specs.Tree.{result_of, vertex_of}

-- "a kind byte, 0 for a value at each place, 1 for one result, then one term", behind the five bytes of the header
unfoldable pub query_of : List ℕ → Query
query_of s = elim (eqb (get_or s 5 0) 0) [ true ↦ each (vertex_of s 6).tree | false ↦ single (result_of s 6).tree ]
