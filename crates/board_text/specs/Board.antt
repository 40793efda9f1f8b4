-- BOARDS (document 02, d): "A board is a count byte, then each question behind its 16-bit length", how it is judged, and the queries that it has.
use Rattle.std.specs.Prelude.{ℕ, zero, suc, ◌+◌, ◌≤◌, cond, List, [], ◌∷◌, ◌++◌, ltb, eqb, length, get_or, take, drop}
use Rattle.meaning.specs.Limits.{QueryLegal}
use Rattle.meaning.specs.Plan.{put_all}
use Rattle.meaning.specs.Query.{PathReduction, Query, written_paths}
use Rattle.query.specs.Query.{query_code}
use Rattle.query.specs.Query as query
use Rattle.query.specs.Tree.{query_of}
use Rattle.walks.specs.Lists.{All}
use Rattle.wire.specs.Header.{then}
use Rattle.wire.specs.Wire.{at16, le16}

-- "each question behind its 16-bit length"
abbrev pub queries_bytes : List Query → List ℕ
queries_bytes [] = []
queries_bytes (q ∷ qs) = le16 (length (query.encode q)) ++ (query.encode q ++ queries_bytes qs)

-- THE BYTES OF A BOARD
abbrev pub encode : List Query → List ℕ
encode qs = length qs ∷ queries_bytes qs

-- the path reductions of all queries as written; put together "in order of first writing over the whole board"
abbrev pub all_written : List Query → List PathReduction
all_written [] = []
all_written (q ∷ qs) = written_paths q ++ all_written qs

abbrev pub joint_paths : List Query → List PathReduction
joint_paths qs = put_all [] (all_written qs)

-- "up to eight questions"; "a ninth different chain over them all is 14"
pub record BoardLegal (n : ℕ) (qs : List Query) : Type 0 where
  pub some_query : 1 ≤ length qs
  pub few_queries : length qs ≤ 8
  pub queries_legal : All (QueryLegal n) qs
  pub few_paths : length (joint_paths qs) ≤ 8

-- "A missing count is 1, a count of 0 or above eight is 12."
unfoldable pub count_code : List ℕ → ℕ
count_code b = cond (eqb (length b) 0) 1 (cond (eqb (get_or b 0 0) 0) 12 (cond (ltb 8 (get_or b 0 0)) 12 0))

-- the bytes of the query behind the length at the front, and what follows it
abbrev pub first_query : List ℕ → List ℕ
first_query s = take (at16 s 0) (drop 2 s)

abbrev pub after_query : List ℕ → List ℕ
after_query s = drop (2 + at16 s 0) s

-- "a missing length or one running past the end being 1"; then that query "as a question of exactly these bytes"
unfoldable pub first_code : List ℕ → ℕ
first_code s = cond (ltb (length s) 2) 1 (cond (ltb (length s) (2 + at16 s 0)) 1 (query_code (first_query s)))

-- "Then the questions are judged in turn ..; left-over bytes are 6"
abbrev pub queries_code : ℕ → List ℕ → ℕ
queries_code zero s = cond (eqb (length s) 0) 0 6
queries_code (suc k) s = then (first_code s) (queries_code k (after_query s))

-- the queries, so many
abbrev pub queries_in : ℕ → List ℕ → List Query
queries_in zero s = []
queries_in (suc k) s = query_of (first_query s) ∷ queries_in k (after_query s)

-- THE QUERIES OF A BOARD'S BYTES: of every legal board's encoding they are its queries (`board_back`, proofs/Exact)
unfoldable pub queries_of : List ℕ → List Query
queries_of b = queries_in (get_or b 0 0) (drop 1 b)

-- "a ninth different chain over them all is 14"
abbrev pub joint_code : List Query → ℕ
joint_code qs = cond (ltb 8 (length (joint_paths qs))) 14 0

-- the number of the first refusal, 0 where the bytes are accepted
unfoldable pub board_code : List ℕ → ℕ
board_code b = then (count_code b) (then (queries_code (get_or b 0 0) (drop 1 b)) (joint_code (queries_of b)))
