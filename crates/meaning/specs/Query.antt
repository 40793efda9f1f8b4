-- Queries (document 01: questions) as trees. Keys, operators and reductions are their numbers.
use Rattle.std.specs.Prelude.{ℕ, zero, suc, ◌+◌, Bool, true, false, ◌||◌, List, [], ◌∷◌, ◌++◌, ltb, eqb}
use Rattle.walks.specs.Walks.{Graph, Network, network}

-- a path reduction (document 01: chain): its keys and its sources, "a set count (0 for anywhere) and its starts" (document 02, b)
pub record PathReduction : Type 0 where
  pub keys : List ℕ
  pub sources : List ℕ

-- does a number stand in a list?
abbrev pub member : ℕ → List ℕ → Bool
member v [] = false
member v (s ∷ ss) = eqb s v || member v ss

-- "A walk may begin at any of them." (document 02, b), or anywhere: may it start at v, on n vertices?
abbrev pub starts : ℕ → List ℕ → ℕ → Bool
starts n [] v = ltb v n
starts n (s ∷ ss) v = member v (s ∷ ss)

-- the graph as the walks of a path reduction see it: every edge may be taken
abbrev pub every_edge : ℕ → Bool
every_edge i = true

abbrev pub network_of : Graph → PathReduction → Network
network_of g c = network g every_edge (starts g.vertices c.sources)

-- "Place terms" and "Result terms"
pub data Kind : Type 0 where
  vertex result : Kind

-- the terms of each kind: a path reduction with "a 16-bit start" or from anywhere (0x10), or "a chain whose start is a set" (0x13, document 02, b); a reduction
-- over all vertices (0x20), or over those that count, "a place term as condition, a place term as value" (0x23, document 02, a); of both kinds "a 32-bit
-- literal" (0x11, 0x21), and "operator, two [..] terms" (0x12, 0x22)
pub data QueryTerm : Kind → Type 0 where
  path : PathReduction → QueryTerm vertex
  path_set : PathReduction → QueryTerm vertex
  over : ℕ → QueryTerm vertex → QueryTerm result
  over_where : ℕ → QueryTerm vertex → QueryTerm vertex → QueryTerm result
  number : {κ : Kind} → ℕ → QueryTerm κ
  operator : {κ : Kind} → ℕ → QueryTerm κ → QueryTerm κ → QueryTerm κ

-- vertex terms (document 01: place terms), and result terms
abbrev pub VertexTerm : Type 0
VertexTerm = QueryTerm vertex

abbrev pub ResultTerm : Type 0
ResultTerm = QueryTerm result

-- where a term has a value: a vertex term at each vertex, a result term once
abbrev pub At : Kind → Type 0
At vertex = ℕ
At result = Unit {0}

-- "A question of kind 0 is a place term, of kind 1 a result term."
pub data Query : Type 0 where
  each : VertexTerm → Query
  single : ResultTerm → Query

-- the path reductions of a term and of a query, as written: a condition's before the value's; "A set of one is the same chain as 0x10 with that start."
-- (document 02, b)
abbrev pub paths : {κ : Kind} → QueryTerm κ → List PathReduction
paths (path c) = c ∷ []
paths (path_set c) = c ∷ []
paths (over o t) = paths t
paths (over_where o c t) = paths c ++ paths t
paths (number x) = []
paths (operator o s t) = paths s ++ paths t

abbrev pub written_paths : Query → List PathReduction
written_paths (each t) = paths t
written_paths (single t) = paths t

-- how many reductions a term has; one with a condition "counts as one reduction" (document 02, a)
abbrev pub reduction_count : {κ : Kind} → QueryTerm κ → ℕ
reduction_count (path c) = zero
reduction_count (path_set c) = zero
reduction_count (over o t) = suc (reduction_count t)
reduction_count (over_where o c t) = suc (reduction_count c + reduction_count t)
reduction_count (number x) = zero
reduction_count (operator o s t) = reduction_count s + reduction_count t
