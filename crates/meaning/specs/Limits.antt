-- What is legal (document 01, "Layouts"): graphs, queries and plans as trees.
use Rattle.std.specs.Prelude.{ℕ, zero, suc, ◌+◌, ◌^◌, ◌≤◌, ◌<◌, max, Bool, true, ◌&&◌, List, [], ◌∷◌, T, leb, length}
use Rattle.std.proofs.Math.Option.{Option, none, some}
use Rattle.walks.specs.Keys.{legal_keys}
use Rattle.walks.specs.Lists.{All}
use Rattle.walks.specs.Walks.{Graph, edge_at}
use Rattle.meaning.specs.Plan.{Body, Plan, Term, VertexReduction, apply, each_vertex, leaf, literal, one_result, put_all}
use Rattle.meaning.specs.Query.{Kind, PathReduction, Query, QueryTerm, each, number, operator, over, over_where, path, path_set, reduction_count}
use Rattle.meaning.specs.Query.{single, written_paths}

-- the edges are between vertices, and there is a vertex
pub record GraphFits (g : Graph) : Type 0 where
  pub some_vertex : 0 < g.vertices
  pub ends_fit : (i : ℕ) → i < length g.edges → ((edge_at g.edges i).from < g.vertices) × ((edge_at g.edges i).to < g.vertices)

-- "places n (16 bits, 1 to 256), passages m (16 bits, 0 to 1,024)"; "Seconds may be 0 to 65,535; crate size 1 to 65,534"
pub record GraphLegal (g : Graph) : Type 0 where
  pub fits : GraphFits g
  pub few_vertices : g.vertices ≤ 256
  pub few_edges : length g.edges ≤ 1024
  pub weights : (i : ℕ) → i < length g.edges → (edge_at g.edges i).weight ≤ 65535
  pub capacities : (i : ℕ) → i < length g.edges → (1 ≤ (edge_at g.edges i).capacity) × ((edge_at g.edges i).capacity ≤ 65534)

-- "the 16-bit starts strictly rising" (document 02, b): the first is `least` or more, each other one exceeds the one before
abbrev pub rising : ℕ → List ℕ → Bool
rising least [] = true
rising least (s ∷ ss) = leb least s && rising (suc s) ss

-- a path reduction on n vertices: legal keys, and its sources are vertices, none for anywhere, else "1 to 16"
abbrev pub SourcesFit : ℕ → List ℕ → Type 0
SourcesFit n ss = All (λ s. s < n) ss × T (rising 0 ss) × (length ss ≤ 16)

abbrev pub PathFits : ℕ → PathReduction → Type 0
PathFits n c = T (legal_keys c.keys) × SourcesFit n c.sources

-- every path reduction of the query is legal on the graph's vertices
abbrev pub QueryFits : Graph → Query → Type 0
QueryFits g q = All (PathFits g.vertices) (written_paths q)

-- how many terms; how deep, "The root has depth 1"
abbrev pub size_of : {κ : Kind} → QueryTerm κ → ℕ
size_of (path c) = 1
size_of (path_set c) = 1
size_of (over o t) = suc (size_of t)
size_of (over_where o c t) = suc (size_of c + size_of t)
size_of (number x) = 1
size_of (operator o s t) = suc (size_of s + size_of t)

abbrev pub depth_of : {κ : Kind} → QueryTerm κ → ℕ
depth_of (path c) = 1
depth_of (path_set c) = 1
depth_of (over o t) = suc (depth_of t)
depth_of (over_where o c t) = suc (max (depth_of c) (depth_of t))
depth_of (number x) = 1
depth_of (operator o s t) = suc (max (depth_of s) (depth_of t))

-- each number is legal on n vertices: path reductions, 0x10 with "a 16-bit start (0 to 255, or 65,535 for anywhere)" and 0x13 with "a set count 1 to 16"; the
-- five reductions, literals of 32 bits, the eleven operators
abbrev pub TermFits : ℕ → {κ : Kind} → QueryTerm κ → Type 0
TermFits n (path c) = PathFits n c × (length c.sources ≤ 1)
TermFits n (path_set c) = PathFits n c × (1 ≤ length c.sources)
TermFits n (over o t) = (1 ≤ o) × (o ≤ 5) × TermFits n t
TermFits n (over_where o c t) = (1 ≤ o) × (o ≤ 5) × TermFits n c × TermFits n t
TermFits n (number x) = x < 2 ^ 32
TermFits n (operator o s t) = (1 ≤ o) × (o ≤ 11) × TermFits n s × TermFits n t

-- the same of a query's term; "reductions as written"
abbrev pub TermsFit : ℕ → Query → Type 0
TermsFit n (each t) = TermFits n t
TermsFit n (single t) = TermFits n t

abbrev pub query_terms : Query → ℕ
query_terms (each t) = size_of t
query_terms (single t) = size_of t

abbrev pub query_depth : Query → ℕ
query_depth (each t) = depth_of t
query_depth (single t) = depth_of t

abbrev pub query_reductions : Query → ℕ
query_reductions (each t) = reduction_count t
query_reductions (single t) = reduction_count t

-- "A question has at most 64 terms, 8 different chains and 8 reductions as written", "to a depth of 16"; n is 256, or the graph's vertices
pub record QueryLegal (n : ℕ) (q : Query) : Type 0 where
  pub legal : TermsFit n q
  pub few_terms : query_terms q ≤ 64
  pub shallow : query_depth q ≤ 16
  pub few_paths : length (put_all [] (written_paths q)) ≤ 8
  pub few_reductions : query_reductions q ≤ 8

-- how many terms an expression has; how deep it is
abbrev pub terms : {A : Type 0} → Term A → ℕ
terms (leaf a) = 1
terms (literal k) = 1
terms (apply o s t) = suc (terms s + terms t)

abbrev pub depth : {A : Type 0} → Term A → ℕ
depth (leaf a) = 1
depth (literal k) = 1
depth (apply o s t) = suc (max (depth s) (depth t))

-- each leaf is as said, each literal has 32 bits, each operator is one of the eleven
abbrev pub Every : {A : Type 0} → (A → Type 0) → Term A → Type 0
Every P (leaf a) = P a
Every P (literal k) = k < 2 ^ 32
Every P (apply o s t) = (1 ≤ o) × (o ≤ 11) × Every P s × Every P t

-- of a condition where there is one: its terms, and that it is as said
abbrev pub condition_terms : Option (Term ℕ) → ℕ
condition_terms none = zero
condition_terms (some t) = terms t

abbrev pub Optional : {A : Type 0} → (A → Type 0) → Option A → Type 0
Optional P none = Unit {0}
Optional P (some t) = P t

-- "Over all expressions of a worksheet at most 64 terms, each expression of depth at most 16"; an index is below its count
abbrev pub Expression : ℕ → Term ℕ → Type 0
Expression c t = Every (λ i. i < c) t × (depth t ≤ 16)

-- the terms of the entries, with their conditions; of all expressions
abbrev pub entry_terms : List (VertexReduction ℕ) → ℕ
entry_terms [] = zero
entry_terms (e ∷ es) = condition_terms e.condition + terms e.body + entry_terms es

abbrev pub plan_terms : Body → ℕ
plan_terms (each_vertex t) = terms t
plan_terms (one_result es t) = entry_terms es + terms t

-- "Kind 0 has e = 1 and reduction byte 0; kind 1 has e from 0 to 8 and reduction bytes 1 to 5." (without the 128 of a condition, which is as legal as the
-- value)
abbrev pub EntryLegal : ℕ → VertexReduction ℕ → Type 0
EntryLegal c e = (1 ≤ e.reduction) × (e.reduction ≤ 5) × Optional (Expression c) e.condition × Expression c e.body

abbrev pub BodyLegal : ℕ → Body → Type 0
BodyLegal c (each_vertex t) = Expression c t
BodyLegal c (one_result es t) = (length es ≤ 8) × All (EntryLegal c) es × Expression (length es) t

-- version 1 has bytes for one start or for anywhere, version 2 for sets: "What that version has no bytes for is refused 3" (document 02, b)
abbrev pub HeldBy : ℕ → PathReduction → Type 0
HeldBy version c = version < 2 → length c.sources ≤ 1

-- "chain count c (0 to 8)"; the path reductions, the entries and the final expression are legal
pub record PlanLegal (n : ℕ) (p : Plan) : Type 0 where
  pub known_version : (1 ≤ p.version) × (p.version ≤ 2)
  pub paths_held : All (HeldBy p.version) p.paths
  pub few_paths : length p.paths ≤ 8
  pub paths_legal : All (PathFits n) p.paths
  pub body_legal : BodyLegal (length p.paths) p.body
  pub few_terms : plan_terms p.body ≤ 64
