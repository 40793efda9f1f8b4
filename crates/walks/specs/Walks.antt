-- Graphs (document 01: maps), their walks, and the figures of a walk.
use Rattle.std.specs.Prelude.{ℕ, ◌+◌, ◌≤◌, ◌<◌, min, ◌≡◌, Bool, List, [], ◌∷◌, T, length, get_or}
use Rattle.walks.specs.declared.Measure.{Measure}
use Rattle.walks.specs.declared.Measure.TheVariants.{Edges, Weight, Source, Bottleneck}
use Rattle.walks.specs.Keys.{measure}

-- a passage: from, to, seconds, crate size
pub record Edge : Type 0 where
  pub from : ℕ
  pub to : ℕ
  pub weight : ℕ
  pub capacity : ℕ

-- a map: the number of places, and its rows
pub record Graph : Type 0 where
  pub vertices : ℕ
  pub edges : List Edge

-- an edge of its four numbers; the edge of row i
abbrev pub edge : ℕ → ℕ → ℕ → ℕ → Edge
edge a b w c = record { from = a; to = b; weight = w; capacity = c }

abbrev pub edge_at : List Edge → ℕ → Edge
edge_at es i = get_or es i (edge 0 0 0 0)

-- a graph as the walks of a path reduction see it: how many vertices and edges, each edge by its row number, the edges that a walk may take, the vertices
-- that it may start at
pub record Network : Type 0 where
  pub vertices : ℕ
  pub edges : ℕ
  pub edge : ℕ → Edge
  pub usable : ℕ → Bool
  pub source : ℕ → Bool

-- the graph's own, with a test of the row numbers and one of the sources
abbrev pub network : Graph → (ℕ → Bool) → (ℕ → Bool) → Network
network g usable source = record {
  vertices = g.vertices;
  edges = length g.edges;
  edge = edge_at g.edges;
  usable = usable;
  source = source;
}

-- "A walk is a run of passages, each starting where the one before ended; places may recur. The walk of no passages exists at each place." A walk is the
-- vertex s that it starts at and the list w of its edges, THE LAST FIRST, each by its row number: equal rows are different edges. It leads to v over usable
-- edges:
abbrev pub Leads : Network → ℕ → List ℕ → ℕ → Type 0
Leads N s [] v = s ≡ v
Leads N s (i ∷ w) v = (i < N.edges) × T (N.usable i) × ((N.edge i).to ≡ v) × Leads N s w (N.edge i).from

-- a set of walks
abbrev pub WalkSet : Type 1
WalkSet = ℕ → List ℕ → Type 0

-- the walks from a source to v: all of them; those of at most r edges
abbrev pub AllTo : Network → ℕ → WalkSet
AllTo N v s w = T (N.source s) × Leads N s w v

abbrev pub Within : Network → ℕ → ℕ → WalkSet
Within N r v s w = T (N.source s) × Leads N s w v × (length w ≤ r)

-- the value of the empty walk at s; "its crate size is 65,535"
abbrev pub base : Measure → ℕ → ℕ
base Edges s = 0
base Weight s = 0
base Source s = s
base Bottleneck s = 65535

-- the value of a walk with the edge e after it, where that of the walk is x
abbrev pub extend : Measure → Edge → ℕ → ℕ
extend Edges e x = x + 1
extend Weight e x = x + e.weight
extend Source e x = x
extend Bottleneck e x = min x e.capacity

-- what the edges of w make of x; the value of a walk by a key; its values by several
abbrev pub along : Network → Measure → ℕ → List ℕ → ℕ
along N m x [] = x
along N m x (i ∷ w) = extend m (N.edge i) (along N m x w)

abbrev pub figure : Network → ℕ → ℕ → List ℕ → ℕ
figure N k s w = along N (measure k) (base (measure k) s) w

abbrev pub figures : Network → List ℕ → ℕ → List ℕ → List ℕ
figures N [] s w = []
figures N (k ∷ ks) s w = figure N k s w ∷ figures N ks s w

-- the edges' ends and the sources are vertices, and there is a vertex
pub record Fits (N : Network) : Type 0 where
  pub some_vertex : 0 < N.vertices
  pub from_fits : (i : ℕ) → i < N.edges → T (N.usable i) → (N.edge i).from < N.vertices
  pub to_fits : (i : ℕ) → i < N.edges → T (N.usable i) → (N.edge i).to < N.vertices
  pub source_fits : (v : ℕ) → T (N.source v) → v < N.vertices
