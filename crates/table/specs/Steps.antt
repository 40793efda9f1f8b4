-- One path reduction's words and marks as the program goes: initial values, a round vertex by vertex, the values read off. Nothing to believe: the contracts
-- of `rounds` say what these are in the words of the theory.
use Rattle.std.specs.Prelude.{ℕ, zero, suc, ◌+◌, ◌*◌, ◌≤◌, ◌<◌, min, ◌≡◌, Bool, true, false, cond, not, ◌&&◌, List, eqb, length}
use Rattle.std.specs.Prelude.{get_or, set}
use Rattle.wire.specs.Wire.{at16}
use Rattle.graph.specs.Graph.{edge_in}
use Rattle.incoming.specs.Incoming.{enters}
use Rattle.vertex_set.specs.Least.{some_below}
use Rattle.vertex_set.specs.Sets.{inserted, member}
use Rattle.packed_figures.specs.declared.PathConstants.{PathConstants}
use Rattle.packed_figures.specs.Packed.{absent, along, base_word, figure_of}
use Rattle.packed_figures.specs.Packed as packed
use Rattle.table.specs.Table.{Idle, Others, any_vertex, cell, cell_in, lent}

-- the word of path reduction j at vertex v
abbrev pub word_in : List ℕ → ℕ → ℕ → ℕ
word_in l j v = get_or l (32 + 8 * v + j) 0

-- ---- initial values

-- the word of vertex v, where a walk may begin there or not
abbrev pub started : PathConstants → Bool → ℕ → ℕ
started c here v = cond here (base_word c v) absent

-- the n vertices have theirs
pub record Began (begins : ℕ → Bool) (c : PathConstants) (n j : ℕ) (old new : List ℕ) : Type 0 where
  pub cells : (v : ℕ) → v < n → cell_in new j v ≡ cell (started c (begins v) v) (begins v)
  pub others : (m : ℕ) → m ≤ 256 → Others m j old new
  pub kept : (u : ℕ) → lent n new u ≡ lent n old u
  pub size : length new ≡ length old

-- ---- the words lent

-- vertex u lends L u, of n; nothing else is changed
pub record Relent (n : ℕ) (L : ℕ → ℕ) (old new : List ℕ) : Type 0 where
  pub words : (u : ℕ) → u < n → lent n new u ≡ L u
  pub rest : (k : ℕ) → k < 32 + 8 * n → get_or new k 0 ≡ get_or old k 0
  pub size : length new ≡ length old

-- in a round of path reduction j those of its set lend their word with one more edge, the others ABSENT
abbrev pub lends : PathConstants → ℕ → List ℕ → ℕ → ℕ
lends c j l u = cond (member l j u) (word_in l j u + c.edges) absent

-- and the vertices that the edges from those of its set lead to are walked
abbrev pub touches : ℕ → ℕ → List ℕ → List ℕ → ℕ → Bool
touches n j l successors v = some_below (λ g. member l j g && member successors g v) n

pub record Touched (c : PathConstants) (n j : ℕ) (successors old work new work' : List ℕ) : Type 0 where
  pub relent : Relent n (lends c j old) old new
  pub walked : (v : ℕ) → v < 256 → member work' 0 v ≡ touches n j old successors v
  pub room : length work' ≡ length work

-- ---- a round at the vertices of set 0 of `work`, by the words lent, L

-- what edge i brings
abbrev pub brings : List ℕ → PathConstants → (ℕ → ℕ) → ℕ → ℕ
brings s c L i = along c (L (edge_in s i).from) (edge_in s i).weight (edge_in s i).capacity

-- what the edges below i that enter v bring, reduced into the word that it had
unfoldable pub reduced_upto : List ℕ → PathConstants → (ℕ → ℕ) → ℕ → ℕ → ℕ → ℕ
reduced_upto s c L word v zero = word
reduced_upto s c L word v (suc i) = cond (enters s v i) (min (brings s c L i) (reduced_upto s c L word v i)) (reduced_upto s c L word v i)

-- all of them
abbrev pub reduced_word : List ℕ → PathConstants → (ℕ → ℕ) → ℕ → ℕ → ℕ
reduced_word s c L word v = reduced_upto s c L word v (at16 s 7)

-- of the word in the table; is it another?
abbrev pub next_word : List ℕ → PathConstants → ℕ → (ℕ → ℕ) → List ℕ → ℕ → ℕ
next_word s c j L l v = reduced_word s c L (word_in l j v) v

abbrev pub moves : List ℕ → PathConstants → ℕ → (ℕ → ℕ) → List ℕ → ℕ → Bool
moves s c j L l v = not (eqb (next_word s c j L l v) (word_in l j v))

-- the words lent as the table has them
abbrev pub lent_in : List ℕ → List ℕ → ℕ → ℕ
lent_in s l u = lent (at16 s 5) l u

-- what an edge asks: a table as long as the graph needs, and words lent that are at most ABSENT with one more edge
pub record Lends (s : List ℕ) (c : PathConstants) (l : List ℕ) : Type 0 where
  pub sound : packed.Sound c
  pub table_fits : 32 + 9 * at16 s 5 ≤ length l
  pub words_lent : (u : ℕ) → u < at16 s 5 → lent_in s l u ≤ absent + c.edges

-- and a walk: vertices to walk
pub record Ready (s : List ℕ) (c : PathConstants) (j : ℕ) (l work : List ℕ) : Type 0 where
  pub lends : Lends s c l
  pub slot : j < 8
  pub work_fits : 8 ≤ length work
  pub walked_fit : (v : ℕ) → v < 256 → member work 0 v ≡ true → v < at16 s 5

-- the vertex v is walked: the table, and the sets
unfoldable pub walked_word : List ℕ → PathConstants → ℕ → List ℕ → ℕ → List ℕ
walked_word s c j l v = set l (32 + 8 * v + j) (next_word s c j (lent_in s l) l v)

unfoldable pub walked_mark : List ℕ → PathConstants → ℕ → List ℕ → List ℕ → ℕ → List ℕ
walked_mark s c j l work v = cond (moves s c j (lent_in s l) l v) (inserted work 1 v) work

-- set 1 is empty
abbrev pub Blank : List ℕ → Type 0
Blank work = (v : ℕ) → v < 256 → member work 1 v ≡ false

-- the vertices of set 0 below v are walked
pub record Walked (s : List ℕ) (c : PathConstants) (j : ℕ) (old work new work' : List ℕ) (v : ℕ) : Type 0 where
  pub done : (u : ℕ) → u < v → u < 256 → word_in new j u ≡ cond (member work 0 u) (next_word s c j (lent_in s old) old u) (word_in old j u)
  pub left : (u : ℕ) → v ≤ u → word_in new j u ≡ word_in old j u
  pub others : (i : ℕ) → i < 8 → (i ≡ j → ⊥) → (u : ℕ) → word_in new i u ≡ word_in old i u
  pub marks : (i : ℕ) → i < 8 → (u : ℕ) → u < 256 → member new i u ≡ member old i u
  pub kept : (u : ℕ) → lent_in s new u ≡ lent_in s old u
  pub size : length new ≡ length old
  pub chosen : (u : ℕ) → u < 256 → member work' 0 u ≡ member work 0 u
  pub moved : (u : ℕ) → u < v → u < 256 → member work' 1 u ≡ (member work 0 u && moves s c j (lent_in s old) old u)
  pub rest : (u : ℕ) → v ≤ u → u < 256 → member work' 1 u ≡ false
  pub room : length work' ≡ length work

-- what a round asks: no word lent, and words that have room for one more edge
pub record Quiet (s : List ℕ) (c : PathConstants) (j : ℕ) (l work : List ℕ) : Type 0 where
  pub sound : packed.Sound c
  pub slot : j < 8
  pub table_fits : 32 + 9 * at16 s 5 ≤ length l
  pub work_fits : 8 ≤ length work
  pub idle : Idle (at16 s 5) l
  pub words_most : (u : ℕ) → u < at16 s 5 → word_in l j u ≤ absent

-- what it leaves, and says
pub record Stepped (s : List ℕ) (c : PathConstants) (j : ℕ) (successors old new : List ℕ) (says : Bool) : Type 0 where
  pub cells : (v : ℕ) → v < at16 s 5 → cell_in new j v
      ≡ cell (cond (touches (at16 s 5) j old successors v) (next_word s c j (lends c j old) old v) (word_in old j v))
      (touches (at16 s 5) j old successors v && moves s c j (lends c j old) old v)
  pub others : Others (at16 s 5) j old new
  pub stirs : says ≡ any_vertex (at16 s 5) (λ v. (cell_in new j v).changed)
  pub idle : Idle (at16 s 5) new
  pub size : length new ≡ length old

-- ---- the values read off the words

-- one more than the last key's figure, 0 where there is no walk
abbrev pub value_word : PathConstants → ℕ → ℕ
value_word c x = cond (eqb x absent) 0 (figure_of c x + 1)

-- at the first n vertices
pub record Valued (c : PathConstants) (n j : ℕ) (old new : List ℕ) : Type 0 where
  pub words : (v : ℕ) → v < n → word_in new j v ≡ value_word c (word_in old j v)
  pub others : (i : ℕ) → i < 8 → (i ≡ j → ⊥) → (v : ℕ) → v < 256 → word_in new i v ≡ word_in old i v
  pub size : length new ≡ length old
