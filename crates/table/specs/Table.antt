-- WHAT THE TABLE OF FIGURES SHOWS at each vertex for each path reduction (document 01: chain). These definitions know how the table is laid out; contracts and
-- theorems use their names alone.
use Rattle.std.specs.Prelude.{ℕ, zero, suc, ◌+◌, ◌-◌, ◌*◌, ◌≤◌, ◌<◌, ◌≡◌, Bool, false, cond, ◌||◌, List, map, eqb, leb}
use Rattle.std.specs.Prelude.{length, get_or, take}
use Rattle.std.proofs.Math.Option.{Option}
use Rattle.value.specs.declared.Value.{Value}
use Rattle.value.specs.declared.Value.TheVariants.{Absent, Number}
use Rattle.walks.specs.Rounds.{State}
use Rattle.meaning.specs.Query.{PathReduction}
use Rattle.packed_path.specs.declared.PackedPath.{PackedPath}
use Rattle.packed_path.specs.Packed.{no_path, path_of}
use Rattle.packed_figures.specs.Held.{Held}
use Rattle.packed_figures.specs.Packed.{Packs, absent, figures_of, word_of}
use Rattle.vertex_set.specs.Sets.{member}

-- the first `count` path reductions of a table; the one with index j
abbrev pub paths_in : ℕ → List PackedPath → List PathReduction
paths_in count table = map path_of (take count table)

abbrev pub path_at : List PackedPath → ℕ → PathReduction
path_at table j = path_of (get_or table j no_path)

-- what the table has at vertex v for the path reduction with index j: its figures in one word, and whether the last round changed it. Eight sets of vertices
-- come first, then eight words for each vertex
pub record Cell : Type 0 where
  pub word : ℕ
  pub changed : Bool

abbrev pub cell : ℕ → Bool → Cell
cell word changed = record { word = word; changed = changed }

unfoldable pub cell_in : List ℕ → ℕ → ℕ → Cell
cell_in l j v = cell (get_or l (32 + 8 * v + j) 0) (member l j v)

-- THE FIGURES of the path reduction c, which has index j: "A key's figure is the value, in that key, of the walks kept by it and the keys before it, and
-- absent with no walk"
unfoldable pub figures_in : PathReduction → List ℕ → ℕ → State
figures_in c l j v = figures_of c.keys (cell_in l j v).word

-- DID ROUND r CHANGE the vertex for it? (round 0: is it not absent?) The table has the marks of the last round alone: r is the number of rounds done
unfoldable pub changed_in : ℕ → List ℕ → ℕ → ℕ → Bool
changed_in r l j v = (cell_in l j v).changed

-- does a test hold at any of n vertices?
abbrev pub any_vertex : ℕ → (ℕ → Bool) → Bool
any_vertex zero f = false
any_vertex (suc n) f = f n || any_vertex n f

-- what the rounds need of a table besides what it shows: each word is that of figures which have room in it, and which walks of at most r edges can have
pub record SoundWord (ks : List ℕ) (r x : ℕ) : Type 0 where
  pub figures : Option (List ℕ)
  pub held : Held r ks figures
  pub packs : Packs ks figures
  pub packed : x ≡ word_of ks figures

-- behind the words of the n vertices each has one more, which it lends to the edges from it in a round; it is ABSENT between rounds
abbrev pub lent : ℕ → List ℕ → ℕ → ℕ
lent n l u = get_or l (32 + 8 * n + u) 0

abbrev pub Idle : ℕ → List ℕ → Type 0
Idle n l = (u : ℕ) → u < n → lent n l u ≡ absent

-- the words of the path reduction c with index j, on n vertices
pub record Sound (n : ℕ) (c : PathReduction) (r : ℕ) (l : List ℕ) (j : ℕ) : Type 0 where
  pub long : 32 + 9 * n ≤ length l
  pub idle : Idle n l
  pub words : (v : ℕ) → v < n → SoundWord c.keys r (cell_in l j v).word

-- the other path reductions have what they had
abbrev pub Others : ℕ → ℕ → List ℕ → List ℕ → Type 0
Others n j old new = (i : ℕ) → i < 8 → (i ≡ j → ⊥) → (v : ℕ) → v < n → cell_in new i v ≡ cell_in old i v

-- THE VALUE of path reduction j at vertex v in a table whose words were read into values (`read_values`): one less than what stands there, absent where that
-- is 0
-- and outside the table
unfoldable pub value_in : List ℕ → ℕ → ℕ → Value
value_in l j v =
    cond (leb 8 j) Absent (cond (leb 256 v) Absent (cond (leb (length l) (32 + 8 * v + j)) Absent
    (cond (eqb (get_or l (32 + 8 * v + j) 0) 0) Absent (Number (get_or l (32 + 8 * v + j) 0 - 1)))))
