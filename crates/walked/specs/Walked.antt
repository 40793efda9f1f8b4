-- The figures of a path reduction (document 01: chain), by listing all walks of at most so many edges (document 01, "Meaning"). `rows` are the numbers of a
-- map's rows, four a row: from, to, seconds, crate size; 0 past their end, and a row that is not whole is none.
use Rattle.std.specs.Prelude.{ℕ, zero, suc, ◌+◌, ◌*◌, ◌/◌, min, Bool, true, false, cond, ◌&&◌, ◌||◌, ltb, eqb, length, get_or, take}
use Rattle.std.specs.Prelude.{drop, nat_eq, Option as Found, Some, None}
use Rattle.std.specs.Option.{option_eq}
use Rattle.std.specs.Cmp.Lexicographic.{pointwise}
use mathlib.Core.List.{List, [], ◌∷◌, ◌++◌, foldl}
use Rattle.std.proofs.Math.Option.{Option, none, some}
use Rattle.value.specs.declared.Value.{Value}
use Rattle.value.specs.declared.Value.TheVariants.{Absent, Number}
use Rattle.walked.specs.declared.Walk.{Walk}
use Rattle.walked.specs.declared.PathReduction.{PathReduction}

-- "The walk of no passages exists at each place; its crate size is 65,535."
abbrev pub standing : ℕ → Walk
standing v = record { source = v; edges = 0; weight = 0; capacity = 65535 }

-- a walk with one edge more before it
abbrev pub longer : Walk → ℕ → ℕ → ℕ → Walk
longer w from weight capacity = record {
  source = from;
  edges = w.edges + 1;
  weight = w.weight + weight;
  capacity = min w.capacity capacity;
}

-- "A walk is a run of passages, each starting where the one before ended": the walks that `more` makes of w with one edge more, over the first i edges that end
-- where w starts
unfoldable pub with_edge : List ℕ → (Walk → List Walk) → Walk → ℕ → List Walk
with_edge rows more w zero = []
with_edge rows more w (suc i) =
    with_edge rows more w i
    ++ cond (eqb (get_or rows (4 * i + 1) 0) w.source)
    (more (longer w (get_or rows (4 * i) 0) (get_or rows (4 * i + 2) 0) (get_or rows (4 * i + 3) 0)))
    []

-- all walks that end with w and have at most `left` edges before it; "places may recur"
unfoldable pub walks : List ℕ → ℕ → Walk → List Walk
walks rows zero w = w ∷ []
walks rows (suc left) w = w ∷ with_edge rows (walks rows left) w (length rows / 4)

-- "Value of a walk" in the table of keys: 1 passages walked, 2 seconds added up, 3 and 4 starting place, 5 and 6 smallest crate size. (A number that is no
-- key's is as 6.)
unfoldable pub figure_of : ℕ → Walk → ℕ
figure_of key w =
    cond (eqb key 1) w.edges
    (cond (eqb key 2) w.weight
    (cond (eqb key 3) w.source
    (cond (eqb key 4) w.source w.capacity)))

-- "Kept" in the table of keys: the greatest of 4 and 5, the least of the others
unfoldable pub beats : ℕ → ℕ → ℕ → Bool
beats key x y = cond (eqb key 4) (ltb y x) (cond (eqb key 5) (ltb y x) (ltb x y))

-- the better of what was found and a figure
unfoldable pub better : ℕ → Value → ℕ → Value
better key Absent x = Number x
better key (Number y) x = cond (beats key x y) (Number x) (Number y)

-- the best figure in a key; "absent with no walk"
abbrev pub best : ℕ → List Walk → Value
best key = foldl (λ found w. better key found (figure_of key w)) Absent

-- those walks of a list that pass a test
abbrev pub sift : (Walk → Bool) → List Walk → List Walk
sift p [] = []
sift p (w ∷ ws) = cond (p w) (w ∷ sift p ws) (sift p ws)

-- a figure before those of the further keys
abbrev pub put_first : ℕ → Option (List ℕ) → Option (List ℕ)
put_first x none = none
put_first x (some xs) = some (x ∷ xs)

-- "keeps those with the best first key, of these the best second key, and so on": the figure in each key, none with no walk
unfoldable pub figures : List ℕ → List Walk → Option (List ℕ)
figures [] ws = some []
figures (key ∷ keys) ws = elim (best key ws) [
  | Absent ↦ none
  | Number x ↦ put_first x (figures keys (sift (λ w. eqb (figure_of key w) x) ws))
]

-- is a vertex one of them?
abbrev pub among : List ℕ → ℕ → Bool
among [] v = false
among (s ∷ ss) v = eqb s v || among ss v

-- "A walk may begin at any of them." (document 02, b); with none it may anywhere
abbrev pub may_start : List ℕ → Walk → Bool
may_start sources w = eqb (length sources) 0 || among sources w.source

-- the sources of a path reduction, at most 16
abbrev pub sources_of : PathReduction → List ℕ
sources_of path = take (min path.starts 16) path.sources

-- "A chain takes all walks from its start (or from anywhere) to a place": those of at most `most` edges, and never of more than 64
abbrev pub walks_to : List ℕ → List ℕ → ℕ → ℕ → List Walk
walks_to rows sources vertex most = sift (may_start sources) (walks rows (min most 64) (standing vertex))

-- the figures of the first `count` keys over them
abbrev pub all_figures : List ℕ → PathReduction → ℕ → ℕ → Option (List ℕ)
all_figures rows path vertex most =
    figures (take (min path.count 3) path.keys) (walks_to rows (sources_of path) vertex most)

-- the same with 0 for a key that is not there
abbrev pub three_figures : Option (List ℕ) → Found (List ℕ)
three_figures none = None
three_figures (some xs) = Some (xs ++ drop (length xs) (0 ∷ 0 ∷ 0 ∷ []))

-- as the program returns them
unfoldable pub figures_at : List ℕ → PathReduction → ℕ → ℕ → Found (List ℕ)
figures_at rows path vertex most = three_figures (all_figures rows path vertex most)

-- "its value is the last key's. With no walk it is absent." (So it is with no key, which no legal question has.)
abbrev pub last : List ℕ → Value
last [] = Absent
last (x ∷ []) = Number x
last (x ∷ (y ∷ xs)) = last (y ∷ xs)

-- of the figures, where there is a walk
abbrev pub last_of : Option (List ℕ) → Value
last_of none = Absent
last_of (some xs) = last xs

-- the value of the path reduction at a vertex
unfoldable pub value_at : List ℕ → PathReduction → ℕ → ℕ → Value
value_at rows path vertex most = last_of (all_figures rows path vertex most)

-- the same figures, and a walk for both or for none
abbrev pub same_figures : Found (List ℕ) → Found (List ℕ) → Bool
same_figures = option_eq (pointwise nat_eq)

-- "each figure of [a] chain at each place is the same over walks of at most r passages as over walks of at most r − 1": at the vertices below n, with r
-- − 1 for `before`
unfoldable pub unchanged : List ℕ → ℕ → PathReduction → ℕ → Bool
unchanged rows zero path before = true
unchanged rows (suc v) path before =
    unchanged rows v path before && same_figures (figures_at rows path v before) (figures_at rows path v (before + 1))
