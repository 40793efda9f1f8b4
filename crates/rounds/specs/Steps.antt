-- What a run in code holds besides the table. Nothing to believe.
use Rattle.std.specs.Prelude.{ℕ, ◌<◌, ◌≤◌, ◌≡◌, Bool, false, ◌&&◌, List, [], ◌∷◌, T, leb, length, get_or}
use Rattle.std.specs.Coded.{×_prop, Unit-prop, le_prop}
use Rattle.std.proofs.Common.{ap}
use Rattle.std.proofs.Math.Dec.{T_prop}
use Rattle.walks.specs.Keys.{legal_keys}
use Rattle.walks.specs.Lists.{All}
use Rattle.meaning.specs.Limits.{PathFits, SourcesFit, rising}
use Rattle.meaning.specs.Query.{PathReduction}
use Rattle.wire.specs.Wire.{at16}
use Rattle.packed_path.specs.declared.PackedPath.{PackedPath}
use Rattle.packed_figures.specs.declared.PathConstants.{PathConstants}
use Rattle.packed_figures.specs.Packed.{constants}
use Rattle.table.specs.Table.{path_at, paths_in}

-- constants of no path reduction
abbrev pub no_constants : PathConstants
no_constants = record {
  edges = 0;
  weight = 0;
  weighs = false;
  up = 0;
  down = 0;
  last = 0;
  base = 0;
  shift = 0;
  mask = 0;
  flip = 0;
}

-- those of the first path reductions of a table
abbrev pub Constants : ℕ → List PackedPath → List PathConstants → Type 0
Constants paths table all = (j : ℕ) → j < paths → get_or all j no_constants ≡ constants (path_at table j).keys

-- and they are legal on n vertices
abbrev pub PathsFit : ℕ → ℕ → List PackedPath → Type 0
PathsFit n paths table = All (PathFits n) (paths_in paths table)

-- at most 16 vertices and 64 edges
abbrev pub small : List ℕ → Bool
small s = leb (at16 s 5) 16 && leb (at16 s 7) 64

-- that the path reductions of a run are legal can be proved in one way alone: so a value may carry it
all_below-prop : (n : ℕ) (xs : List ℕ) → IsProp (All (λ x. x < n) xs)
all_below-prop n [] = Unit-prop
all_below-prop n (x ∷ xs) = ×_prop le_prop (all_below-prop n xs)

sources_fit-prop : (n : ℕ) (ss : List ℕ) → IsProp (SourcesFit n ss)
sources_fit-prop n ss x y =
    let both = ×_prop (all_below-prop n ss) (×_prop (T_prop (rising 0 ss)) (le_prop {n = length ss} {m = 16})) in
    ap (λ (q : All (λ s. s < n) ss × (T (rising 0 ss) × (length ss ≤ 16))). (q.0, q.1.0, q.1.1)) (both (x.0, (x.1, x.2)) (y.0, (y.1, y.2)))

path_fits-prop : (n : ℕ) (c : PathReduction) → IsProp (PathFits n c)
path_fits-prop n c = ×_prop (T_prop (legal_keys c.keys)) (sources_fit-prop n c.sources)

all_fit-prop : (n : ℕ) (cs : List PathReduction) → IsProp (All (PathFits n) cs)
all_fit-prop n [] = Unit-prop
all_fit-prop n (c ∷ cs) = ×_prop (path_fits-prop n c) (all_fit-prop n cs)

pub paths_fit-prop : (n paths : ℕ) (table : List PackedPath) → IsProp (PathsFit n paths table)
paths_fit-prop n paths table = all_fit-prop n (paths_in paths table)
