-- Samples of fusing, by computation: a condition's path reductions stand before those of the value, and its expression in the entry; a set of one is the path
-- reduction of 0x10, and a larger set asks for version 2. Assumes nothing.
use mathlib.Core.Path.{◌≡◌, refl}
use mathlib.Core.Bool.{true, false}
use mathlib.Core.List.{[], ◌∷◌}
use mathlib.Core.Option.{some}
use Rattle.meaning.specs.Limits.{rising}
use Rattle.meaning.specs.Plan.{apply, each_vertex, fuse, leaf, literal, one_result}
use Rattle.meaning.specs.Query.{PathReduction, Query, each, number, operator, over_where, path, path_set, single}

-- the seconds and the crate size from vertex 0
abbrev seconds : PathReduction
seconds = record { keys = 2 ∷ []; sources = 0 ∷ [] }

abbrev size : PathReduction
size = record { keys = 6 ∷ []; sources = 0 ∷ [] }

-- "the sum, or the largest, over places farther than a given time": the largest crate size where the seconds are above 4
abbrev largest : Query
largest = single (over_where 2 (operator 9 (path seconds) (number 4)) (path size))

pub fused_largest : fuse largest
    ≡ record {
      version = 1;
      paths = seconds ∷ size ∷ [];
      body = one_result (record { reduction = 2; condition = some (apply 9 (leaf 0) (literal 4)); body = leaf 1 } ∷ []) (leaf 0);
    }
fused_largest = refl

-- "A set of one is the same chain as 0x10 with that start.": one index; "else version 1"
pub fused_one : fuse (each (operator 3 (path seconds) (path_set seconds)))
    ≡ record { version = 1; paths = seconds ∷ []; body = each_vertex (apply 3 (leaf 0) (leaf 0)) }
fused_one = refl

-- the seconds from any of two counters: "version 2 .. when some set has two or more"
abbrev counters : PathReduction
counters = record { keys = 2 ∷ []; sources = 0 ∷ 2 ∷ [] }

pub fused_two : fuse (each (operator 3 (path seconds) (path_set counters)))
    ≡ record { version = 2; paths = seconds ∷ counters ∷ []; body = each_vertex (apply 3 (leaf 0) (leaf 1)) }
fused_two = refl

-- "strictly rising": a start is not above itself
pub rises_strictly : (rising 0 (0 ∷ 2 ∷ 3 ∷ []) ≡ true) × (rising 0 (2 ∷ 2 ∷ []) ≡ false) × (rising 0 (2 ∷ 1 ∷ []) ≡ false)
rises_strictly = (refl, refl, refl)
