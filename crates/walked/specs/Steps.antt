-- The walks judged one by one, as the program goes. Nothing to believe: `proofs/Laws` says that this is to keep those with the best first key, and so on.
use Rattle.std.specs.Prelude.{ℕ, zero, suc, Bool, true, cond, ◌&&◌, eqb, get_or, ◌≡◌, ◌<◌, ◌⊎◌}
use mathlib.Core.List.{List, foldl}
use Rattle.value.specs.declared.Value.{Value}
use Rattle.walked.specs.declared.Walk.{Walk}
use Rattle.walked.specs.declared.Kept.{Kept}
use Rattle.walked.specs.declared.Key.{Key}
use Rattle.walked.specs.declared.Key.TheVariants.{LeastEdges, LeastWeight, LeastSource, GreatestSource, GreatestCapacity, LeastCapacity}
use Rattle.walked.specs.Walked.{better, figure_of, may_start, sources_of, walks}

-- the key of a number; one that is no key's is as 6
abbrev pub IsKey : ℕ → Key → Type 0
IsKey n LeastEdges = n ≡ 1
IsKey n LeastWeight = n ≡ 2
IsKey n LeastSource = n ≡ 3
IsKey n GreatestSource = n ≡ 4
IsKey n GreatestCapacity = n ≡ 5
IsKey n LeastCapacity = (n ≡ 0) ⊎ (5 < n)

-- has the walk the best figure of each of the first i keys?
unfoldable pub agrees : List ℕ → List ℕ → Walk → ℕ → Bool
agrees keys best w zero = true
agrees keys best w (suc i) = agrees keys best w i && eqb (figure_of (get_or keys i 0) w) (get_or best i 0)

-- is it kept by the keys passed?
abbrev pub is_kept : Kept → Walk → Bool
is_kept k w = agrees k.path.keys k.best w k.passed

-- what is found with one walk more
unfoldable pub judged : Kept → Value → Walk → Value
judged k found w =
    cond (may_start (sources_of k.path) w)
    (cond (is_kept k w) (better (get_or k.path.keys k.passed 0) found (figure_of (get_or k.path.keys k.passed 0) w)) found) found

-- what is found with all walks that end with w and have at most `left` edges before it
abbrev pub best_of : List ℕ → Kept → Walk → ℕ → Value → Value
best_of rows k w left found = foldl (judged k) found (walks rows left w)
