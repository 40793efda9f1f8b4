-- WHAT A PATH REDUCTION (document 01: chain) MEANS, over a set of walks.
use Rattle.std.specs.Prelude.{ℕ, ◌≡◌, List, [], ◌∷◌}
use Rattle.std.proofs.Math.Option.{Option, none, some}
use Rattle.value.specs.declared.Value.{Value}
use Rattle.value.specs.declared.Value.TheVariants.{Absent, Number}
use Rattle.walks.specs.Keys.{kept, Good}
use Rattle.walks.specs.Walks.{Network, WalkSet, figure}

-- "keeps those with the best first key, of these the best second key, and so on"
abbrev pub Keep : Network → ℕ → WalkSet → WalkSet
Keep N k P s w = P s w × ((s' : ℕ) (w' : List ℕ) → P s' w' → Good (kept k) (figure N k s w) (figure N k s' w'))

abbrev pub Kept : Network → List ℕ → WalkSet → WalkSet
Kept N [] P = P
Kept N (k ∷ ks) P = Kept N ks (Keep N k P)

-- "A key's figure is the value, in that key, of the walks kept by it and the keys before it": one for each key, where there is a walk
abbrev pub Listed : Network → List ℕ → WalkSet → List ℕ → Type 0
Listed N [] P [] = (s : ℕ) × (w : List ℕ) × P s w
Listed N [] P (x ∷ xs) = ⊥
Listed N (k ∷ ks) P [] = ⊥
Listed N (k ∷ ks) P (x ∷ xs) = ((s : ℕ) (w : List ℕ) → Keep N k P s w → figure N k s w ≡ x) × Listed N ks (Keep N k P) xs

-- "and absent with no walk"
abbrev pub Figures : Network → List ℕ → WalkSet → Option (List ℕ) → Type 0
Figures N ks P none = (s : ℕ) (w : List ℕ) → P s w → ⊥
Figures N ks P (some xs) = Listed N ks P xs

-- "its value is the last key's. With no walk it is absent."
abbrev pub last : List ℕ → ℕ
last [] = 0
last (x ∷ []) = x
last (x ∷ (y ∷ xs)) = last (y ∷ xs)

abbrev pub value : Option (List ℕ) → Value
value none = Absent
value (some xs) = Number (last xs)
