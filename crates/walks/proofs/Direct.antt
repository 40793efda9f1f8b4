-- The value of a path reduction, said at once: no walk; or a walk that all keys keep, and the last key's figure of every walk that they keep. Assumes nothing.
use Prim.Native.Nat.{ℕ}
use mathlib.Core.Path.{◌≡◌}
use mathlib.Core.List.{List, [], ◌∷◌}
use mathlib.Core.Option.{Option, none, some}
use Rattle.value.specs.declared.Value.{Value}
use Rattle.value.specs.declared.Value.TheVariants.{Absent, Number}
use Rattle.walks.specs.Meaning.{Figures, Keep, Kept, Listed, last, value}
use Rattle.walks.specs.Walks.{Network, WalkSet, figure}

-- the last of the keys k, ks
abbrev last_key : ℕ → List ℕ → ℕ
last_key k [] = k
last_key k (j ∷ ks) = last_key j ks

-- what the value over the walks P must be
abbrev pub Directly : Network → ℕ → List ℕ → WalkSet → Value → Type 0
Directly N k ks P Absent = (s : ℕ) (w : List ℕ) → P s w → ⊥
Directly N k ks P (Number x) =
    ((s : ℕ) × (w : List ℕ) × Kept N (k ∷ ks) P s w) × ((s : ℕ) (w : List ℕ) → Kept N (k ∷ ks) P s w → figure N (last_key k ks) s w ≡ x)

module _ (N : Network) where
  listed_kept : (ks : List ℕ) (P : WalkSet) (xs : List ℕ) → Listed N ks P xs → (s : ℕ) × (w : List ℕ) × Kept N ks P s w
  listed_kept [] P [] l = l
  listed_kept [] P (x ∷ xs) l = absurd l
  listed_kept (k ∷ ks) P [] l = absurd l
  listed_kept (k ∷ ks) P (x ∷ xs) l = listed_kept ks (Keep N k P) xs l.1

  listed_last : (k : ℕ) (ks : List ℕ) (P : WalkSet) (xs : List ℕ) → Listed N (k ∷ ks) P xs
      → (s : ℕ) (w : List ℕ) → Kept N (k ∷ ks) P s w → figure N (last_key k ks) s w ≡ last xs
  listed_last k ks P [] l s w h = absurd l
  listed_last k [] P (x ∷ []) l s w h = l.0 s w h
  listed_last k [] P (x ∷ (y ∷ xs)) l s w h = absurd l.1
  listed_last k (j ∷ ks) P (x ∷ []) l s w h = absurd l.1
  listed_last k (j ∷ ks) P (x ∷ (y ∷ xs)) l s w h = listed_last j ks (Keep N k P) (y ∷ xs) l.1 s w h

  -- THE VALUE OF A PATH REDUCTION, WITHOUT ITS EARLIER FIGURES
  pub value_directly : (k : ℕ) (ks : List ℕ) (P : WalkSet) (o : Option (List ℕ)) → Figures N (k ∷ ks) P o → Directly N k ks P (value o)
  value_directly k ks P none f = f
  value_directly k ks P (some xs) f = (listed_kept (k ∷ ks) P xs f, listed_last k ks P xs f)
