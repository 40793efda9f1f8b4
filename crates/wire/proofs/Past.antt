-- Past the end, and only there, the default shows. Assumes nothing.
use Prim.Native.Nat.{ℕ, zero, suc, ◌≤◌, ◌<◌}
use mathlib.Core.Path.{◌≡◌, refl, sym}
use mathlib.Core.List.{List, [], ◌∷◌}
use native.Mathlib.Nat.{not-suc-le-zero, le_of_suc-le-suc}
use lib.ListN.{length, get_or, get_or-eq_default}

-- a byte that is there does not depend on the default; past the end the default shows
pub get_or_any : (s : List ℕ) (i a b : ℕ) → i < length s → get_or s i a ≡ get_or s i b
get_or_any [] i a b h = absurd (not-suc-le-zero h)
get_or_any (x ∷ s) zero a b h = refl
get_or_any (x ∷ s) (suc i) a b h = get_or_any s i a b (le_of_suc-le-suc h)

pub get_or_past : (s : List ℕ) (i a : ℕ) → length s ≤ i → a ≡ get_or s i a
get_or_past s i a h = sym (get_or-eq_default s a {n = i} h)
