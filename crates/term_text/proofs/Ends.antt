-- The state before the first term, and the left-over bytes. Assumes nothing.
use Prim.Native.Nat.{ℕ, ◌≤◌}
use mathlib.Core.Path.{◌≡◌, refl}
use mathlib.Core.Bool.{Bool, true, false, cond}
use mathlib.Core.List.{List, [], ◌∷◌}
use native.Mathlib.Omega.{arith}
use borrow.Author.Tests.{ltb-false, eqb-false, le-ltb}
use lib.Dec.{ltb, eqb}
use lib.ListN.{length, replicate}
use Rattle.packed_path.specs.Packed.{no_path}
use Rattle.progress.specs.Progress.{Scan}
use Rattle.progress.specs.Progress.{blank, ended, started}
use Rattle.term_text.proofs.Table.{Table}

-- before the first term the table is empty
pub started_table : (at : ℕ) → Table (started at) []
unfolding started
started_table at = record { legal = tt; count = refl; few = omega arith; rest = replicate 8 no_path; holds = refl; size = refl; few_reductions = omega arith }

-- nothing is left over exactly where the reading has come to the end
pub ended_whole : (s : List ℕ) (w : Scan) → length s ≤ w.at → ended s w ≡ w
unfolding ended
ended_whole s w h = go (eqb w.code 0)
  where
    go : (b : Bool) → cond b (cond (ltb w.at (length s)) (blank 6) w) w ≡ w
    go true = rw (le-ltb w.at (length s) h) refl
    go false = refl

pub ended_code : (s : List ℕ) (w : Scan) → (ended s w).code ≡ 0 → (w.code ≡ 0) × (length s ≤ w.at)
unfolding ended blank
ended_code s w e = go (eqb w.code 0) (ltb w.at (length s)) refl refl e
  where
    go : (a b : Bool) → eqb w.code 0 ≡ a → ltb w.at (length s) ≡ b → (cond a (cond b (blank 6) w) w).code ≡ 0 → (w.code ≡ 0)
        × (length s ≤ w.at)
    go true true p q z = absurd (omega arith)
    go true false p q z = (z, ltb-false w.at (length s) q)
    go false b p q z = absurd (eqb-false w.code 0 p z)

-- a list of length 0 is empty
pub no_rest : (r : List ℕ) → length r ≡ 0 → r ≡ []
no_rest [] z = refl
no_rest (x ∷ r) z = absurd (omega arith)
