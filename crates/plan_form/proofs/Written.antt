-- How long the text of path reductions is, and whether any of them is a set. Assumes nothing.
use Prim.Native.Nat.{ℕ, suc, ◌≤◌, ◌<◌}
use mathlib.Core.Path.{◌≡◌, refl}
use mathlib.Core.Bool.{Bool, true, false, cond, ◌||◌}
use mathlib.Core.List.{List, [], ◌∷◌, map}
use native.Mathlib.Omega.{arith}
use borrow.Author.Tests.{eqb-true, lt-leb}
use lib.Dec.{leb, eqb}
use lib.ListN.{length, take, length-take}
use Rattle.draft.proofs.Texts.{texts_short}
use Rattle.meaning.specs.Limits.{HeldBy, PlanLegal}
use Rattle.meaning.specs.Plan.{Plan, version_of}
use Rattle.meaning.specs.Query.{PathReduction}
use Rattle.nodes.specs.Text.{set_text, start_text}
use Rattle.packed_path.specs.declared.PackedPath.{PackedPath}
use Rattle.packed_path.specs.Packed.{packed, sources_of}
use Rattle.term_text.proofs.Sources.{starts_size}
use Rattle.walks.specs.Lists.{All}
use Rattle.plan_form.specs.Form.{all_listed_text, any_set, held_code, listed_text}

row_short : (version : ℕ) (p : PackedPath) → length (listed_text version p) ≤ 37
unfolding listed_text
row_short version p = go (eqb version 1)
  where
    go : (b : Bool) → suc (suc (suc (suc (length (cond b (start_text p) (set_text p)))))) ≤ 37
    go true = omega arith
    go false = let few = length-take 16 (sources_of p) in omega (arith, starts_size (take 16 (sources_of p)))

-- eight take at most 296 bytes
pub rows_short : (version count : ℕ) (l : List PackedPath) → length l ≡ 8 → length (all_listed_text version (take count l)) ≤ 296
rows_short version count l h = omega (arith, texts_short (listed_text version) 37 (row_short version) (take count l), length-take count l)

-- FUSING TAKES VERSION 2 EXACTLY WHERE THERE IS A SET
pub version_is : (cs : List PathReduction) → version_of cs ≡ cond (any_set (map packed cs)) 2 1
version_is [] = refl
version_is (c ∷ cs) = go (leb 2 (length c.sources)) (version_is cs)
  where
    go : (b : Bool) → version_of cs ≡ cond (any_set (map packed cs)) 2 1 → cond b 2 (version_of cs) ≡ cond (b || any_set (map packed cs)) 2 1
    go true e = refl
    go false e = e

-- the version of a legal plan has bytes for its path reductions
pub held_legal : (p : Plan) → PlanLegal 256 p → held_code p.version (map packed p.paths) ≡ 0
held_legal p l = go (eqb p.version 1) refl
  where
    none : (cs : List PathReduction) → p.version < 2 → All (HeldBy p.version) cs → any_set (map packed cs) ≡ false
    none [] h k = refl
    none (c ∷ cs) h k = rw (lt-leb 2 (length c.sources) (omega (arith, k.0 h))) (none cs h k.1)

    go : (b : Bool) → eqb p.version 1 ≡ b → ◌≡◌ {A = ℕ} (cond b (cond (any_set (map packed p.paths)) 3 0) 0) 0
    go true e = let one = eqb-true p.version 1 e in rw (none p.paths (omega arith) l.paths_held) refl
    go false e = refl
