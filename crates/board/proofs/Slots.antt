-- A PLAN'S PATH REDUCTIONS IN THE JOINT TABLE: each is found in its slot, and the figures there are those that it has alone. Assumes nothing.
use Prim.Native.Nat.{ℕ, zero, suc, ◌-◌, ◌≤◌, ◌<◌}
use mathlib.Core.Path.{◌≡◌, refl, sym, ap, ◌∙◌}
use mathlib.Core.List.{List, [], ◌∷◌, ◌++◌, map}
use native.Mathlib.Nat.{not-suc-le-zero, le_of_suc-le-suc}
use native.Mathlib.Omega.{arith}
use lib.Dec.{T}
use lib.ListN.{length, get_or, replicate, length-map, get_or-append}
use Rattle.engine.specs.declared.Limit.{Limit}
use Rattle.engine.specs.declared.Limit.TheVariants.{Quiet, Rounds}
use Rattle.engine.specs.Steps.{Settled, rounds_for}
use Rattle.fusion.specs.Steps.{index_of}
use Rattle.fusion.proofs.Fused.{index_position}
use Rattle.meaning.specs.Limits.{GraphFits, PathFits}
use Rattle.meaning.specs.Plan.{among, position, same_path}
use Rattle.meaning.specs.Query.{PathReduction}
use Rattle.meaning.specs.Run.{pull, tabulate, values_at}
use Rattle.meaning.proofs.Lists.{all_weaken, tabulate_at, tabulate_length}
use Rattle.meaning.proofs.Paths.{path_refl, position_at, position_below}
use Rattle.meaning.proofs.Together.{settled_same}
use Rattle.packed_path.specs.declared.PackedPath.{PackedPath}
use Rattle.packed_path.specs.Packed.{no_path, packed}
use Rattle.table.specs.Table.{value_in}
use Rattle.rows.proofs.Exact.{Holds}
use Rattle.value.specs.declared.Value.TheVariants.{Absent}
use Rattle.walks.specs.Lists.{All}
use Rattle.walks.specs.Meaning.{value}
use Rattle.walks.specs.Walks.{Graph}
use Rattle.walks.proofs.Tests.{or_left, or_right}
use Rattle.board.specs.Steps.{slots_in}

-- the element with an index, and what holds of each
map_at : {A B : Type 0} (f : A → B) (l : List A) (j : ℕ) (a : A) (d : B) → j < length l → get_or (map f l) j d ≡ f (get_or l j a)
map_at f [] j a d h = absurd (not-suc-le-zero h)
map_at f (x ∷ l) zero a d h = refl
map_at f (x ∷ l) (suc j) a d h = map_at f l j a d (le_of_suc-le-suc h)

all_at : {A : Type 0} (P : A → Type 0) (l : List A) (j : ℕ) (a : A) → All P l → j < length l → P (get_or l j a)
all_at P [] j a k h = absurd (not-suc-le-zero h)
all_at P (x ∷ l) zero a k h = k.0
all_at P (x ∷ l) (suc j) a k h = all_at P l j a k.1 (le_of_suc-le-suc h)

-- a list is among itself
itself : (cs : List PathReduction) → All (λ c. T (among c cs)) cs
itself [] = tt
itself (d ∷ cs) = (or_left (same_path d d) (among d cs) (path_refl d), all_weaken cs (λ c t. or_right (same_path c d) (among c cs) t) (itself cs))

module _ (own joint : List PathReduction) (own_rest joint_rest : List PackedPath) (few : length own ≤ 8) (own_legal : All (PathFits 256) own)
    (joint_legal : All (PathFits 256) joint) (there : All (λ c. T (among c joint)) own) where
  no : PathReduction
  no = record { keys = []; sources = [] }

  -- the slot of the j-th is its position in the joint list
  slot_is : (j : ℕ) → j < length own
      → get_or (slots_in (map packed own ++ own_rest) (length own) (map packed joint ++ joint_rest)) j 0 ≡ position (get_or own j no) joint
  unfolding slots_in
  slot_is j h =
      let own_table = map packed own ++ own_rest in
      let table = map packed joint ++ joint_rest in
      let f : ℕ → ℕ = λ i. index_of (get_or own_table i no_path) table in
      get_or-append (tabulate (length own) zero f) (replicate (8 - length own) 0) 0 j (omega (arith, tabulate_length (length own) zero f))
      ∙ tabulate_at (length own) j f 0 h
      ∙ ap (λ (p : PackedPath). index_of p table)
      (get_or-append (map packed own) own_rest no_path j (omega (arith, length-map own packed)) ∙ map_at packed own j no no_path h)
      ∙ index_position (get_or own j no) (all_at (PathFits 256) own j no own_legal h) joint joint_legal joint_rest
      (all_at (λ c. T (among c joint)) own j no there h)

  module _ (g : Graph) (fits : GraphFits g) (own_fit : All (PathFits g.vertices) own) (joint_fit : All (PathFits g.vertices) joint)
      (limit : Limit) (r : ℕ) (figures : List ℕ) (left : Settled limit g joint r figures) where
    -- its figures after the joint rounds are those after its own
    alike : (c : PathReduction) → T (among c own) → T (among c joint) → (v : ℕ) → v < g.vertices
        → pull g c r v ≡ pull g c (rounds_for limit g own) v
    alike c s t v h = ap (λ (k : ℕ). pull g c k v) left.rounds ∙ go limit
      where
        go : (l : Limit) → pull g c (rounds_for l g joint) v ≡ pull g c (rounds_for l g own) v
        go Quiet = settled_same g fits joint own joint_fit own_fit c t s v h
        go (Rounds k) = refl

    -- SO THE TABLE HOLDS, THROUGH THE SLOTS, THE VALUES THAT THEY HAVE ALONE
    pub holds_through : Holds g.vertices (length own) figures (slots_in (map packed own ++ own_rest) (length own) (map packed joint ++ joint_rest))
        (values_at (pull g) own (rounds_for limit g own))
    holds_through v h j i =
        let c = get_or own j no in
        let t = all_at (λ c. T (among c joint)) own j no there i in
        let s = all_at (λ c. T (among c own)) own j no (itself own) i in
        ap (λ (k : ℕ). value_in figures k v) (slot_is j i)
        ∙ left.holds v h (position c joint) (position_below c joint t)
        ∙ position_at (λ d. value (pull g d r v)) Absent c joint t
        ∙ ap value (alike c s t v h)
        ∙ sym (map_at (λ d. value (pull g d (rounds_for limit g own) v)) own j no Absent i)
