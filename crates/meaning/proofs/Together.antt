-- Path reductions of several queries run together: their rounds are the greatest of the separate counts, equal ones put together or not; and after them each
-- has the figures that it has after rounds of its own. Assumes nothing.
use Prim.Native.Nat.{ℕ, ◌≤◌, ◌<◌, max}
use mathlib.Core.Path.{◌≡◌, ap}
use mathlib.Core.List.{List, [], ◌∷◌, ◌++◌, map}
use native.Mathlib.Omega.{arith}
use lib.Dec.{T}
use Rattle.walks.specs.Lists.{All}
use Rattle.walks.specs.Rounds.{State, rounds}
use Rattle.walks.specs.Walks.{AllTo, Graph}
use Rattle.walks.specs.Meaning.{Figures}
use Rattle.walks.proofs.Joint.{greatest_rounds, rounds_greatest}
use Rattle.walks.proofs.Optimal.{figures_unique}
use Rattle.meaning.specs.Limits.{GraphFits, PathFits}
use Rattle.meaning.specs.Meaning.{Same, Smallest}
use Rattle.meaning.specs.Plan.{among, put_all}
use Rattle.meaning.specs.Query.{PathReduction, network_of}
use Rattle.meaning.specs.Run.{pull}
use Rattle.meaning.proofs.Lists.{all_append, all_weaken, map_append}
use Rattle.meaning.proofs.Paths.{all_among, put_all_has, put_all_holds}
use Rattle.meaning.proofs.Rounds.{rounds_final, rounds_smallest, settle, smallest_unique}

-- one or more
greatest_some : (n : ℕ) (Ss : List (ℕ → State)) → 1 ≤ greatest_rounds n Ss
greatest_some n [] = omega arith
greatest_some n (S ∷ Ss) = omega (arith, greatest_some n Ss)

greatest_both : (n : ℕ) (As Bs : List (ℕ → State)) → greatest_rounds n (As ++ Bs) ≡ max (greatest_rounds n As) (greatest_rounds n Bs)
greatest_both n [] Bs = omega (arith, greatest_some n Bs)
greatest_both n (A ∷ As) Bs = omega (arith, greatest_both n As Bs)

-- equal path reductions put together change at the same rounds
pub smallest_put : (g : Graph) (cs : List PathReduction) {r : ℕ} → Smallest g (put_all [] cs) r → Smallest g cs r
smallest_put g cs s = record {
  before = s.before;
  one_more = s.one_more;
  same = all_weaken cs (λ c t. all_among (Same g s.before) c (put_all [] cs) s.same t) (put_all_has [] cs);
  none_smaller = λ j l h. s.none_smaller j l (put_all_holds (Same g j) [] cs tt h);
}

module _ (g : Graph) (fits : GraphFits g) where
  -- THE ROUNDS OF PATH REDUCTIONS PUT TOGETHER ARE THOSE OF THE PATH REDUCTIONS AS WRITTEN
  pub rounds_put : (cs : List PathReduction) → All (PathFits g.vertices) cs
      → rounds g.vertices (map (pull g) (put_all [] cs)) ≡ rounds g.vertices (map (pull g) cs)
  rounds_put cs h =
      smallest_unique g cs _ _ (smallest_put g cs (rounds_smallest g fits (put_all [] cs) (put_all_holds (PathFits g.vertices) [] cs tt h)))
      (rounds_smallest g fits cs h)

  -- THOSE OF TWO LISTS ARE THE GREATER
  pub rounds_both : (cs ds : List PathReduction) → All (PathFits g.vertices) cs → All (PathFits g.vertices) ds
      → rounds g.vertices (map (pull g) (cs ++ ds)) ≡ max (rounds g.vertices (map (pull g) cs)) (rounds g.vertices (map (pull g) ds))
  rounds_both cs ds h k =
      let n = g.vertices in
      let A = map (pull g) cs in
      let B = map (pull g) ds in
      let a = rounds_greatest n A (settle g fits cs h) in
      let b = rounds_greatest n B (settle g fits ds k) in
      let c = rounds_greatest n (map (pull g) (cs ++ ds)) (settle g fits (cs ++ ds) (all_append (PathFits n) cs ds h k)) in
      let e = ap (greatest_rounds n) (map_append (pull g) cs ds) in
      omega (arith, a, b, c, e, greatest_both n A B)

  -- one of them has its figures over all walks
  settled_one : (cs : List PathReduction) → All (PathFits g.vertices) cs → (c : PathReduction) → T (among c cs) → (v : ℕ) → v < g.vertices
      → Figures (network_of g c) c.keys (AllTo (network_of g c) v) (pull g c (rounds g.vertices (map (pull g) cs)) v)
  settled_one cs h c t =
      all_among
      (λ d. (v : ℕ) → v < g.vertices → Figures (network_of g d) d.keys (AllTo (network_of g d) v)
      (pull g d (rounds g.vertices (map (pull g) cs)) v))
      c cs (rounds_final g fits cs h) t

  -- ONE THAT STANDS IN TWO LISTS has the same figures after the rounds of either
  pub settled_same : (cs ds : List PathReduction) → All (PathFits g.vertices) cs → All (PathFits g.vertices) ds
      → (c : PathReduction) → T (among c cs) → T (among c ds) → (v : ℕ) → v < g.vertices
      → pull g c (rounds g.vertices (map (pull g) cs)) v ≡ pull g c (rounds g.vertices (map (pull g) ds)) v
  settled_same cs ds h k c s t v l =
      figures_unique (network_of g c) c.keys (AllTo (network_of g c) v) _ _ (settled_one cs h c s v l) (settled_one ds k c t v l)
