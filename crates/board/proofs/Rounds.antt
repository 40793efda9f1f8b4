-- THE ROUNDS OF A BOARD: those of the joint path reductions are the greatest of the separate counts. Assumes nothing.
use Prim.Native.Nat.{ℕ, ◌≤◌, max}
use mathlib.Core.Path.{◌≡◌, sym, ap, ◌∙◌, fun_ext}
use mathlib.Core.List.{List, [], ◌∷◌, map}
use native.Mathlib.Omega.{arith}
use lib.ListN.{length}
use Rattle.board_text.specs.Board.{all_written, joint_paths}
use Rattle.engine.specs.declared.Limit.{Limit}
use Rattle.engine.specs.declared.Limit.TheVariants.{Quiet, Rounds}
use Rattle.engine.specs.Steps.{rounds_for}
use Rattle.engine.proofs.Table.{outcome_rounds}
use Rattle.meaning.specs.Limits.{GraphFits, PathFits}
use Rattle.meaning.specs.Plan.{fuse}
use Rattle.meaning.specs.Query.{PathReduction, Query, written_paths}
use Rattle.meaning.specs.Run.{pull}
use Rattle.meaning.proofs.Lists.{all_left, all_right}
use Rattle.meaning.proofs.Paths.{put_all_holds}
use Rattle.meaning.proofs.Rounds.{rounds_smallest}
use Rattle.meaning.proofs.Together.{rounds_both, rounds_put}
use Rattle.walks.specs.Lists.{All}
use Rattle.walks.specs.Rounds.{rounds}
use Rattle.walks.specs.Walks.{Graph}
use Rattle.walks.proofs.Joint.{rounds_none}
use Rattle.board.specs.Reply.{board_rounds, greatest}

-- all path reductions are legal on the graph exactly where each query's are
pub each_fits : (P : PathReduction → Type 0) (qs : List Query) → All P (all_written qs) → All (λ q. All P (written_paths q)) qs
each_fits P [] h = tt
each_fits P (q ∷ qs) h =
    (all_left P (written_paths q) (all_written qs) h, each_fits P qs (all_right P (written_paths q) (all_written qs) h))

-- the greatest of equal numbers
all_equal : {A : Type 0} (r : ℕ) (l : List A) → greatest (map (λ x. r) l) ≤ r
all_equal r [] = omega arith
all_equal r (x ∷ l) = omega (arith, all_equal r l)

module _ (g : Graph) (fits : GraphFits g) where
  -- the rounds of path reductions together, one or more
  abbrev R : List PathReduction → ℕ
  R cs = rounds g.vertices (map (pull g) cs)

  some : (cs : List PathReduction) → All (PathFits g.vertices) cs → 1 ≤ R cs
  some cs h = omega (arith, (rounds_smallest g fits cs h).one_more)

  -- of all path reductions as they are written
  written_greatest : (qs : List Query) → All (PathFits g.vertices) (all_written qs)
      → R (all_written qs) ≡ max 1 (greatest (map (λ q. R (fuse q).paths) qs))
  written_greatest [] h = rounds_none g.vertices
  written_greatest (q ∷ qs) h =
      let one = all_left (PathFits g.vertices) (written_paths q) (all_written qs) h in
      let others = all_right (PathFits g.vertices) (written_paths q) (all_written qs) h in
      omega (
        arith,
        rounds_both g fits (written_paths q) (all_written qs) one others,
        rounds_put g fits (written_paths q) one,
        written_greatest qs others,
      )

  -- as they are counted
  counted : (limit : Limit) (qs : List Query) → board_rounds limit g qs ≡ greatest (map (λ q. rounds_for limit g (fuse q).paths) qs)
  unfolding board_rounds
  counted limit qs = ap (λ (f : Query → ℕ). greatest (map f qs)) (fun_ext (λ q. outcome_rounds limit g (fuse q)))

  -- THE JOINT ROUNDS
  pub joint_rounds : (limit : Limit) (qs : List Query) → 1 ≤ length qs → All (PathFits g.vertices) (all_written qs)
      → rounds_for limit g (joint_paths qs) ≡ board_rounds limit g qs
  joint_rounds limit [] l h = absurd (omega arith)
  joint_rounds (Rounds r) (q ∷ qs) l h = sym (counted (Rounds r) (q ∷ qs) ∙ omega (arith, all_equal r qs))
  joint_rounds Quiet (q ∷ qs) l h =
      let own = put_all_holds (PathFits g.vertices) [] (written_paths q) tt
      (all_left (PathFits g.vertices) (written_paths q) (all_written qs) h) in
      rounds_put g fits (all_written (q ∷ qs)) h
      ∙ written_greatest (q ∷ qs) h
      ∙ sym (counted Quiet (q ∷ qs) ∙ omega (arith, some (fuse q).paths own))
