-- WHAT A RUN IN CODE LEAVES, by pull and by push, to quiet and for a given number of rounds: from what `rounds::run` ensures (`Ran`). Assumes nothing.
use Prim.Native.Nat.{ℕ, zero, suc, ◌+◌, ◌-◌, ◌*◌, ◌≤◌, ◌<◌}
use mathlib.Core.Path.{◌≡◌, refl, sym, ap, ◌∙◌, subst}
use mathlib.Core.Logic.{inl, inr}
use mathlib.Core.List.{List, [], ◌∷◌, map}
use native.Mathlib.Omega.{arith}
use native.Mathlib.Nat.{not-suc-le-zero}
use lib.Dec.{T}
use lib.ListN.{length, get_or}
use Rattle.value.specs.declared.Value.TheVariants.{Absent}
use Rattle.walks.specs.Lists.{All}
use Rattle.walks.specs.Meaning.{Figures, value}
use Rattle.walks.specs.Rounds.{rounds, unchanged}
use Rattle.walks.specs.Walks.{AllTo, Graph, Within}
use Rattle.walks.proofs.Quiet.{quiet_same}
use Rattle.walks.proofs.Rounds.{state_figures}
use Rattle.walks.proofs.Same.{quiet_yes, unchanged_yes}
use Rattle.meaning.specs.Limits.{GraphLegal, PathFits}
use Rattle.meaning.specs.Meaning.{PathMeans, PathWithin, Smallest}
use Rattle.meaning.specs.Query.{PathReduction, network_of}
use Rattle.meaning.specs.Run.{pull, values_at}
use Rattle.meaning.proofs.Lists.{all_unmapped}
use Rattle.meaning.proofs.Rounds.{network_fits, path_in_order, rounds_at_most, rounds_final, rounds_go_on, rounds_smallest, rounds_stop}
use Rattle.packed_path.specs.declared.PackedPath.{PackedPath}
use Rattle.table.specs.Table.{figures_in, path_at, paths_in, value_in}
use Rattle.rounds.specs.Run.{Ended, Ran, Read}
use Rattle.rounds.proofs.Tables.{legal_at}

-- what a function gives at the path reduction with index j
at_index : {B : Type 0} (f : PathReduction → B) (table : List PackedPath) (paths j : ℕ) (d : B) → j < paths → j < length table
    → get_or (map f (paths_in paths table)) j d ≡ f (path_at table j)
at_index f [] paths j d h k = absurd (not-suc-le-zero k)
at_index f (x ∷ t) zero j d h k = absurd (not-suc-le-zero h)
at_index f (x ∷ t) (suc p) zero d h k = refl
at_index f (x ∷ t) (suc p) (suc j) d h k = at_index f t p j d (omega arith) (omega arith)

-- a run of at most `limit` rounds on a legal graph g, of the path reductions that are the first `paths` of a table
module _ (g : Graph) (legal_graph : GraphLegal g) (paths : ℕ) (table : List PackedPath) (few : paths ≤ 8) (eight : length table ≡ 8)
    (legal : All (PathFits g.vertices) (paths_in paths table)) (limit done : ℕ) (figures : List ℕ) (ran : Ran g paths table limit done figures) where
  abbrev cs : List PathReduction
  cs = paths_in paths table

  -- path reduction j
  abbrev c : ℕ → PathReduction
  c = path_at table

  fits_at : (j : ℕ) → j < paths → PathFits g.vertices (path_at table j)
  fits_at j h = legal_at (PathFits g.vertices) table paths legal j h (omega arith)

  -- once quiet, always so: the figures after the given number of rounds are those of the rounds done
  settled : (j : ℕ) → j < paths → (v : ℕ) → v < g.vertices → Ended g paths table limit done → pull g (c j) done v ≡ pull g (c j) limit v
  settled j h v k (inl e) = ap (λ (r : ℕ). pull g (c j) r v) e.0
  settled j h v k (inr e) =
      let q = e.0 in
      let still = unchanged_yes (pull g (c j)) q g.vertices
      (legal_at (λ d. T (unchanged (pull g d) q g.vertices)) table paths
      (all_unmapped (λ S. T (unchanged S q g.vertices)) (pull g) cs (quiet_yes g.vertices (map (pull g) cs) q e.2)) j h (omega arith)) in
      let below : suc q ≤ limit = omega (arith, e.1, ran.within) in
      let sum : q + (limit - q) ≡ limit = omega arith in
      ap (λ (r : ℕ). pull g (c j) r v) e.1
      ∙ still v k
      ∙ sym (quiet_same (network_of g (c j)) (c j).keys (network_fits g legal_graph.fits (c j) (fits_at j h)) q still (limit - q) v k)
      ∙ ap (λ (r : ℕ). pull g (c j) r v) sum

  shows_limit : (j : ℕ) → j < paths → (v : ℕ) → v < g.vertices → figures_in (c j) figures j v ≡ pull g (c j) limit v
  shows_limit j h v k = ran.shows j h v k ∙ settled j h v k ran.ended

  -- ROUND BY ROUND: after a given number of rounds each vertex holds for each path reduction its figures over walks of no more edges
  pub round_value : (j : ℕ) → j < paths → (v : ℕ) → v < g.vertices →
      Figures (network_of g (path_at table j)) (path_at table j).keys (Within (network_of g (path_at table j)) limit v)
      (figures_in (path_at table j) figures j v)
  round_value j h v k =
      subst (Figures (network_of g (c j)) (c j).keys (Within (network_of g (c j)) limit v)) (sym (shows_limit j h v k))
      (state_figures (network_of g (c j)) (c j).keys (path_in_order g.vertices (c j) (fits_at j h)) limit v)

  -- so said of its value
  pub round_means : (j : ℕ) → j < paths → (v : ℕ) → v < g.vertices
      → PathWithin g limit (path_at table j) v (value (figures_in (path_at table j) figures j v))
  round_means j h v k = (figures_in (c j) figures j v, round_value j h v k, refl)

  -- the values of the state after r rounds, where the table shows it
  values_of : (r j : ℕ) → j < paths → (v : ℕ) → figures_in (c j) figures j v ≡ pull g (c j) r v
      → value (figures_in (c j) figures j v) ≡ get_or (values_at (pull g) cs r v) j Absent
  values_of r j h v e = ap value e ∙ sym (at_index (λ d. value (pull g d r v)) table paths j Absent h (omega arith))

  -- A RUN FOR A GIVEN NUMBER OF ROUNDS, quiet or not: the values are those of that number
  pub given_values : (j : ℕ) → j < paths → (v : ℕ) → v < g.vertices →
      value (figures_in (path_at table j) figures j v) ≡ get_or (values_at (pull g) (paths_in paths table) limit v) j Absent
  given_values j h v k = values_of limit j h v (shows_limit j h v k)

  -- and what is read off the table
  pub given_read : (values : List ℕ) → Read g.vertices paths table figures values → (j : ℕ) → j < paths → (v : ℕ) → v < g.vertices
      → value_in values j v ≡ get_or (values_at (pull g) (paths_in paths table) limit v) j Absent
  given_read values read j h v k = read j h v k ∙ given_values j h v k

  -- and those of the rounds done
  pub done_values : (j : ℕ) → j < paths → (v : ℕ) → v < g.vertices →
      value (figures_in (path_at table j) figures j v) ≡ get_or (values_at (pull g) (paths_in paths table) done v) j Absent
  done_values j h v k = values_of done j h v (ran.shows j h v k)

  -- A RUN TO QUIET, where the number given leaves room for 2n rounds
  module _ (enough : 2 * g.vertices ≤ limit) where
    rounds_are : Ended g paths table limit done → done ≡ rounds g.vertices (map (pull g) cs)
    rounds_are (inl e) = absurd (omega (arith, limit_below, legal_graph.fits.some_vertex))
      where
        limit_below : limit < 2 * g.vertices
        limit_below =
            let z : suc (limit - 1) ≡ limit = omega (arith, legal_graph.fits.some_vertex) in
            let b = rounds_go_on g legal_graph.fits cs legal (limit - 1) (λ j h t. e.1 j (omega arith) t) in
            omega arith
    rounds_are (inr e) = e.1 ∙ sym (rounds_stop g legal_graph.fits cs legal e.0 e.2 e.3)

    -- THE ROUNDS ARE THE PLAN'S
    pub quiet_rounds : done ≡ rounds g.vertices (map (pull g) (paths_in paths table))
    quiet_rounds = rounds_are ran.ended

    -- THE VALUES ARE THE PLAN'S
    pub quiet_values : (j : ℕ) → j < paths → (v : ℕ) → v < g.vertices →
        value (figures_in (path_at table j) figures j v)
        ≡ get_or (values_at (pull g) (paths_in paths table) (rounds g.vertices (map (pull g) (paths_in paths table))) v) j Absent
    quiet_values j h v k = done_values j h v k ∙ ap (λ (r : ℕ). get_or (values_at (pull g) cs r v) j Absent) quiet_rounds

    pub quiet_read : (values : List ℕ) → Read g.vertices paths table figures values → (j : ℕ) → j < paths → (v : ℕ) → v < g.vertices →
        value_in values j v ≡ get_or (values_at (pull g) (paths_in paths table) (rounds g.vertices (map (pull g) (paths_in paths table))) v) j Absent
    quiet_read values read j h v k = read j h v k ∙ quiet_values j h v k

    -- the least count, one or more, whose last round changed nothing
    pub quiet_smallest : Smallest g (paths_in paths table) done
    quiet_smallest = subst (Smallest g cs) (sym quiet_rounds) (rounds_smallest g legal_graph.fits cs legal)

    -- never more than 2n
    pub quiet_bound : done ≤ 2 * g.vertices
    quiet_bound = omega (arith, quiet_rounds, rounds_at_most g legal_graph.fits cs legal)

    -- the figures then are those over all walks
    pub quiet_final : (j : ℕ) → j < paths → (v : ℕ) → v < g.vertices →
        Figures (network_of g (path_at table j)) (path_at table j).keys (AllTo (network_of g (path_at table j)) v) (figures_in (path_at table j) figures j v)
    quiet_final j h v k =
        subst (Figures (network_of g (c j)) (c j).keys (AllTo (network_of g (c j)) v))
        (sym (ran.shows j h v k ∙ ap (λ (r : ℕ). pull g (c j) r v) quiet_rounds))
        (legal_at
        (λ d. (u : ℕ) → u < g.vertices → Figures (network_of g d) d.keys (AllTo (network_of g d) u)
        (pull g d (rounds g.vertices (map (pull g) cs)) u))
        table paths
        (rounds_final g legal_graph.fits cs legal) j h (omega arith) v k)

    -- so said of its value
    pub quiet_means : (j : ℕ) → j < paths → (v : ℕ) → v < g.vertices
        → PathMeans g (path_at table j) v (value (figures_in (path_at table j) figures j v))
    quiet_means j h v k = (figures_in (c j) figures j v, quiet_final j h v k, refl)
