-- THE TABLE THAT ROUNDS IN CODE LEAVE has the values after the rounds reported: from what `rounds::run` ensures (`Ran`). Assumes nothing.
use Prim.Native.Nat.{ℕ, ◌*◌, ◌≤◌, ◌<◌, min}
use mathlib.Core.Path.{◌≡◌, refl, sym, ap, ◌∙◌, subst}
use mathlib.Core.List.{List, [], ◌∷◌}
use native.Mathlib.Omega.{arith}
use lib.ListN.{length, get_or, take, length-map, length-take}
use Rattle.graph.specs.Graph.{graph_code, graph_of}
use Rattle.graph.proofs.Exact as graph
use Rattle.meaning.specs.Limits.{GraphLegal, PathFits}
use Rattle.meaning.specs.Plan.{Plan}
use Rattle.meaning.specs.Query.{PathReduction}
use Rattle.meaning.specs.Run.{pull, run, stopped, values_at}
use Rattle.meaning.proofs.Lists.{tabulate_at}
use Rattle.packed_path.specs.declared.PackedPath.{PackedPath}
use Rattle.packed_path.specs.Packed.{path_of}
use Rattle.plan.specs.Plan.{plan_scan}
use Rattle.plan.specs.Tree.{plan_of}
use Rattle.progress.specs.Progress.{Scan}
use Rattle.table.specs.Table.{paths_in, value_in}
use Rattle.rounds.specs.Run.{Ran, Read}
use Rattle.rounds_laws.proofs.Main.{given_read, quiet_read, quiet_rounds}
use Rattle.rows.proofs.Exact.{Holds}
use Rattle.value.specs.declared.Value.TheVariants.{Absent}
use Rattle.walks.specs.Lists.{All}
use Rattle.walks.specs.Walks.{Graph}
use Rattle.wire.specs.Wire.{Bytes, at16}
use Rattle.engine.specs.declared.Limit.{Limit}
use Rattle.engine.specs.declared.Limit.TheVariants.{Quiet, Rounds}
use Rattle.engine.specs.Run.{outcome}
use Rattle.engine.specs.Steps.{Settled, most_of, reported_of, rounds_for, run_code}
use Rattle.engine.proofs.Meant.{Accepted, held, paths_are, run_means}
use Rattle.engine.proofs.Numbers.{paths_held}

-- ---- rounds of any path reductions, on an accepted map

module _ (m : List ℕ) (bm : Bytes m) (ok : graph_code m ≡ 0) (paths : ℕ) (table : List PackedPath) (few : paths ≤ 8) (eight : length table ≡ 8)
    (legal : All (PathFits (at16 m 5)) (paths_in paths table)) (limit : Limit) (done : ℕ) (figures : List ℕ)
    (ran : Ran (graph_of m) paths table (most_of limit (at16 m 5)) done figures) (values : List ℕ)
    (read : Read (at16 m 5) paths table figures values) where
  abbrev cs : List PathReduction
  cs = paths_in paths table

  abbrev g : Graph
  g = graph_of m

  graph_legal : GraphLegal g
  graph_legal = (graph.read_sound m bm ok).0

  count : length (paths_in paths table) ≡ paths
  count = length-map (take paths table) path_of ∙ omega (arith, length-take paths table)

  -- WHAT IS LEFT
  pub settled : Settled limit (graph_of m) (paths_in paths table) (reported_of limit done) values
  settled = go limit ran
    where
      go : (l : Limit) → Ran g paths table (most_of l (at16 m 5)) done figures → Settled l g cs (reported_of l done) values
      go (Rounds r) x = record {
        rounds = refl;
        holds = λ v h j i. given_read g graph_legal paths table few eight legal r done figures x values read j (omega (arith, count)) v h;
      }
      go Quiet x =
          let n = quiet_rounds g graph_legal paths table few eight legal (2 * at16 m 5) done figures x (omega arith) in
          record {
            rounds = n;
            holds = λ v h j i.
                quiet_read g graph_legal paths table few eight legal (2 * at16 m 5) done figures x (omega arith) values read j (omega (arith, count)) v h
                ∙ ap (λ (r : ℕ). get_or (values_at (pull g) cs r v) j Absent) (sym n);
          }

-- ---- those of a plan

-- each in the slot of its own index
abbrev pub own : List ℕ
own = 0 ∷ 1 ∷ 2 ∷ 3 ∷ 4 ∷ 5 ∷ 6 ∷ 7 ∷ []

own_at : (j : ℕ) → j < 8 → get_or own j 0 ≡ j
own_at j h = tabulate_at 8 j (λ i. i) 0 h

-- the rounds that an outcome reports are those of its path reductions
pub outcome_rounds : (limit : Limit) (g : Graph) (p : Plan) → (outcome limit g p).rounds ≡ rounds_for limit g p.paths
unfolding run stopped
outcome_rounds Quiet g p = refl
outcome_rounds (Rounds r) g p = refl

module _ (s m : List ℕ) (bs : Bytes s) (bm : Bytes m) (z : run_code (plan_scan s) m ≡ 0) where
  abbrev w : Scan
  w = plan_scan s

  a : Accepted s m
  a = (run_means s m bs bm z).0

  -- the path reductions in the reader's table are the plan's, and legal on the graph
  paths_there : paths_in (min (plan_scan s).paths 8) (plan_scan s).table ≡ (plan_of s).paths
  paths_there =
      let same : min w.paths 8 ≡ w.paths = omega (arith, paths_are s m bs bm z, (held s m bs bm z).count) in
      ap (λ (i : ℕ). paths_in i w.table) same ∙ paths_held w (plan_of s).paths (held s m bs bm z)

  pub sources_there : All (PathFits (at16 m 5)) (paths_in (min (plan_scan s).paths 8) (plan_scan s).table)
  sources_there = subst (All (PathFits (at16 m 5))) (sym paths_there) a.sources

  module _ (limit : Limit) (r : ℕ) (figures : List ℕ)
      (left : Settled limit (graph_of m) (paths_in (min (plan_scan s).paths 8) (plan_scan s).table) r figures) where
    plan_left : Settled limit (graph_of m) (plan_of s).paths r figures
    plan_left = subst (λ (cs : List PathReduction). Settled limit (graph_of m) cs r figures) paths_there left

    pub rounds_are : r ≡ (outcome limit (graph_of m) (plan_of s)).rounds
    rounds_are = plan_left.rounds ∙ sym (outcome_rounds limit (graph_of m) (plan_of s))

    pub table_holds : Holds (at16 m 5) (length (plan_of s).paths) figures (0 ∷ 1 ∷ 2 ∷ 3 ∷ 4 ∷ 5 ∷ 6 ∷ 7 ∷ [])
        (values_at (pull (graph_of m)) (plan_of s).paths (outcome limit (graph_of m) (plan_of s)).rounds)
    table_holds v h j i =
        let g = graph_of m in
        let cs = (plan_of s).paths in
        ap (λ (l : ℕ). value_in figures l v) (own_at j (omega (arith, a.legal.few_paths)))
        ∙ plan_left.holds v h j i
        ∙ ap (λ (k : ℕ). get_or (values_at (pull g) cs k v) j Absent) rounds_are
