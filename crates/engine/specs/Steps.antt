-- What a run in code is made of. Nothing to believe: the contracts of runs are equations with `run_reply`, and the laws of proofs/Meant lead there.
use Rattle.std.specs.Prelude.{ℕ, ◌*◌, ◌<◌, ◌≡◌, List, map, length, get_or}
use Rattle.graph.specs.Graph.{graph_code}
use Rattle.meaning.specs.Query.{PathReduction}
use Rattle.meaning.specs.Run.{pull, values_at}
use Rattle.progress.specs.Progress.{Scan}
use Rattle.table.specs.Table.{paths_in, value_in}
use Rattle.value.specs.declared.Value.TheVariants.{Absent}
use Rattle.walks.specs.Rounds.{rounds}
use Rattle.walks.specs.Walks.{Graph}
use Rattle.wire.specs.Header.{then}
use Rattle.wire.specs.Wire.{at16}
use Rattle.engine.specs.declared.Limit.{Limit}
use Rattle.engine.specs.declared.Limit.TheVariants.{Quiet, Rounds}
use Rattle.engine.specs.Run.{sources_code}

-- the path reductions of a plan, as its reader holds them
abbrev pub paths_of : Scan → List PathReduction
paths_of w = paths_in w.paths w.table

-- the refusal of the worksheet, of the map, of the starts
unfoldable pub run_code : Scan → List ℕ → ℕ
run_code w m = then w.code (then (graph_code m) (sources_code (at16 m 5) (paths_of w)))

-- at most so many rounds are done: the number given, or 2n
abbrev pub most_of : Limit → ℕ → ℕ
most_of Quiet n = 2 * n
most_of (Rounds r) n = r

-- so many are reported: the number given, or those done
abbrev pub reported_of : Limit → ℕ → ℕ
reported_of Quiet done = done
reported_of (Rounds r) done = r

-- so many are reported of path reductions run together: the number given, or those to the first quiet round
abbrev pub rounds_for : Limit → Graph → List PathReduction → ℕ
rounds_for Quiet g cs = rounds g.vertices (map (pull g) cs)
rounds_for (Rounds r) g cs = r

-- what the rounds of the path reductions cs leave: so many are reported, and a table that has the value of each at each vertex after them
pub record Settled (limit : Limit) (g : Graph) (cs : List PathReduction) (r : ℕ) (figures : List ℕ) : Type 0 where
  pub rounds : r ≡ rounds_for limit g cs
  pub holds : (v : ℕ) → v < g.vertices → (j : ℕ) → j < length cs → value_in figures j v ≡ get_or (values_at (pull g) cs r v) j Absent
