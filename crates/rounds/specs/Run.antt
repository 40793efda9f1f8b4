-- ROUNDS AND RUNS ON A TABLE (document 01: pull run, push run), over what the table shows at each vertex before and after (table/specs/Table).
use Rattle.std.specs.Prelude.{ℕ, suc, ◌+◌, ◌*◌, ◌≤◌, ◌<◌, ◌≡◌, ◌⊎◌, Bool, not, List, map, T, length}
use Rattle.walks.specs.Meaning.{value}
use Rattle.walks.specs.Rounds.{State, gather, initial, marked, push_round, quiet, reached, same, unchanged}
use Rattle.walks.specs.Walks.{Graph, Network}
use Rattle.meaning.specs.Query.{PathReduction, network_of}
use Rattle.meaning.specs.Run.{pull}
use Rattle.packed_path.specs.declared.PackedPath.{PackedPath}
use Rattle.table.specs.Table.{Idle, Others, Sound, any_vertex, changed_in, figures_in, path_at, paths_in, value_in}

-- what each vertex holds after a round, of what it held before. BY PULL: over all edges that may be taken
abbrev pub pulled : Network → List ℕ → State → State
pulled N ks S v = gather N ks N.usable S v N.edges

-- BY PUSH: over those from vertices that the round before changed
abbrev pub pushed_from : Network → List ℕ → State → (ℕ → Bool) → State
pushed_from N ks S changed = push_round N ks (record { holds = S; changed = changed })

-- INITIAL VALUES of the path reduction c with index j: "start values are round 0"
pub record Begun (g : Graph) (c : PathReduction) (j : ℕ) (old new : List ℕ) : Type 0 where
  pub figures : (v : ℕ) → v < g.vertices → figures_in c new j v ≡ initial ((network_of g c).source v) c.keys v
  pub marks : (v : ℕ) → v < g.vertices → changed_in 0 new j v ≡ reached (figures_in c new j v)
  pub others : Others g.vertices j old new
  pub sound : Sound g.vertices c 0 new j

-- THE ROUND AFTER r of the path reduction c with index j, alone: each vertex holds what `next` says, those that changed are marked, and the
-- round says whether any is
pub record Round (g : Graph) (c : PathReduction) (r j : ℕ) (next : State) (old new : List ℕ) (says : Bool) : Type 0 where
  pub figures : (v : ℕ) → v < g.vertices → figures_in c new j v ≡ next v
  pub marks : (v : ℕ) → v < g.vertices → changed_in (suc r) new j v ≡ not (same (figures_in c new j v) (figures_in c old j v))
  pub moves : says ≡ any_vertex g.vertices (changed_in (suc r) new j)
  pub others : Others g.vertices j old new
  pub sound : Sound g.vertices c (suc r) new j

-- A PULL ROUND, AND A PUSH ROUND: of any figures, and of any marks
abbrev pub PullRound : Graph → PathReduction → ℕ → ℕ → List ℕ → List ℕ → Bool → Type 0
PullRound g c r j old new says = Round g c r j (pulled (network_of g c) c.keys (figures_in c old j)) old new says

abbrev pub PushRound : Graph → PathReduction → ℕ → ℕ → List ℕ → List ℕ → Bool → Type 0
PushRound g c r j old new says = Round g c r j (pushed_from (network_of g c) c.keys (figures_in c old j) (changed_in r old j)) old new says

-- the path reduction c with index j AFTER r ROUNDS
pub record Stands (g : Graph) (c : PathReduction) (r j : ℕ) (l : List ℕ) : Type 0 where
  pub figures : (v : ℕ) → v < g.vertices → figures_in c l j v ≡ pull g c r v
  pub marks : (v : ℕ) → v < g.vertices → changed_in r l j v ≡ (marked (network_of g c) c.keys r).changed v
  pub sound : Sound g.vertices c r l j

-- it goes on by a round, and says whether any vertex changed
abbrev pub Advanced : Graph → PathReduction → ℕ → ℕ → List ℕ → List ℕ → Bool → Type 0
Advanced g c r j old new says = Stands g c (suc r) j new × (says ≡ not (unchanged (pull g c) r g.vertices)) × Others g.vertices j old new

-- all path reductions of a table after r rounds
pub record AllStand (g : Graph) (paths : ℕ) (table : List PackedPath) (r : ℕ) (l : List ℕ) : Type 0 where
  pub each : (j : ℕ) → j < paths → Stands g (path_at table j) r j l
  pub long : 32 + 9 * g.vertices ≤ length l
  pub idle : Idle g.vertices l

-- does the round after r change no vertex for any of them?
abbrev pub quiet_after : Graph → ℕ → List PackedPath → ℕ → Bool
quiet_after g paths table r = quiet g.vertices (map (pull g) (paths_in paths table)) r

-- "A run stops after the first round, counted from 1, in which no place changes for any chain"; or it has done the rounds given, none of which was such a one
abbrev pub Ended : Graph → ℕ → List PackedPath → ℕ → ℕ → Type 0
Ended g paths table limit rounds =
    ((rounds ≡ limit) × ((q : ℕ) → q < limit → T (quiet_after g paths table q) → ⊥))
    ⊎ ((q : ℕ) × (rounds ≡ suc q) × T (quiet_after g paths table q) × ((i : ℕ) → i < q → T (quiet_after g paths table i) → ⊥))

-- WHAT A RUN OF AT MOST `limit` ROUNDS LEAVES: as many rounds as it says, and a table that shows at each vertex for each path reduction what the
-- theory's state is after that many
pub record Ran (g : Graph) (paths : ℕ) (table : List PackedPath) (limit rounds : ℕ) (figures : List ℕ) : Type 0 where
  pub within : rounds ≤ limit
  pub ended : Ended g paths table limit rounds
  pub shows : (j : ℕ) → j < paths → (v : ℕ) → v < g.vertices → figures_in (path_at table j) figures j v ≡ pull g (path_at table j) rounds v
  pub sound : (j : ℕ) → j < paths → Sound g.vertices (path_at table j) rounds figures j

-- WHAT IS READ OFF such a table: the value of each path reduction at each vertex
abbrev pub AllSound : ℕ → ℕ → List PackedPath → List ℕ → Type 0
AllSound n paths table l = (j : ℕ) → j < paths → (r : ℕ) × Sound n (path_at table j) r l j

abbrev pub Read : ℕ → ℕ → List PackedPath → List ℕ → List ℕ → Type 0
Read n paths table old new = (j : ℕ) → j < paths → (v : ℕ) → v < n → value_in new j v ≡ value (figures_in (path_at table j) old j v)

-- and so a run ends: with the values of the table that its rounds have left
abbrev pub RanRead : Graph → ℕ → List PackedPath → ℕ → ℕ → List ℕ → Type 0
RanRead g paths table limit rounds values = (l : List ℕ) × Ran g paths table limit rounds l × Read g.vertices paths table l values
