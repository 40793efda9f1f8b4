use Prim.Native.Nat.{ℕ, ◌≤◌, ◌<◌}
use mathlib.Core.Path.{refl, ◌∙◌}
use mathlib.Core.List.{List}
use native.Mathlib.Omega.{arith}
use lib.ListN.{get_or}
use Rattle.vertex_set.specs.Sets.{Met}
use Rattle.vertex_set.specs.declared.Member.{Member}
use Rattle.vertex_set.proofs.Sets.{met_least}
use Rattle.incoming.proofs.Sizes.{few_vertices}
use Rattle.packed_path.specs.Packed.{no_path}
use Rattle.table.specs.Table.{changed_in, path_at}
use Rattle.table.proofs.Cells.{cell_mark}
use Rattle.rounds.specs.Prepared.{graph_in, vertices_in}
use Rattle.rounds.specs.Run.{Stands}
use Rattle.rounds.specs.declared.PreparedRun.{PreparedRun}
use Rattle.rounds.proofs.Given.{given_at}
use Rattle.rounds.proofs.Standing.{awake_early, pull_stands, push_stands, rests}
use Rattle.rounds.proofs.PreparedRun.advance.Goals as goal

-- where a vertex changed, few rounds are done
early : (x : PreparedRun) (j : ℕ) → j < x.paths → (r : ℕ) (l : List ℕ) → Stands (graph_in x) (path_at x.table j) r j l
    → (m : Member) → Met l j 0 m → m.vertex < vertices_in x → r < 1023
unfolding changed_in
early x j h r l stands m met inside =
    let p = met_least l j 0 (omega arith) m met in
    awake_early x.indexed.graph.bytes.now (get_or x.table j no_path) (given_at x j h) j r l stands m.vertex inside
    (cell_mark l j m.vertex ∙ p.passes (omega (arith, inside, few_vertices x.indexed.graph.bytes.now x.indexed.graph.accepted)))

pub returns-then-vertices-m : goal.returns-then-vertices-m
unfolding changed_in
returns-then-vertices-m c =
    let a = c.args in
    let x = a.self.now in
    let l = met_least a.figures.now a.j 0 (omega arith) _ c.first-m.ensures in
    let end : vertices_in x ≤ c.first-m.result.vertex = omega (arith, c.vertices.ensures.0, c.if-vertices-m.true) in (
      rests x.indexed.graph.bytes.now (get_or x.table a.j no_path) (given_at x a.j c.requires.0) a.j a.r a.figures.now c.requires.1
          (λ v h. cell_mark a.figures.now a.j v ∙ l.none_before v (omega arith) (omega (arith, end))),
      refl,
    )

pub push_round-requires : goal.push_round-requires
push_round-requires c =
    let a = c.args in
    let inside : c.first-m.result.vertex < vertices_in a.self.now = omega (arith, c.vertices.ensures.0, c.if-vertices-m.false) in (
      c.requires.0,
      early a.self.now a.j c.requires.0 a.r a.figures.now c.requires.1 _ c.first-m.ensures inside,
      c.requires.1.sound,
      c.requires.2,
    )

pub pull_round-requires : goal.pull_round-requires
pull_round-requires c =
    let a = c.args in
    let inside : c.first-m.result.vertex < vertices_in a.self.now = omega (arith, c.vertices.ensures.0, c.if-vertices-m.false) in (
      c.requires.0,
      early a.self.now a.j c.requires.0 a.r a.figures.now c.requires.1 _ c.first-m.ensures inside,
      c.requires.1.sound,
      c.requires.2,
    )

pub returns-then-push : goal.returns-then-push
returns-then-push c =
    let a = c.args in
    let x = a.self.now in
    let t = c.push_round.ensures in (
      push_stands x.indexed.graph.bytes.now (get_or x.table a.j no_path) (given_at x a.j c.requires.0) a.j a.r a.figures.now c.requires.1 _ _ t.0,
      t.1,
    )

pub returns : goal.returns
returns c =
    let a = c.args in
    let x = a.self.now in
    let t = c.pull_round.ensures in (
      pull_stands x.indexed.graph.bytes.now (get_or x.table a.j no_path) (given_at x a.j c.requires.0) a.j a.r a.figures.now c.requires.1 _ _ t.0,
      t.1,
    )
