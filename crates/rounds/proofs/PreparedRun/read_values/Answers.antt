use Prim.Native.Nat.{◌<◌}
use mathlib.Core.Path.{ap, ◌∙◌}
use native.Mathlib.Omega.{arith}
use Rattle.incoming.proofs.Sizes.{few_vertices}
use Rattle.packed_figures.specs.declared.PathConstants.{PathConstants}
use Rattle.packed_figures.proofs.Legal.{legal_sound}
use Rattle.table.specs.Steps.{value_word, word_in}
use Rattle.table.specs.Table.{path_at}
use Rattle.rounds.specs.Prepared.{vertices_in}
use Rattle.rounds.proofs.Given.{given_at}
use Rattle.rounds.proofs.Values.{value_read}
use Rattle.rounds.proofs.PreparedRun.read_values.Goals as goal

pub read_values-requires : goal.read_values-requires
read_values-requires c =
    let x = c.args.self.now in
    let l = c.loop-j in
    let h : l.j < x.paths = omega arith in (
      rw (x.constants l.j h) (legal_sound (path_at x.table l.j).keys (given_at x l.j h).fits.0),
      omega (arith, h, x.few),
      omega (arith, c.vertices-n.ensures.0, (c.requires l.j h).1.long, l.invariant.size),
    )

pub returns : goal.returns
returns c j h v k =
    let x = c.args.self.now in
    let old = c.args.figures.now in
    let l = c.loop-j in
    let y = c.requires j h in
    value_read (vertices_in x) (few_vertices x.indexed.graph.bytes.now x.indexed.graph.accepted) (path_at x.table j) (given_at x j h).fits.0 y.0
    old l.figures j (omega (arith, h, x.few)) y.1 l.invariant.size v k
    (l.invariant.done j (omega arith) v (omega (arith, c.vertices-n.ensures.0))
    ∙ ap (λ (d : PathConstants). value_word d (word_in old j v)) (x.constants j h))
