use native.Mathlib.Omega.{arith}
use mathlib.Core.Path.{sym}
use lib.ListN.{get_or}
use Rattle.packed_figures.proofs.Legal.{legal_sound}
use Rattle.packed_path.specs.Packed.{no_path}
use Rattle.table.specs.Table.{path_at}
use Rattle.rounds.proofs.Given.{given_at}
use Rattle.rounds.proofs.Shown.{begins_at}
use Rattle.rounds.proofs.PreparedRun.initialize_at.Goals as goal

pub initialize-requires : goal.initialize-requires
initialize-requires c =
    let x = c.args.self.now in
    let j = c.args.j in
    let v = c.vertices.ensures in
    let h = c.requires.0 in (
      rw (x.constants j h) (legal_sound (path_at x.table j).keys (given_at x j h).fits.0),
      v.1,
      omega (arith, h, x.few),
      omega (arith, v.0, c.requires.1),
    )

pub returns : goal.returns
returns c =
    let a = c.args in
    let x = a.self.now in
    begins_at x.indexed.graph.bytes.now (get_or x.table a.j no_path) (given_at x a.j c.requires.0) a.j a.figures.now _ c.requires.1 c.requires.2
    (rw (sym (x.constants a.j c.requires.0), sym c.vertices.ensures.0) c.initialize.ensures)
