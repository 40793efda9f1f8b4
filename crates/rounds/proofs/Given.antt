-- What is known of an accepted graph and a legal path reduction. Assumes nothing.
use Prim.Native.Nat.{ℕ, ◌<◌}
use mathlib.Core.Path.{◌≡◌, refl}
use mathlib.Core.Bool.{Bool, true, false}
use mathlib.Core.List.{List}
use native.Mathlib.Omega.{arith}
use lib.Dec.{T}
use lib.ListN.{get_or}
use Rattle.walks.specs.Keys.{in_order, legal_keys}
use Rattle.walks.specs.Walks.{Fits}
use Rattle.meaning.specs.Limits.{GraphLegal, PathFits}
use Rattle.meaning.specs.Query.{network_of}
use Rattle.meaning.proofs.Rounds.{network_fits, path_in_order}
use Rattle.wire.specs.Wire.{Bytes, at16}
use Rattle.graph.specs.Graph.{graph_code, graph_of}
use Rattle.graph.proofs.Exact.{read_sound}
use Rattle.packed_path.specs.declared.PackedPath.{PackedPath}
use Rattle.packed_path.specs.Packed.{no_path, path_of}
use Rattle.rounds.specs.Prepared.{vertices_in}
use Rattle.rounds.specs.declared.PreparedRun.{PreparedRun}
use Rattle.rounds.proofs.Tables.{legal_at}

pub record Given (s : List ℕ) (path : PackedPath) : Type 0 where
  pub bytes : Bytes s
  pub accepted : graph_code s ≡ 0
  pub fits : PathFits (at16 s 5) (path_of path)

pub T_true : (b : Bool) → T b → b ≡ true
T_true true t = refl
T_true false t = absurd t

-- of the path reduction j of a prepared run
pub given_at : (x : PreparedRun) (j : ℕ) → j < x.paths → Given x.indexed.graph.bytes.now (get_or x.table j no_path)
given_at x j h = record {
  bytes = x.indexed.graph.bytes_fit;
  accepted = x.indexed.graph.accepted;
  fits = legal_at (PathFits (vertices_in x)) x.table x.paths x.fits j h (omega (arith, x.few, x.wide));
}

module _ (s : List ℕ) (path : PackedPath) (g : Given s path) where
  pub graph_legal : GraphLegal (graph_of s)
  graph_legal = (read_sound s g.bytes g.accepted).0

  pub path_legal : T (legal_keys (path_of path).keys)
  path_legal = g.fits.0

  pub path_ordered : T (in_order (path_of path).keys)
  path_ordered = path_in_order (at16 s 5) (path_of path) g.fits

  pub path_network : Fits (network_of (graph_of s) (path_of path))
  path_network = network_fits (graph_of s) graph_legal.fits (path_of path) g.fits
