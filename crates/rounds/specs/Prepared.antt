-- A PREPARED RUN: its graph. Nothing to believe.
use Rattle.std.specs.Prelude.{ℕ}
use Rattle.walks.specs.Walks.{Graph}
use Rattle.wire.specs.Wire.{at16}
use Rattle.graph.specs.Graph.{graph_of}
use Rattle.rounds.specs.declared.PreparedRun.{PreparedRun}

abbrev pub graph_in : PreparedRun → Graph
graph_in x = graph_of x.indexed.graph.bytes.now

abbrev pub vertices_in : PreparedRun → ℕ
vertices_in x = at16 x.indexed.graph.bytes.now 5
