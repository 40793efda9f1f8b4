use mathlib.Core.Path.{◌≡◌, ap}
use native.Mathlib.Omega.{arith}
use lib.ListN.{replicate}
use Rattle.graph.specs.declared.EdgeRow.{EdgeRow}
use Rattle.graph.specs.Graph.{edge_in, edges_in, filled, table_of}
use Rattle.graph.proofs.Accepted.{accepted}
use Rattle.graph.proofs.Rows.{edges_count, filled_more, zeros}
use Rattle.graph.proofs.load.Goals as goal

pub loop-i-init : goal.loop-i-init
unfolding filled
loop-i-init c = ap (λ (r : EdgeRow). replicate 1024 r) (zeros c.default-rows.result c.default-rows.ensures)

pub edge_at-requires : goal.edge_at-requires
edge_at-requires c = let h = accepted _ c.requires in omega (arith, h.exact)

pub bounds-rows-i : goal.bounds-rows-i
bounds-rows-i c = let h = accepted _ c.requires in omega (arith, h.sizes.few_edges)

pub loop-i-preserved : goal.loop-i-preserved
loop-i-preserved c =
    let h = accepted _ c.requires in
    let l = c.loop-i in
    rw (l.invariant, c.edge_at.ensures) (filled_more (edge_in c.args.s.now) l.i (omega (arith, h.sizes.few_edges)))

pub returns : goal.returns
unfolding table_of edges_in
returns c =
    let s = c.args.s.now in
    let l = c.loop-i in
    let e : l.i ≡ c.half-count.result = omega arith in
    rw (l.invariant, e, c.half.ensures.0, edges_count s, c.half-count.ensures.0)
