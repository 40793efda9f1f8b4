use Rattle.incoming.proofs.Threads.{leads_inside}
use Rattle.rounds.proofs.run_in.Goals as goal

pub invariant_of-indexed-clause-leads_inside : goal.invariant_of-indexed-clause-leads_inside
invariant_of-indexed-clause-leads_inside g c =
    let x = c.args.graph in
    leads_inside x.bytes.now x.bytes_fit x.accepted _ c.index.ensures.1

pub read_values-requires : goal.read_values-requires
read_values-requires g c =
    let ran = c.rounds-done in
    λ j h. (ran.result, ran.ensures.0.sound j h)
