use mathlib.Core.Path.{◌∙◌}
use native.Mathlib.Omega.{arith}
use lib.ListN.{length-set}
use Rattle.incoming.proofs.Threads.{blank_head, blank_set}
use Rattle.incoming.proofs.blank.Goals as goal

pub loop-v-preserved : goal.loop-v-preserved
loop-v-preserved c =
    let l = c.loop-v in
    let e = c.clear.ensures in
    let m = c.args.m in (
      length-set l.heads l.v m ∙ l.invariant.0,
      c.clear.auto.words ∙ l.invariant.1,
      blank_head l.heads l.v m (omega arith) l.invariant.2,
      rw e (blank_set l.successors l.v (omega arith) l.invariant.3),
    )
