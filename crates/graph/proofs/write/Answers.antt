use mathlib.Core.Path.{refl, ◌∙◌}
use native.Mathlib.Omega.{arith}
use lib.ListN.{length}
use Rattle.std.proofs.Common.{rules}
use Rattle.graph.proofs.Judged.{table_laid, write_done, write_refused, write_short}
use Rattle.wire.proofs.Codes.{number_some}
use Rattle.graph.proofs.write.Goals as goal

pub returns-in_err-size : goal.returns-in_err-size
returns-in_err-size c =
    rw (write_refused c.args.graph.now (length c.args.out.now) _ c.in_err-size.ensures.code (number_some _)) (search rules)

pub returns-then-out-size : goal.returns-then-out-size
returns-then-out-size c =
    let s = c.in_ok-size.ensures in
    rw (write_short c.args.graph.now s.code _ s.ok.1 (length c.args.out.now) c.if-out-size.true) (refl, refl)

pub returns : goal.returns
returns c =
    let t = c.args.graph.now in
    let s = c.in_ok-size.ensures in
    rw (write_done t s.code _ s.ok.1 (length c.args.out.now) c.if-out-size.false) (
      s.ok.1,
      c.put_rows.ensures ∙ rw (c.put_head.ensures, c.edges.ensures.rows) (table_laid t s.code _ s.ok.1 c.args.out.now (omega arith)),
    )
