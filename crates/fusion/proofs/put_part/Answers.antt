use mathlib.Core.Path.{sym, ap, ◌∙◌}
use native.Mathlib.Omega.{arith}
use Rattle.draft.proofs.Texts.{take_least}
use Rattle.nodes.specs.declared.Term.TheVariants.{Empty}
use Rattle.fusion.specs.Steps.{put_part}
use Rattle.fusion.proofs.Parts.{part_done, part_full, part_more, written}
use Rattle.fusion.proofs.put_part.Goals as goal

pub returns-then-len-ge72 : goal.returns-then-len-ge72
returns-then-len-ge72 g c = λ part answers.
    let l = c.loop-node in
    let a = c.args in
    sym (part_full part l.k (written l.list l.len) _ c.if-len-ge72.true)
    ∙ l.invariant.1 part answers
    ∙ ap (put_part part 0 a.start) (take_least a.count c.min.result a.nodes (omega arith))

pub loop-node-preserved : goal.loop-node-preserved
loop-node-preserved g c =
    let l = c.loop-node in (
      omega (arith, c.reduces_of-k.ensures.1),
      λ part answers.
          rw (c.reduces_of-k.ensures.0, c.size_of-len.ensures.0, answers _ _ _ c.part-t.ensures)
          (sym (part_more part l.k l.list l.len _ _ l.node-index Empty (omega arith) c.loop-node-test.true (omega arith))
          ∙ l.invariant.1 part answers),
    )

pub returns : goal.returns
returns g c = λ part answers.
    let l = c.loop-node in
    let a = c.args in
    sym (part_done part l.k (written l.list l.len) _ _ l.node-index c.loop-node-test.false)
    ∙ l.invariant.1 part answers
    ∙ ap (put_part part 0 a.start) (take_least a.count c.min.result a.nodes (omega arith))
