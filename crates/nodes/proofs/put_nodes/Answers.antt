use mathlib.Core.Path.{ap, ◌∙◌}
use mathlib.Core.List.{List}
use native.Mathlib.Omega.{arith}
use lib.Seq.{take_all}
use Rattle.draft.specs.Steps.{draft, put_list}
use Rattle.draft.proofs.Texts.{put_next, take_least}
use Rattle.nodes.specs.declared.Term.{Term}
use Rattle.nodes.specs.declared.Term.TheVariants.{Empty}
use Rattle.nodes.specs.Text.{nodes_text, term_text}
use Rattle.nodes.proofs.Text.{nodes_short}
use Rattle.nodes.proofs.put_nodes.Goals as goal

pub loop-term-preserved : goal.loop-term-preserved
loop-term-preserved c =
    let l = c.loop-term in
    let a = c.args in
    rw (c.put_term-next.ensures, l.invariant) (put_next term_text (draft a.d.now a.at) _ l.term-index Empty c.loop-term-test.true)

pub returns : goal.returns
returns c =
    let l = c.loop-term in
    let a = c.args in
    let all = take_all l.term-index _ c.loop-term-test.false ∙ take_least a.count c.min.result a.nodes (omega arith) in (
      l.invariant ∙ ap (λ (t : List Term). put_list (draft a.d.now a.at) (nodes_text t)) all,
      nodes_short a.count a.nodes (omega arith),
    )
