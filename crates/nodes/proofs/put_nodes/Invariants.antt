use mathlib.Core.Path.{◌≡◌}
use lib.ListN.{take}
use Rattle.draft.specs.Steps.{draft, put_list}
use Rattle.nodes.specs.Text.{nodes_text}
use Rattle.nodes.proofs.put_nodes.Given as goal

abbrev pub invariant-loop-term : goal.invariant-loop-term
invariant-loop-term l = draft l.d l.next ≡ put_list (draft l.initial.d l.at) (nodes_text (take l.term-index l.term-items))
