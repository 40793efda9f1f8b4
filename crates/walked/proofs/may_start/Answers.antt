use Prim.Native.Nat.{ℕ}
use mathlib.Core.Path.{sym, ap, ◌∙◌}
use lib.ListN.{take}
use Rattle.walked.specs.Walked.{may_start}
use Rattle.walked.proofs.Laws.{may_start_among}
use Rattle.walked.proofs.may_start.Goals as goal

pub returns-else-is_empty : goal.returns-else-is_empty
returns-else-is_empty c =
    let a = c.args in
    c.contains.ensures.value
    ∙ may_start_among (take c.min.result a.path.sources) a.w (sym c.is_empty.ensures ∙ c.if-is_empty.false)
    ∙ ap (λ (n : ℕ). may_start (take n a.path.sources) a.w) c.min.ensures
