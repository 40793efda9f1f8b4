use Rattle.std.proofs.Common.{◌≡◌, drop}
use Rattle.progress.specs.Progress.{going}
use Rattle.board_text.specs.Steps.{joined}
use Rattle.board_text.proofs.join.Given as goal

abbrev pub invariant-loop-path : goal.invariant-loop-path
invariant-loop-path l = joined (going l.initial.w) l.path-items ≡ joined (going l.w) (drop l.path-index l.path-items)
