use Prim.Native.Nat.{◌-◌}
use mathlib.Core.Path.{◌≡◌}
use Rattle.board_text.specs.Board.{queries_code}
use Rattle.board.specs.Steps.{answers_left}
use Rattle.board.proofs.Loops.{Written}
use Rattle.board.proofs.answer_all.Given as goal

abbrev pub invariant-loop : goal.invariant-loop
invariant-loop l = (queries_code (l.count - l.counter) l.left ≡ 0)
    × Written (answers_left l.joint l.figures l.n l.rounds (l.count - l.counter) l.left) (answers_left l.joint l.figures l.n l.rounds l.count l.queries) l.out
    l.initial.out l.written
