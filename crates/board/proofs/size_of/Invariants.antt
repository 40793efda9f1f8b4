use Prim.Native.Nat.{◌+◌, ◌-◌, ◌*◌, ◌≤◌}
use mathlib.Core.Path.{◌≡◌}
use Rattle.board_text.specs.Board.{queries_code}
use Rattle.board.specs.Steps.{sizes_left}
use Rattle.board.proofs.size_of.Given as goal

abbrev pub invariant-loop : goal.invariant-loop
invariant-loop l = (queries_code (l.count - l.counter) l.left ≡ 0) × (l.total ≤ 589825 * l.counter)
    × (l.total + sizes_left l.n (l.count - l.counter) l.left ≡ sizes_left l.n l.count l.queries)
