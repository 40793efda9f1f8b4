-- What a counted run leaves (document 01), by its reply; of a plan, or of a board (document 02, d).
use Rattle.std.specs.Prelude.{ℕ, ◌≡◌, Bool, true, false, List}
use Rattle.board.specs.Reply.{board_reply}
use Rattle.counters.specs.Counted.{counted_by}
use Rattle.counters.specs.declared.Counters.{Counters}
use Rattle.engine.specs.declared.Limit.{Limit}
use Rattle.engine.specs.Run.{run_reply}
use Rattle.wire.specs.Wire.{Reply, Returned, done, refused}
use Rattle.counted.specs.declared.Way.{Way}
use Rattle.counted.specs.declared.Way.TheVariants.{Pull, Push, BoardPull, BoardPush}

-- "answered (number 0) or refused"
abbrev pub is_done : Reply → Bool
is_done (done bs) = true
is_done (refused k) = false

-- "A counted run adds one to asked and one to answered (number 0) or refused"
abbrev pub counters_after : Reply → Counters → Counters
counters_after r c = counted_by c (is_done r)

-- what is asked for: a plan is run, or a board (document 02, d: "A board is one counted run"); by pull and by push the reply is the same
abbrev pub asked_reply : Way → Limit → List ℕ → List ℕ → ℕ → Reply
asked_reply Pull = run_reply
asked_reply Push = run_reply
asked_reply BoardPull = board_reply
asked_reply BoardPush = board_reply

-- "The tally is one record, lent to each counted run and changed in place": the run's own number and buffer, and the tally from c to d
abbrev pub Counted : Reply → ℕ → List ℕ → List ℕ → Counters → Counters → Type 0
Counted reply number before after c d = Returned reply number before after × (d ≡ counters_after reply c)
