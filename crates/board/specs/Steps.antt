-- A board answered as the program goes: each query's plan by the figures of the joint table, one answer after another. Nothing to believe: the contracts of
-- boards are equations with `board_reply`, and the laws of proofs/Meant lead there.
use Rattle.std.specs.Prelude.{ℕ, zero, suc, ◌+◌, ◌-◌, min, List, [], ◌++◌, get_or, replicate}
use Rattle.answer.specs.Answer.{answer_bytes, answer_reply, answer_size}
use Rattle.board_text.specs.Board.{after_query, first_query}
use Rattle.eval.specs.Steps.{body_found}
use Rattle.fusion.specs.Steps.{index_of}
use Rattle.meaning.specs.Plan.{fuse}
use Rattle.meaning.specs.Run.{tabulate}
use Rattle.packed_path.specs.declared.PackedPath.{PackedPath}
use Rattle.packed_path.specs.Packed.{no_path}
use Rattle.plan.specs.Plan.{plan_scan}
use Rattle.plan.specs.Text.{encode}
use Rattle.query.specs.Tree.{query_of}
use Rattle.rows.specs.Steps.{many, rows_at}
use Rattle.value.specs.declared.Value.{Value}
use Rattle.value.specs.Value.{values}
use Rattle.wire.specs.Wire.{Reply}

-- where the first path reductions of a plan's table stand in the joint table, in an array of eight
unfoldable pub slots_in : List PackedPath → ℕ → List PackedPath → List ℕ
slots_in own paths joint = tabulate paths zero (λ j. index_of (get_or own j no_path) joint) ++ replicate (8 - paths) 0

-- the values of a plan's rows
unfoldable pub plan_values : List ℕ → List PackedPath → List ℕ → ℕ → List Value
plan_values s joint figures n =
    let w = plan_scan s in
    let k = min w.paths 8 in
    values (many (body_found s (rows_at figures (slots_in w.table k joint) k) (min n 256)))

-- the writer's reply, and its bytes
unfoldable pub plan_reply : List ℕ → List PackedPath → List ℕ → ℕ → ℕ → ℕ → Reply
plan_reply s joint figures n rounds room = answer_reply n rounds (get_or s 5 0) (plan_values s joint figures n) room

unfoldable pub plan_answer : List PackedPath → List ℕ → ℕ → ℕ → List ℕ → List ℕ
plan_answer joint figures n rounds s = answer_bytes n rounds (get_or s 5 0) (plan_values s joint figures n)

-- the answers of so many queries, one after another
unfoldable pub answers_left : List PackedPath → List ℕ → ℕ → ℕ → ℕ → List ℕ → List ℕ
answers_left joint figures n rounds zero s = []
answers_left joint figures n rounds (suc k) s =
    plan_answer joint figures n rounds (encode (fuse (query_of (first_query s)))) ++ answers_left joint figures n rounds k (after_query s)

-- how many bytes they have
unfoldable pub sizes_left : ℕ → ℕ → List ℕ → ℕ
sizes_left n zero s = zero
sizes_left n (suc k) s = answer_size n (get_or (first_query s) 5 0) + sizes_left n k (after_query s)
