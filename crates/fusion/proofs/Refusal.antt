-- The reply of the steps to a query that is not refused: the writer's reply to the fused form. Assumes nothing.
use Prim.Native.Nat.{ℕ}
use mathlib.Core.Path.{◌≡◌, refl}
use mathlib.Core.List.{List}
use borrow.Author.Tests.{eq-eqb}
use Rattle.plan_form.specs.Form.{write_reply}
use Rattle.query.specs.Query.{query_code}
use Rattle.query_form.specs.Form.{query_reading}
use Rattle.fusion.specs.Steps.{fused_form, steps_reply}

pub reply_written : (s : List ℕ) (room : ℕ) → query_code s ≡ 0 → steps_reply s room ≡ write_reply (fused_form (query_reading s)) room
unfolding steps_reply
reply_written s room z = rw (eq-eqb (query_code s) 0 z) refl
