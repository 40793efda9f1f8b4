-- "EVERY QUESTION ANSWERS ALIKE ON BOTH" (document 02, f), a map s and what the sorted writer left of it, w: every worksheet and every board has the same
-- reply, so number, bytes and rounds, by pull and by push, to quiet and stopped, whatever room is lent; and what a query means is the same. Assumes nothing.
use Prim.Native.Nat.{ℕ}
use mathlib.Core.Path.{◌≡◌}
use mathlib.Core.List.{List}
use Rattle.board.specs.Reply.{board_reply}
use Rattle.board.proofs.SameMap.{board_same}
use Rattle.engine.specs.declared.Limit.{Limit}
use Rattle.engine.specs.Run.{run_reply}
use Rattle.engine.proofs.SameMap.{run_same}
use Rattle.graph.specs.Graph.{graph_code, graph_of}
use Rattle.meaning.specs.Meaning.{Correct, Outcome, UnfusedWithin}
use Rattle.meaning.specs.Query.{Query}
use Rattle.meaning.proofs.SameGraph.{correct_same, within_same}
use Rattle.sorted_graph.specs.Sorted.{sort_reply}
use Rattle.sorted_graph.proofs.Written.{sort_accepts, sorted_accepted}
use Rattle.value.specs.declared.Value.{Value}
use Rattle.walks.specs.Often.{SameGraph}
use Rattle.wire.specs.Wire.{Bytes, done}

module _ (s w : List ℕ) (bytes : Bytes s) (lent : ℕ) (left : sort_reply s lent ≡ done w) where
  ok : graph_code s ≡ 0
  ok = sort_accepts s w bytes lent left

  fine : graph_code w ≡ 0
  fine = (sorted_accepted s w bytes lent left).0

  same : SameGraph (graph_of s) (graph_of w)
  same = (sorted_accepted s w bytes lent left).1

  -- WORKSHEETS
  pub sorted_answers : (limit : Limit) (plan : List ℕ) → Bytes plan → (room : ℕ) → run_reply limit plan s room ≡ run_reply limit plan w room
  sorted_answers = run_same s w ok fine same bytes

  -- BOARDS
  pub sorted_boards : (limit : Limit) (board : List ℕ) → Bytes board → (room : ℕ) → board_reply limit board s room ≡ board_reply limit board w room
  sorted_boards = board_same s w ok fine same bytes

  -- WHAT A QUERY MEANS, over all walks and over walks of at most r edges
  pub sorted_means : (q : Query) (o : Outcome) → Correct (graph_of s) q o → Correct (graph_of w) q o
  sorted_means = correct_same same

  pub sorted_within : (r : ℕ) (q : Query) (rows : List Value) → UnfusedWithin (graph_of s) r q rows → UnfusedWithin (graph_of w) r q rows
  sorted_within = within_same same
