-- A board read as the program goes: the queries in turn, their path reductions put into one joint table. Nothing to believe: `scan_judges` (proofs/Joint) says
-- that its number is `board_code`, and `scan_holds` that the table then holds the joint path reductions.
use Rattle.std.specs.Prelude.{ℕ, zero, suc, ◌+◌, cond, List, [], ◌∷◌, ltb, eqb, length, get_or, take, drop}
use Rattle.packed_path.specs.declared.PackedPath.{PackedPath}
use Rattle.progress.specs.Progress.{Scan}
use Rattle.progress.specs.Progress.{blank, started}
use Rattle.query.specs.Query.{query_scan}
use Rattle.terms.specs.Terms.{kept_path}
use Rattle.wire.specs.Wire.{at16}
use Rattle.board_text.specs.Board.{after_query, count_code, first_query}

-- the reading of the query at the front
unfoldable pub first_scan : List ℕ → Scan
first_scan s = cond (ltb (length s) 2) (blank 1) (cond (ltb (length s) (2 + at16 s 0)) (blank 1) (query_scan (first_query s)))

-- path reductions put into a table one after another; a refusal is handed on
unfoldable pub joined : Scan → List PackedPath → Scan
joined w [] = w
joined w (p ∷ ps) = cond (eqb w.code 0) (joined (kept_path w p) ps) w

-- the queries in turn, and what is left over
unfoldable pub joint_scan : ℕ → List ℕ → Scan → Scan
joint_scan zero s w = cond (eqb (length s) 0) w (blank 6)
joint_scan (suc k) s w =
    let o = first_scan s in
    cond (eqb o.code 0) (joint_scan k (after_query s) (joined w (take o.paths o.table))) (blank o.code)

-- a whole board
unfoldable pub board_scan : List ℕ → Scan
board_scan b = cond (eqb (count_code b) 0) (joint_scan (get_or b 0 0) (drop 1 b) (started 0)) (blank (count_code b))
