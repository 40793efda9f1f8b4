-- THE ROWS OF AN ANSWER, by the bytes of a legal plan and a table that holds the values of its path reductions, are the rows of the plan's body: `answer_rows`.
-- Assumes nothing.
use Prim.Native.Nat.{ℕ, zero, ◌-◌, ◌≤◌, ◌<◌, min}
use mathlib.Core.Path.{◌≡◌, refl, ap, ◌∙◌}
use mathlib.Core.List.{List}
use native.Mathlib.Omega.{arith}
use lib.ListN.{length, get_or, replicate, take}
use lib.Seq.{take_at}
use Rattle.meaning.specs.Limits.{PlanLegal}
use Rattle.meaning.specs.Plan.{Body, Plan, each_vertex, one_result}
use Rattle.meaning.specs.Run.{body_rows, evaluate, tabulate}
use Rattle.meaning.proofs.Lists.{map_append, tabulate_at, tabulate_length}
use Rattle.plan.specs.Text.{encode}
use Rattle.value.specs.declared.Row.{Row}
use Rattle.value.specs.declared.Value.{Value}
use Rattle.value.specs.declared.Value.TheVariants.{Absent}
use Rattle.value.specs.Value.{values}
use Rattle.eval.specs.Steps.{body_found, row}
use Rattle.eval.proofs.Body.{Agrees, body_value, eight_holds}
use Rattle.table.specs.Table.{value_in}
use Rattle.rows.specs.Steps.{body_count, many, rows_at}

-- ---- the values

-- the table l holds at the n vertices the values that G gives for the first `count` path reductions, each in its slot
abbrev pub Holds : ℕ → ℕ → List ℕ → List ℕ → (ℕ → List Value) → Type 0
Holds n count l slots G = (v : ℕ) → v < n → (j : ℕ) → j < count → value_in l (get_or slots j 0) v ≡ get_or (G v) j Absent

rows_agree : (n count : ℕ) (l slots : List ℕ) (G : ℕ → List Value) → count ≤ 8 → Holds n count l slots G
    → Agrees n count (rows_at l slots count) G
unfolding rows_at
rows_agree n count l slots G few holds v h i k =
    let f : ℕ → Value = λ j. value_in l (get_or slots j 0) v in
    let b : i < min count 8 = omega arith in
    eight_holds (tabulate (min count 8) zero f) i (omega (arith, tabulate_length (min count 8) zero f)) ∙ tabulate_at (min count 8) i f Absent b
    ∙ holds v h i k

-- their values are those of the plan's tree
answer_values : (p : Plan) → PlanLegal 256 p → (l slots : List ℕ) (n : ℕ) (G : ℕ → List Value) → Holds n (length p.paths) l slots G
    → values (body_found (encode p) (rows_at l slots (length p.paths)) n) ≡ body_rows p.body G n
answer_values p legal l slots n G holds =
    let F : ℕ → List Row = rows_at l slots (length p.paths) in
    body_value p legal n F G (rows_agree n (length p.paths) l slots G legal.few_paths holds)

-- ---- how many rows

-- as many as `body_count` says
pub rows_length : (p : Plan) (G : ℕ → List Value) (n : ℕ) → length (body_rows p.body G n) ≡ body_count (encode p) n
unfolding body_count
rows_length p G n = go p.body
  where
    go : (b : Body) → length (body_rows b G n) ≡ body_count (encode (record { version = p.version; paths = p.paths; body = b })) n
    go (each_vertex t) = tabulate_length n zero (λ v. evaluate (G v) t)
    go (one_result es t) = refl

-- the first so many values of the array are those of its rows
front : (l : List Row) (k : ℕ) → length (values l) ≡ k → take k (values (many l)) ≡ values l
front l k h =
    ap (take k) (map_append (λ (r : Row). r.value) l (replicate (256 - length l) (row Absent)))
    ∙ take_at (values l) (values (replicate (256 - length l) (row Absent))) k h

-- THE ROWS OF THE ANSWER: what `write` writes, on a graph of n vertices
pub answer_rows : (p : Plan) → PlanLegal 256 p → (l slots : List ℕ) (n : ℕ) → n ≤ 256 → (G : ℕ → List Value)
    → Holds n (length p.paths) l slots G
    → take (body_count (encode p) n) (values (many (body_found (encode p) (rows_at l slots (length p.paths)) (min n 256)))) ≡ body_rows p.body G n
answer_rows p legal l slots n few G holds =
    let F : ℕ → List Row = rows_at l slots (length p.paths) in
    let e : min n 256 ≡ n = omega arith in
    let same = answer_values p legal l slots n G holds in
    ap (λ (k : ℕ). take (body_count (encode p) n) (values (many (body_found (encode p) F k)))) e
    ∙ front (body_found (encode p) F n) (body_count (encode p) n) (ap length same ∙ rows_length p G n)
    ∙ same
