-- The value of a plan's expression and the rows of its body by its bytes, as the program goes: entries at each vertex, their reductions, the final expression.
-- Nothing to believe: `expression_value` (proofs/Tree) says that a value is that of the expression's tree, `body_value` (proofs/Body) that the rows are those
-- of the plan's tree. F gives the values of the path reductions at a vertex, as eight rows.
use Rattle.std.specs.Prelude.{ℕ, zero, suc, ◌+◌, ◌-◌, ◌%◌, min, Bool, false, cond, ◌||◌, List, [], ◌∷◌, ◌++◌, map, leb, ltb, eqb}
use Rattle.std.specs.Prelude.{length, get_or, replicate, Option, None, Some}
use Rattle.meaning.specs.Run.{tabulate}
use Rattle.value.specs.declared.Value.{Value}
use Rattle.value.specs.declared.Value.TheVariants.{Absent, Number}
use Rattle.value.specs.declared.Row.{Row}
use Rattle.value.specs.Steps.{where_counts}
use Rattle.value.specs.Value.{operate, reduce, values}
use Rattle.plan.specs.Plan.{count_at}
use Rattle.wire.specs.Wire.{at32}
use Rattle.eval.specs.declared.Expressions.{Expressions}
use Rattle.eval.specs.declared.Found.{Found}
use Rattle.eval.specs.declared.Head.{Head}
use Rattle.eval.specs.declared.Head.TheVariants.{Leaf, Apply}

-- either of two tags
abbrev pub one_of : ℕ → ℕ → ℕ → Bool
one_of tag a b = eqb tag a || eqb tag b

-- a value, and where the next term starts
abbrev pub found : Value → ℕ → Found
found v next = record { value = v; next = next }

-- "0x30 and a chain's index for a chain, 0x31 and an entry's index for a reduction; operators and literals keep their bytes": 0x11 or 0x21 and 32 bits, 0x12 or
-- 0x22 and an operator; any other byte is absent
unfoldable pub head : List ℕ → List Row → ℕ → Head
head s rows at =
    let tag = get_or s at 0 in
    cond (leb (length s) at) (Leaf (found Absent at))
    (cond (one_of tag 0x30 0x31) (Leaf (found (get_or (values rows) (get_or s (at + 1) 0) Absent) (at + 2)))
    (cond (one_of tag 0x11 0x21) (Leaf (found (Number (at32 s (at + 1))) (at + 5)))
    (cond (one_of tag 0x12 0x22) (Apply (get_or s (at + 1) 0) (at + 2)) (Leaf (found Absent at)))))

-- a leaf that names its word
abbrev pub leaf_found : List ℕ → List Row → ℕ → Found
leaf_found s rows at = found (get_or (values rows) (get_or s (at + 1) 0) Absent) (at + 2)

-- whether one stands at a position
abbrev pub named : List ℕ → ℕ → Bool
named s at = cond (leb (length s) at) false (one_of (get_or s at 0) 0x30 0x31)

-- "an operator joins the values of its two terms": `go` is the value of the term at a position
unfoldable pub joined : (ℕ → Found) → Head → Found
joined go (Leaf f) = f
joined go (Apply o next) =
    let a = go next in
    let b = go a.next in
    found (operate o a.value b.value) b.next

-- the term at `at`, with so many levels of depth left
unfoldable pub evaluated : ℕ → List ℕ → List Row → ℕ → Found
evaluated zero s rows at = found Absent at
evaluated (suc left) s rows at = joined (evaluated left s rows) (head s rows at)

-- "an answer row holds one"
abbrev pub row : Value → Row
row v = record { value = v }

-- leaf k, of those that stand as words: `least` stands for the number 0; a lesser word is absent, and so is a leaf for which `slots` names no word
unfoldable pub leaf_in : List ℕ → List ℕ → ℕ → ℕ → Value
leaf_in leaves slots least k =
    let word = get_or leaves (get_or slots k 0) 0 in
    cond (leb 8 k) Absent (cond (leb (length leaves) (get_or slots k 0)) Absent (cond (ltb word least) Absent (Number (word - least))))

-- all of them, as eight rows
unfoldable pub rows_in : List ℕ → List ℕ → ℕ → List Row
rows_in leaves slots least = tabulate 8 zero (λ k. row (leaf_in leaves slots least k))

-- those of a plan's expressions
abbrev pub rows_of : Expressions → List Row
rows_of e = rows_in e.leaves.now e.slots.now e.least

-- values as eight rows, absent ones behind them
abbrev pub eight : List Value → List Row
eight vs = map row vs ++ replicate (8 - length vs) (row Absent)

-- a condition at `at` and the value behind it: absent where the condition leaves the vertex out
abbrev pub condition_found : List ℕ → List Row → ℕ → Value
condition_found s rows at = let c = evaluated 16 s rows at in where_counts c.value (evaluated 16 s rows c.next).value

-- the value of the entry whose reduction byte stands at `at`, at one vertex
unfoldable pub entry_found : List ℕ → List Row → ℕ → Value
entry_found s rows at =
    cond (leb (length s) at) Absent (cond (leb 128 (get_or s at 0)) (condition_found s rows (at + 1)) (evaluated 16 s rows (at + 1)).value)

-- the slot of the entry at `at` where it is one such leaf with no condition; 8, which is no slot, where it is more
unfoldable pub lone_in : List ℕ → List ℕ → ℕ → ℕ
lone_in s slots at =
    let k = get_or s (at + 2) 0 in
    cond (leb (length s) at) 8 (cond (leb 128 (get_or s at 0)) 8 (cond (named s (at + 1)) (cond (ltb k 8) (get_or slots k 0) 8) 8))

-- such a slot as a number
abbrev pub slot_number : Option ℕ → ℕ
slot_number None = 8
slot_number (Some slot) = slot

-- where an expression ends, and an entry
unfoldable pub expression_end : List ℕ → ℕ → ℕ
expression_end s at = (evaluated 16 s (eight []) at).next

unfoldable pub entry_end : List ℕ → ℕ → ℕ
entry_end s at =
    let end = expression_end s (at + 1) in
    cond (leb (length s) at) at (cond (leb 128 (get_or s at 0)) (expression_end s end) end)

-- the entry at `at`, at each of the n vertices
unfoldable pub entry_rows : List ℕ → ℕ → (ℕ → List Row) → ℕ → List Row
entry_rows s at F n = tabulate n zero (λ v. row (entry_found s (F v) at))

-- "e entries, each a reduction byte and an expression": their results, "over all n places", the first entry at `at`
unfoldable pub results : ℕ → List ℕ → ℕ → (ℕ → List Row) → ℕ → List Value
results zero s at F n = []
results (suc k) s at F n = reduce (get_or s at 0 % 128) (values (entry_rows s at F n)) ∷ results k s (entry_end s at) F n

-- where k entries end, the first at `at`
unfoldable pub entries_end : ℕ → List ℕ → ℕ → ℕ
entries_end zero s at = at
entries_end (suc k) s at = entries_end k s (entry_end s at)

-- the value of the final expression, over the results of k entries that start at `at`
unfoldable pub final_found : ℕ → List ℕ → ℕ → (ℕ → List Row) → ℕ → Value
final_found k s at F n = (evaluated 16 s (eight (results k s at F n)) (entries_end k s at)).value

-- kind 0: the rows of the one entry; kind 1: "one row", the final expression over the results of the entries, "e from 0 to 8": a larger count is cut
unfoldable pub body_found : List ℕ → (ℕ → List Row) → ℕ → List Row
body_found s F n =
    let at = count_at s in
    cond (eqb (get_or s 5 0) 0) (entry_rows s (at + 1) F n) (row (final_found (min (get_or s at 0) 8) s (at + 1) F n) ∷ [])
