-- What the code's proofs cite: arrays that a loop fills from the front, leaves as words, reductions step by step. Assumes nothing.
use Prim.Native.Nat.{ℕ, zero, suc, ◌+◌, ◌-◌, ◌*◌, ◌%◌, ◌≤◌, ◌<◌, min}
use mathlib.Core.Path.{◌≡◌, refl, sym, ap, ap₂, fun_ext, ◌∙◌}
use mathlib.Core.Bool.{Bool, true, false, cond}
use mathlib.Core.List.{List, [], ◌∷◌, ◌++◌, foldl, map, map-append}
use native.Mathlib.Numerals.{add-one}
use native.Mathlib.Omega.{arith}
use borrow.Author.Tests.{eq-eqb, eqb-false, eqb-true, leb-false, leb-true, le-leb, le-ltb, lt-leb, lt-ltb, ne_eqb}
use lib.Dec.{eqb, leb, ltb}
use lib.ListN.{drop, get_or, length, replicate, set, take, length-append, length-drop, length-map, length-replicate, length-take}
use lib.Seq.{ext_get_or, get_or-drop, get_or-take}
use Rattle.std.proofs.lemmas.List.{drop-replicate}
use Rattle.meaning.specs.Run.{tabulate}
use Rattle.meaning.proofs.Lists.{tabulate_at, tabulate_length}
use Rattle.std.specs.Prelude.{Option, None}
use Rattle.value.specs.declared.Row.{Row}
use Rattle.value.specs.declared.Value.{Value}
use Rattle.value.specs.declared.Value.TheVariants.{Absent, Number}
use Rattle.value.specs.Steps.{finish, step}
use Rattle.value.specs.Value.{reduce, values}
use Rattle.value.proofs.Reduced.{reduced, snoc}
use Rattle.wire.specs.declared.Refusal.{Refusal}
use Rattle.wire.specs.declared.Refusal.TheVariants.{Short, Mark, Version, Vertices, Edges, Length, NoVertex, Capacity, Code}
use Rattle.wire.specs.declared.Refusal.TheVariants.{KeyOrder, Deep, Terms, Source, Full, Room, NoRow, SourceOrder}
use Rattle.wire.specs.Refusal.{number}
use Rattle.plan.specs.Plan.{count_at}
use Rattle.answer.specs.Answer.{answer_code, answer_reply}
use Rattle.answer.proofs.Reply.{Fields, judged_right, reply_first}
use Rattle.eval.specs.Steps.{body_found, eight, entries_end, entry_end, entry_found, entry_rows, final_found, leaf_in, lone_in}
use Rattle.eval.specs.Steps.{results, row, rows_in}
use Rattle.eval.proofs.Laws.{Lone, row_value}
use Rattle.eval.proofs.Fill.{fill_at, fill_blank, fill_length, fill_next, fill_past, fill_whole, filled, tabulate_more}
use Rattle.table.specs.Table.{value_in}
use Rattle.rows.specs.Steps.{many, padded, rows_at, slot_of, used_slots, word_of}

rows_of : (g : ℕ → Value) (k i : ℕ) → map row (tabulate k i g) ≡ tabulate k i (λ j. row (g j))
rows_of g zero i = refl
rows_of g (suc k) i = ap (λ (l : List Row). row (g i) ∷ l) (rows_of g k (suc i))

-- arrays of eight values, and of any size
eight_filled : (g : ℕ → Value) (k : ℕ) → eight (tabulate k zero g) ≡ filled 8 (λ j. row (g j)) (row Absent) k
eight_filled g k = ap₂ (λ (l : List Row) (c : ℕ). l ++ replicate (8 - c) (row Absent)) (rows_of g k zero) (tabulate_length k zero g)

array_filled : (size : ℕ) (f : ℕ → Row) (n : ℕ)
    → tabulate n zero f ++ replicate (size - length (tabulate n zero f)) (row Absent) ≡ filled size f (row Absent) n
array_filled size f n = ap (λ (c : ℕ). tabulate n zero f ++ replicate (size - c) (row Absent)) (tabulate_length n zero f)

-- ---- the leaves of an entry

-- the row of path reduction j at a vertex, from its slot; all of them
abbrev value_row : List ℕ → List ℕ → ℕ → ℕ → Row
value_row figures slots v j = row (value_in figures (get_or slots j 0) v)

rows_at_filled : (figures slots : List ℕ) (paths v : ℕ)
    → rows_at figures slots paths v ≡ filled 8 (value_row figures slots v) (row Absent) (min paths 8)
unfolding rows_at
rows_at_filled figures slots paths v = eight_filled (λ j. value_in figures (get_or slots j 0) v) (min paths 8)

-- the value of path reduction j there
pub rows_at_value : (figures slots : List ℕ) (v j : ℕ) → j < 8
    → get_or (values (rows_at figures slots 8 v)) j Absent ≡ value_in figures (get_or slots j 0) v
rows_at_value figures slots v j h =
    row_value (rows_at figures slots 8 v) j
    ∙ ap (λ (r : Row). r.value)
    (ap (λ (l : List Row). get_or l j (row Absent)) (rows_at_filled figures slots 8 v)
    ∙ fill_at 8 (value_row figures slots v) (row Absent) 8 j (row Absent) h)

-- AN ENTRY THAT IS ONE LEAF is worth what is in its slot
pub lone_value : (plan figures slots : List ℕ) (at v : ℕ) → Lone plan slots at
    → value_in figures (lone_in plan slots at) v ≡ entry_found plan (rows_at figures slots 8 v) at
lone_value plan figures slots at v l =
    ap (λ (j : ℕ). value_in figures j v) l.slot
    ∙ sym (l.worth (rows_at figures slots 8 v) ∙ rows_at_value figures slots v l.index l.small)

-- slot 8 is none
no_slot : (figures : List ℕ) (v : ℕ) → value_in figures 8 v ≡ Absent
unfolding value_in
no_slot figures v = refl

-- the slots in use, as the loop fills them
abbrev pub slot_at : List ℕ → ℕ → ℕ
slot_at slots j = get_or slots j 0

pub used_filled : (slots : List ℕ) (paths : ℕ) → used_slots slots paths ≡ filled 8 (slot_at slots) 8 (min paths 8)
unfolding used_slots
used_filled slots paths = refl

-- laid over eight times 8
slots_front : (slots : List ℕ) (count : ℕ) → count ≤ length slots → take count slots ≡ tabulate count zero (slot_at slots)
slots_front slots count few =
    ext_get_or 0 (take count slots) (tabulate count zero (slot_at slots))
    (omega (arith, length-take count slots, tabulate_length count zero (slot_at slots)))
    (λ i h. let b : i < count = omega (arith, length-take count slots) in
    get_or-take count slots i 0 b ∙ sym (tabulate_at count i (slot_at slots) 0 b))

pub used_laid : (slots : List ℕ) (paths count : ℕ) → length slots ≡ 8 → count ≡ min paths 8
    → take count slots ++ drop count (replicate 8 8) ≡ used_slots slots paths
used_laid slots paths count long e =
    ap₂ (λ (l r : List ℕ). l ++ r) (slots_front slots count (omega arith)) (drop-replicate count 8 8)
    ∙ ap (filled 8 (slot_at slots) 8) e ∙ sym (used_filled slots paths)

-- THE SLOTS IN USE ARE ENOUGH: with them there need be no count of path reductions
pub used_rows : (figures slots : List ℕ) (paths : ℕ) → rows_at figures slots paths ≡ rows_at figures (used_slots slots paths) 8
used_rows figures slots paths = fun_ext (λ v. whole v ∙ sym (all v))
  where
    m : ℕ
    m = min paths 8

    used : List ℕ
    used = used_slots slots paths

    there : (v i : ℕ) → i < m → value_row figures slots v i ≡ value_row figures used v i
    there v i h =
        ap (λ (j : ℕ). row (value_in figures j v))
        (sym (ap (λ (l : List ℕ). get_or l i 0) (used_filled slots paths) ∙ fill_at 8 (slot_at slots) 8 m i 0 h))

    past : (v i : ℕ) → m ≤ i → i < 8 → row Absent ≡ value_row figures used v i
    past v i h b =
        ap row (sym (no_slot figures v))
        ∙ ap (λ (j : ℕ). row (value_in figures j v))
        (sym (ap (λ (l : List ℕ). get_or l i 0) (used_filled slots paths) ∙ fill_past 8 (slot_at slots) 8 m i 0 h b))

    whole : (v : ℕ) → rows_at figures slots paths v ≡ tabulate 8 zero (value_row figures used v)
    whole v =
        rows_at_filled figures slots paths v
        ∙ fill_whole 8 (value_row figures slots v) (row Absent) (value_row figures used v) m (omega arith) (there v) (past v)

    all : (v : ℕ) → rows_at figures used 8 v ≡ tabulate 8 zero (value_row figures used v)
    all v =
        rows_at_filled figures used 8 v
        ∙ fill_whole 8 (value_row figures used v) (row Absent) (value_row figures used v) 8 (omega arith) (λ i h. refl) (λ i h b. absurd (omega arith))

-- the words of the vertex v: eight from 32 + 8 * v on, as far as the table goes
module _ (figures slots : List ℕ) (v from to : ℕ) (vertex : v < 256) (start : from ≡ min (32 + 8 * v) (length figures))
    (end : to ≡ min (from + 8) (length figures)) where
  word_there : (j : ℕ) → j < 8 → 32 + 8 * v + j < length figures → get_or (take (to - from) (drop from figures)) j 0
      ≡ get_or figures (32 + 8 * v + j) 0
  word_there j h k =
      get_or-take (to - from) (drop from figures) j 0 (omega arith) ∙ get_or-drop from figures j 0
      ∙ ap (λ (i : ℕ). get_or figures i 0) (let e : from + j ≡ 32 + 8 * v + j = omega arith in e)

  -- a leaf is the value of its slot
  leaf_value : (k : ℕ) → k < 8 → value_in figures (get_or slots k 0) v ≡ leaf_in (take (to - from) (drop from figures)) slots 1 k
  unfolding value_in leaf_in
  leaf_value k h = rw (lt-leb 8 k h, lt-leb 256 v vertex) (outside (leb 8 j) refl)
    where
      j : ℕ
      j = get_or slots k 0

      x : ℕ
      x = get_or figures (32 + 8 * v + j) 0

      part : List ℕ
      part = take (to - from) (drop from figures)

      long : length part ≡ to - from
      long = omega (arith, length-take (to - from) (drop from figures), length-drop from figures)

      absent : (t : Bool) → eqb x 0 ≡ t → cond t Absent (Number (x - 1)) ≡ cond (ltb x 1) Absent (Number (x - 1))
      absent true e = let z = eqb-true x 0 e in rw (lt-ltb x 1 (omega arith))
      absent false e = let z = eqb-false x 0 e in rw (le-ltb x 1 (omega (arith, z)))

      short : j < 8 → (t : Bool) → leb (length figures) (32 + 8 * v + j) ≡ t
          → cond t Absent (cond (eqb x 0) Absent (Number (x - 1)))
          ≡ cond (leb (length part) j) Absent (cond (ltb (get_or part j 0) 1) Absent (Number (get_or part j 0 - 1)))
      short b true e = let z = leb-true (length figures) (32 + 8 * v + j) e in rw (le-leb (length part) j (omega (arith, long)))
      short b false e =
          let z = leb-false (length figures) (32 + 8 * v + j) e in
          rw (lt-leb (length part) j (omega (arith, long)), word_there j b z) (absent (eqb x 0) refl)

      outside : (t : Bool) → leb 8 j ≡ t
          → cond t Absent (cond (leb (length figures) (32 + 8 * v + j)) Absent (cond (eqb x 0) Absent (Number (x - 1))))
          ≡ cond (leb (length part) j) Absent (cond (ltb (get_or part j 0) 1) Absent (Number (get_or part j 0 - 1)))
      outside true e = let z = leb-true 8 j e in rw (le-leb (length part) j (omega (arith, long)))
      outside false e = short (leb-false 8 j e) (leb (length figures) (32 + 8 * v + j)) refl

  -- THE LEAVES AT A VERTEX are the rows there
  pub leaves_at : rows_in (take (to - from) (drop from figures)) slots 1 ≡ rows_at figures slots 8 v
  unfolding rows_in
  leaves_at =
      sym (rows_at_filled figures slots 8 v
      ∙ fill_whole 8 (value_row figures slots v) (row Absent) (λ k. row (leaf_in (take (to - from) (drop from figures)) slots 1 k)) 8 (omega arith)
      (λ i h. ap row (leaf_value i h)) (λ i h b. absurd (omega arith)))

-- ---- entries

-- the row of an entry at the vertex v
abbrev pub entry_row : List ℕ → (ℕ → List Row) → ℕ → ℕ → Row
entry_row s F at v = row (entry_found s (F v) at)

-- where entry k starts, the first at `at`
module _ (s : List ℕ) where
  -- the first
  pub end_none : (at : ℕ) → at ≡ entries_end 0 s at
  unfolding entries_end
  end_none at = refl

  -- the next
  pub end_next : (k at : ℕ) → entry_end s (entries_end k s at) ≡ entries_end (suc k) s at
  unfolding entries_end
  end_next zero at = refl
  end_next (suc k) at = end_next k (entry_end s at)

module _ (s : List ℕ) (F : ℕ → List Row) (n : ℕ) where
  -- the rows of an entry at all vertices
  pub entry_filled : (size at : ℕ) → padded size (entry_rows s at F n) ≡ filled size (entry_row s F at) (row Absent) n
  unfolding entry_rows
  entry_filled size at = array_filled size (entry_row s F at) n

  -- one more of them
  pub entry_next : (size at v : ℕ) (rows : List Row) (value : Value) → rows ≡ filled size (entry_row s F at) (row Absent) v → v < size
      → value ≡ entry_found s (F v) at → set rows v (row value) ≡ filled size (entry_row s F at) (row Absent) (v + 1)
  entry_next size at v rows value e h x =
      ap₂ (λ (rows : List Row) (value : Value). set rows v (row value)) e x ∙ fill_next size (entry_row s F at) (row Absent) v h

  -- WHAT IS WRITTEN OF THEM: the rows in an array are written as they are
  pub entry_written : (at rounds : ℕ) (rest : List Row) (room : ℕ)
      → answer_reply n rounds 0 (values (entry_rows s at F n ++ rest)) room ≡ answer_reply n rounds 0 (values (entry_rows s at F n)) room
  unfolding entry_rows
  entry_written at rounds rest room =
      let rows : List Row = tabulate n zero (entry_row s F at) in
      ap (λ (vs : List Value). answer_reply n rounds 0 vs room) (map-append (λ (r : Row). r.value) rows rest)
      ∙ reply_first n rounds (values rows) (values rest) room (length-map rows (λ (r : Row). r.value) ∙ tabulate_length n zero (entry_row s F at))

  -- of an array with absent ones behind them
  pub array_written : (size at rounds : ℕ) (array : List Row) (room : ℕ) → array ≡ padded size (entry_rows s at F n)
      → answer_reply n rounds 0 (values array) room ≡ answer_reply n rounds 0 (values (entry_rows s at F n)) room
  array_written size at rounds array room e =
      ap (λ (l : List Row). answer_reply n rounds 0 (values l) room) e
      ∙ entry_written at rounds (replicate (size - length (entry_rows s at F n)) (row Absent)) room

  -- the result of the entry at a position; the row of entry k
  abbrev pub result_at : ℕ → Value
  result_at at = reduce (get_or s at 0 % 128) (values (entry_rows s at F n))

  abbrev pub result_row : ℕ → ℕ → Row
  result_row at k = row (result_at (entries_end k s at))

  results_from : (at k i : ℕ) → results k s (entries_end i s at) F n ≡ tabulate k i (λ j. result_at (entries_end j s at))
  unfolding results
  results_from at zero i = refl
  results_from at (suc k) i =
      ap (λ (l : List Value). result_at (entries_end i s at) ∷ l) (ap (λ (c : ℕ). results k s c F n) (end_next s i at) ∙ results_from at k (suc i))

  -- the rows of the results
  pub results_filled : (at k : ℕ) → eight (results k s at F n) ≡ filled 8 (result_row at) (row Absent) k
  results_filled at k =
      ap eight (ap (λ (c : ℕ). results k s c F n) (end_none s at) ∙ results_from at k zero)
      ∙ eight_filled (λ j. result_at (entries_end j s at)) k

  -- ITS RESULT VALUE BY VALUE: what the reduction r has reached after v vertices
  abbrev pub reached : ℕ → ℕ → ℕ → Option Value
  reached r at v = foldl (step r) None (values (entry_rows s at F v))

  pub reached_none : (r at : ℕ) → None ≡ reached r at 0
  unfolding entry_rows
  reached_none r at = refl

  pub reached_next : (r at v : ℕ) → step r (reached r at v) (entry_found s (F v) at) ≡ reached r at (v + 1)
  unfolding entry_rows
  reached_next r at v =
      let f : ℕ → Row = entry_row s F at in
      sym (ap (λ (k : ℕ). foldl (step r) None (values (tabulate k zero f))) (add-one v)
      ∙ ap (λ (l : List Row). foldl (step r) None (values l)) (tabulate_more 256 f (row Absent) v 0)
      ∙ snoc r None (tabulate v zero f) (f (0 + v))
      ∙ ap (λ (k : ℕ). step r (foldl (step r) None (values (tabulate v zero f))) (f k).value) (let e : 0 + v ≡ v = omega arith in e))

  pub reached_all : (r at : ℕ) → finish (reached r at n) ≡ reduce r (values (entry_rows s at F n))
  reached_all r at = reduced r (values (entry_rows s at F n))

  -- the results as words and slots
  abbrev pub result_word : ℕ → ℕ → ℕ
  result_word at k = word_of (result_at (entries_end k s at))

  abbrev pub result_slot : ℕ → ℕ → ℕ
  result_slot at k = slot_of (result_at (entries_end k s at)) k

  -- one more result: a number is set in its place, nothing where it is absent
  module _ (at k : ℕ) (some : k < 8) where
    pub number_word : (x : ℕ) → result_at (entries_end k s at) ≡ Number x
        → set (filled 8 (result_word at) 0 k) k x ≡ filled 8 (result_word at) 0 (k + 1)
    number_word x e = ap (set (filled 8 (result_word at) 0 k) k) (sym (ap word_of e)) ∙ fill_next 8 (result_word at) 0 k some

    pub number_slot : (x : ℕ) → result_at (entries_end k s at) ≡ Number x
        → set (filled 8 (result_slot at) 8 k) k k ≡ filled 8 (result_slot at) 8 (k + 1)
    number_slot x e =
        ap (set (filled 8 (result_slot at) 8 k) k) (sym (ap (λ (v : Value). slot_of v k) e)) ∙ fill_next 8 (result_slot at) 8 k some

    pub absent_word : result_at (entries_end k s at) ≡ Absent → filled 8 (result_word at) 0 k ≡ filled 8 (result_word at) 0 (k + 1)
    absent_word e = fill_blank 8 (result_word at) 0 k some (ap word_of e)

    pub absent_slot : result_at (entries_end k s at) ≡ Absent → filled 8 (result_slot at) 8 k ≡ filled 8 (result_slot at) 8 (k + 1)
    absent_slot e = fill_blank 8 (result_slot at) 8 k some (ap (λ (v : Value). slot_of v k) e)

  -- THE LEAVES OF THE FINAL EXPRESSION are the rows of the results
  pub results_leaves : (at e : ℕ) → e ≤ 8 → rows_in (filled 8 (result_word at) 0 e) (filled 8 (result_slot at) 8 e) 0 ≡ eight (results e s at F n)
  unfolding rows_in leaf_in
  results_leaves at e few =
      sym (results_filled at e
      ∙ fill_whole 8 (result_row at) (row Absent) (λ k. row (leaf_in words slots 0 k)) e few (λ i h. ap row (there i h)) (λ i h b. ap row (past i h b)))
    where
      words : List ℕ
      words = filled 8 (result_word at) 0 e

      slots : List ℕ
      slots = filled 8 (result_slot at) 8 e

      long : length words ≡ 8
      long = fill_length 8 (result_word at) 0 e few

      -- one that is absent, and one that is a number
      none : (i : ℕ) → i < 8 → get_or slots i 0 ≡ 8 → Absent ≡ leaf_in words slots 0 i
      none i b h = rw (lt-leb 8 i b, h, le-leb (length words) 8 (omega (arith, long)))

      some : (i x : ℕ) → i < 8 → get_or slots i 0 ≡ i → get_or words i 0 ≡ x → Number x ≡ leaf_in words slots 0 i
      some i x b h k =
          let z : x ≡ x - 0 = omega arith in
          rw (lt-leb 8 i b, h, lt-leb (length words) i (omega (arith, long)), k, le-ltb x 0 (omega arith)) (ap Number z)

      by : (i : ℕ) → i < 8 → (v : Value) → get_or slots i 0 ≡ slot_of v i → get_or words i 0 ≡ word_of v → v ≡ leaf_in words slots 0 i
      by i b Absent h k = none i b h
      by i b (Number x) h k = some i x b h k

      there : (i : ℕ) → i < e → result_at (entries_end i s at) ≡ leaf_in words slots 0 i
      there i h =
          by i (omega arith) (result_at (entries_end i s at)) (fill_at 8 (result_slot at) 8 e i 0 h) (fill_at 8 (result_word at) 0 e i 0 h)

      past : (i : ℕ) → e ≤ i → i < 8 → Absent ≡ leaf_in words slots 0 i
      past i h b = none i b (fill_past 8 (result_slot at) 8 e i 0 h b)

-- ---- the answer

-- what the judge lets pass
pub judged_fields : (n kind room : ℕ) → 0 ≡ answer_code n kind room → Fields n kind
judged_fields n kind room z = (judged_right n kind room (sym z)).0

module _ (plan figures slots : List ℕ) (paths n : ℕ) where
  -- by the slots in use: the body of kind 0
  pub body_each : n ≤ 256 → get_or plan 5 0 ≡ 0
      → entry_rows plan (count_at plan + 1) (rows_at figures (used_slots slots paths) 8) n ≡ body_found plan (rows_at figures slots paths) (min n 256)
  unfolding body_found
  body_each few z =
      let e : n ≡ min n 256 = omega arith in
      ap₂ (entry_rows plan (count_at plan + 1)) (sym (used_rows figures slots paths)) e ∙ sym (rw (eq-eqb (get_or plan 5 0) 0 z) refl)

  -- and of kind 1
  pub body_one : n ≤ 256 → (get_or plan 5 0 ≡ 0 → ⊥)
      → row (final_found (min (get_or plan (count_at plan) 0) 8) plan (count_at plan + 1) (rows_at figures (used_slots slots paths) 8) n) ∷ []
      ≡ body_found plan (rows_at figures slots paths) (min n 256)
  unfolding body_found
  body_one few z =
      let e : n ≡ min n 256 = omega arith in
      let k : ℕ = min (get_or plan (count_at plan) 0) 8 in
      ap (λ (v : Value). row v ∷ []) (ap₂ (final_found k plan (count_at plan + 1)) (sym (used_rows figures slots paths)) e)
      ∙ sym (rw (ne_eqb (get_or plan 5 0) 0 z) refl)

  -- it has no more rows than there are in an array
  few_rows : length (body_found plan (rows_at figures slots paths) (min n 256)) ≤ 256
  unfolding body_found entry_rows
  few_rows = go (eqb (get_or plan 5 0) 0)
    where
      at : ℕ
      at = count_at plan

      F : ℕ → List Row
      F = rows_at figures slots paths

      go : (t : Bool)
          → length (cond t (entry_rows plan (at + 1) F (min n 256)) (row (final_found (min (get_or plan at 0) 8) plan (at + 1) F (min n 256)) ∷ [])) ≤ 256
      go true = omega (arith, tabulate_length (min n 256) zero (λ v. row (entry_found plan (F v) (at + 1))))
      go false = omega arith

  -- so that there are 256 values
  pub full_rows : length (values (many (body_found plan (rows_at figures slots paths) (min n 256)))) ≡ 256
  full_rows =
      let l : List Row = body_found plan (rows_at figures slots paths) (min n 256) in
      let rest : List Row = replicate (256 - length l) (row Absent) in
      let full : length (many l) ≡ 256 = omega (arith, few_rows, length-append l rest, length-replicate (256 - length l) (row Absent)) in
      length-map (many l) (λ (r : Row). r.value)
      ∙ full
