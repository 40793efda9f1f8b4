-- The writer's reply: by what is judged before there are values, and by the encoding of an outcome. Assumes nothing.
use Prim.Native.Nat.{ℕ, ◌≤◌, ◌<◌, min}
use mathlib.Core.Path.{◌≡◌, refl, sym, ap, ◌∙◌}
use mathlib.Core.Bool.{Bool, true, false, cond}
use mathlib.Core.List.{List, [], ◌∷◌, ◌++◌}
use native.Mathlib.Omega.{arith}
use borrow.Author.Tests.{ltb-false, eqb-true, eqb-false, eq-eqb, ne_eqb}
use lib.Dec.{ltb, eqb}
use lib.ListN.{length, take, drop}
use lib.Seq.{sets, take-append-le}
use Rattle.meaning.specs.Meaning.{Outcome}
use Rattle.value.specs.declared.Value.{Value}
use Rattle.wire.specs.Wire.{done, fitted, refused, unless}
use Rattle.wire.proofs.Codes.{past}
use Rattle.wire.proofs.Stores.{sets_front}
use Rattle.answer.specs.Answer.{
  answer_bytes,
  answer_code,
  answer_reply,
  answer_rows,
  answer_size,
  encode,
  fields_code,
  head_bytes,
  row_count,
  rows_bytes,
}
use Rattle.answer.proofs.Bytes.{answer_length, count_most, encode_length}

-- ---- what was judged

-- n and a kind that are not refused
pub record Fields (n kind : ℕ) : Type 0 where
  pub some_vertex : 0 < n
  pub few_vertices : n ≤ 256
  pub known_kind : kind ≤ 1

-- what the judge of the fields lets pass
pub fields : (n kind : ℕ) → fields_code n kind ≡ 0 → Fields n kind
unfolding fields_code
fields n kind e =
    let a = past (eqb n 0) 3 _ e in
    let b = past (ltb 256 n) 3 _ a.1 in
    let c = past (ltb 1 kind) 8 _ b.1 in
    let some : n ≡ 0 → ⊥ = eqb-false _ _ a.0 in
    record { some_vertex = omega arith; few_vertices = ltb-false _ _ b.0; known_kind = ltb-false _ _ c.0 }

-- so few bytes that a reply's number tells them from a refusal
pub size_most : (n kind : ℕ) → Fields n kind → answer_size n kind ≤ 2314
size_most n kind f = omega (arith, count_most n kind 256 f.few_vertices (omega arith))

-- what the judge lets pass: the fields, and the bytes fit
pub judged_right : (n kind room : ℕ) → answer_code n kind room ≡ 0 → Fields n kind × (answer_size n kind ≤ room)
unfolding answer_code
judged_right n kind room z = go (eqb (fields_code n kind) 0) refl z
  where
    go : (b : Bool) → eqb (fields_code n kind) 0 ≡ b → cond b (cond (ltb room (answer_size n kind)) 15 0) (fields_code n kind) ≡ 0 →
        Fields n kind × (answer_size n kind ≤ room)
    go true e z = (fields n kind (eqb-true _ _ e), ltb-false _ _ (past (ltb room (answer_size n kind)) 14 0 z).0)
    go false e z = absurd (eqb-false _ _ e z)

-- BYTES OF AN ANSWER'S SIZE FIT EXACTLY WHERE THE JUDGE SAYS SO, and else it says 15
judged_fits : (n kind room : ℕ) (bs : List ℕ) → fields_code n kind ≡ 0 → length bs ≡ answer_size n kind →
    unless (answer_code n kind room) (done bs) ≡ fitted bs room
unfolding answer_code
judged_fits n kind room bs z e = rw (eq-eqb _ _ z, e) (go (ltb room (answer_size n kind)))
  where
    go : (t : Bool) → unless (cond t 15 0) (done bs) ≡ cond t (refused 15) (done bs)
    go true = refl
    go false = refl

-- ---- the reply

-- no refusal of the fields: the bytes where they fit
reply_fits : (n rounds kind : ℕ) (vs : List Value) (room : ℕ) → fields_code n kind ≡ 0 → answer_reply n rounds kind vs room
    ≡ fitted (answer_bytes n rounds kind vs) room
unfolding answer_reply
reply_fits n rounds kind vs room z = rw (eq-eqb _ _ z)

-- the pieces laid are the bytes, and the rest as it was
pub answer_laid : (n rounds kind : ℕ) (vs : List Value) (out : List ℕ) → length (answer_bytes n rounds kind vs) ≤ length out →
    sets (sets out 0 (head_bytes n rounds kind)) 10 (rows_bytes (answer_rows n kind vs)) ≡ answer_bytes n rounds kind vs
    ++ drop (length (answer_bytes n rounds kind vs)) out
unfolding answer_bytes
answer_laid n rounds kind vs out h = sets_front out (head_bytes n rounds kind) (rows_bytes (answer_rows n kind vs)) 10 refl h

module _ (n rounds kind : ℕ) (vs : List Value) (enough : Fields n kind → row_count n kind ≤ length vs) where
  -- how many bytes there are, of as many values as there are rows, or more
  pub answer_sized : Fields n kind → length (answer_bytes n rounds kind vs) ≡ answer_size n kind
  answer_sized f = answer_length n rounds kind vs (enough f)

  -- THE REPLY IS BY THE JUDGE'S NUMBER
  pub reply_judged : (room : ℕ) → answer_reply n rounds kind vs room ≡ unless (answer_code n kind room) (done (answer_bytes n rounds kind vs))
  unfolding answer_reply answer_code
  reply_judged room = go (eqb (fields_code n kind) 0) refl
    where
      go : (b : Bool) → eqb (fields_code n kind) 0 ≡ b →
          answer_reply n rounds kind vs room ≡ unless (answer_code n kind room) (done (answer_bytes n rounds kind vs))
      go true e =
          let z : fields_code n kind ≡ 0 = eqb-true _ _ e in
          reply_fits n rounds kind vs room z ∙ sym (judged_fits n kind room (answer_bytes n rounds kind vs) z (answer_sized (fields n kind z)))
      go false e = rw (e, e)

  -- the judge refuses: so does the writer, by the same number
  pub reply_refused : (room k : ℕ) → k ≡ answer_code n kind room → (k ≡ 0 → ⊥) → answer_reply n rounds kind vs room ≡ refused k
  reply_refused room k e h = reply_judged room ∙ rw (← e, ne_eqb k 0 h)

  -- it does not: all bytes are written
  pub reply_done : (room : ℕ) → answer_code n kind room ≡ 0 → answer_reply n rounds kind vs room ≡ done (answer_bytes n rounds kind vs)
  reply_done room z = reply_judged room ∙ rw (eq-eqb _ _ z)

-- as many values as there are rows are enough, and 256 of any kind
pub enough_rows : (n kind : ℕ) (vs : List Value) → min (row_count n kind) 256 ≤ length vs → Fields n kind → row_count n kind ≤ length vs
enough_rows n kind vs h f = omega (arith, h, count_most n kind 256 f.few_vertices (omega arith))

-- of kind 1 the first value alone is written
pub reply_one : (n rounds : ℕ) (v : Value) (vs : List Value) (room : ℕ) → answer_reply n rounds 1 (v ∷ vs) room
    ≡ answer_reply n rounds 1 (v ∷ []) room
unfolding answer_reply answer_bytes
reply_one n rounds v vs room = refl

-- of kind 0 the first n values alone
pub reply_first : (n rounds : ℕ) (vs more : List Value) (room : ℕ) → length vs ≡ n → answer_reply n rounds 0 (vs ++ more) room
    ≡ answer_reply n rounds 0 vs room
unfolding answer_reply answer_bytes
reply_first n rounds vs more room e =
    ap (λ (rows : List Value). unless (fields_code n 0) (fitted (encode n 0 (record { rounds = rounds; rows = rows })) room))
    (take-append-le n vs more (omega (arith, e)))

-- ---- the encoding

-- judged before there is an outcome
pub encode_judged : (n kind room : ℕ) (o : Outcome) → fields_code n kind ≡ 0 → length o.rows ≡ row_count n kind →
    unless (answer_code n kind room) (done (encode n kind o)) ≡ fitted (encode n kind o) room
encode_judged n kind room o z all = judged_fits n kind room (encode n kind o) z (encode_length n kind o ∙ rw all)

-- WHAT IS WRITTEN OF VALUES THAT BEGIN WITH THE ROWS OF AN OUTCOME IS ITS ENCODING
module _ (n kind : ℕ) (o : Outcome) (vs : List Value) (all : length o.rows ≡ row_count n kind) (begin : take (length o.rows) vs ≡ o.rows) where
  pub write_encodes : answer_bytes n o.rounds kind vs ≡ encode n kind o
  unfolding answer_bytes
  write_encodes = rw (← all, begin)

  -- and so is the reply, where it fits
  pub reply_encodes : fields_code n kind ≡ 0 → (room : ℕ) → answer_reply n o.rounds kind vs room ≡ fitted (encode n kind o) room
  reply_encodes z room = reply_fits n o.rounds kind vs room z ∙ ap (λ (bs : List ℕ). fitted bs room) write_encodes
