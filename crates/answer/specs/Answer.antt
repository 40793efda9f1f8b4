-- The bytes of an answer (document 01: answer `LPA`), how an answer is judged, and the writer's reply.
use Rattle.std.specs.Prelude.{ℕ, ◌+◌, ◌*◌, cond, List, [], ◌∷◌, ◌++◌, ltb, eqb, take}
use Rattle.meaning.specs.Meaning.{Outcome}
use Rattle.value.specs.declared.Value.{Value}
use Rattle.value.specs.declared.Value.TheVariants.{Absent, Number}
use Rattle.wire.specs.Header.{header_bytes}
use Rattle.wire.specs.Wire.{Reply, fitted, le16, le64, unless}

-- "A row is a byte, 1 for a number and 0 for absent, and 64 bits, 0 when absent."
abbrev pub row_bytes : Value → List ℕ
row_bytes Absent = 0 ∷ le64 0
row_bytes (Number x) = 1 ∷ le64 x

-- rows in turn
unfoldable pub rows_bytes : List Value → List ℕ
rows_bytes [] = []
rows_bytes (v ∷ vs) = row_bytes v ++ rows_bytes vs

-- "three letters and a 16-bit version, 1", "n (16 bits), rounds (16 bits), kind byte"
abbrev pub head_bytes : ℕ → ℕ → ℕ → List ℕ
head_bytes n rounds kind = header_bytes 0x41 1 ++ le16 n ++ le16 rounds ++ (kind ∷ [])

-- THE BYTES OF AN ANSWER on n vertices
abbrev pub encode : ℕ → ℕ → Outcome → List ℕ
encode n kind o = head_bytes n o.rounds kind ++ rows_bytes o.rows

-- "then n rows for kind 0 or one row for kind 1"
abbrev pub row_count : ℕ → ℕ → ℕ
row_count n kind = cond (eqb kind 0) n 1

-- as many of the values handed over
abbrev pub answer_rows : ℕ → ℕ → List Value → List Value
answer_rows n kind vs = take (row_count n kind) vs

-- the bytes of what the writer is handed
unfoldable pub answer_bytes : ℕ → ℕ → ℕ → List Value → List ℕ
answer_bytes n rounds kind vs = encode n kind (record { rounds = rounds; rows = answer_rows n kind vs })

-- "4 | places | n is 0 or above 256", "9 | code | an illegal kind": "the answer writer judges n (4), kind (9), then 15"
unfoldable pub fields_code : ℕ → ℕ → ℕ
fields_code n kind = cond (eqb n 0) 4 (cond (ltb 256 n) 4 (cond (ltb 1 kind) 9 0))

-- then 15: "the bytes to be written exceed the lent length"
unfoldable pub answer_reply : ℕ → ℕ → ℕ → List Value → ℕ → Reply
answer_reply n rounds kind vs room = unless (fields_code n kind) (fitted (answer_bytes n rounds kind vs) room)

-- how many bytes there are, by n and the kind alone (`answer_length`, proofs/Bytes)
abbrev pub answer_size : ℕ → ℕ → ℕ
answer_size n kind = 10 + 9 * row_count n kind

-- THE JUDGE'S NUMBER, 0 for none: 4, 9, then 15, before there are values; `reply_judged` (proofs/Reply) says that it is the writer's
unfoldable pub answer_code : ℕ → ℕ → ℕ → ℕ
answer_code n kind room = cond (eqb (fields_code n kind) 0) (cond (ltb room (answer_size n kind)) 15 0) (fields_code n kind)
