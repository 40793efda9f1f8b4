-- Bytes, little-endian numbers, and the reply to a call (document 01, "Layouts" and "Numbers at the desk").
use Rattle.std.specs.Prelude.{ℕ, ◌+◌, ◌*◌, ◌/◌, ◌%◌, ◌<◌, ◌≡◌, cond, List, [], ◌∷◌, ◌++◌, ltb, eqb, length, get_or, drop}

-- all are bytes
abbrev pub Bytes : List ℕ → Type 0
Bytes s = (i : ℕ) → get_or s i 0 < 256

-- "All integers in the layouts are unsigned, low byte first": 16 and 32 bits at index i of a list
abbrev pub at16 : List ℕ → ℕ → ℕ
at16 s i = get_or s i 0 + 256 * get_or s (i + 1) 0

abbrev pub at32 : List ℕ → ℕ → ℕ
at32 s i = at16 s i + 65536 * at16 s (i + 2)

-- the bytes of a number of 16, 32 and 64 bits
abbrev pub le16 : ℕ → List ℕ
le16 x = x % 256 ∷ x / 256 % 256 ∷ []

abbrev pub le32 : ℕ → List ℕ
le32 x = le16 x ++ le16 (x / 65536)

abbrev pub le64 : ℕ → List ℕ
le64 x = le32 x ++ le32 (x / 4294967296)

-- a call leaves bytes, or refuses by a number
pub data Reply : Type 0 where
  done : List ℕ → Reply
  refused : ℕ → Reply

-- "a result under 65,536 is the bytes written and 65,536 plus a number is a refusal"
abbrev pub reply_number : Reply → ℕ
reply_number (done bs) = length bs
reply_number (refused k) = 65536 + k

-- the lent buffer after the call: the bytes first and the rest as it was; or "no buffer changes"
abbrev pub reply_buffer : Reply → List ℕ → List ℕ
reply_buffer (done bs) out = bs ++ drop (length bs) out
reply_buffer (refused k) out = out

-- what a call leaves, as one fact: it returned the number of its reply, and the buffer is the reply's over what was lent
abbrev pub Returned : Reply → ℕ → List ℕ → List ℕ → Type 0
Returned reply number before after = (number ≡ reply_number reply) × (after ≡ reply_buffer reply before)

-- "15 | buffer short | the bytes to be written exceed the lent length"
abbrev pub fitted : List ℕ → ℕ → Reply
fitted bs room = cond (ltb room (length bs)) (refused 15) (done bs)

-- a refusal by its number, 0 for none; else what follows
abbrev pub unless : ℕ → Reply → Reply
unless k r = cond (eqb k 0) r (refused k)
