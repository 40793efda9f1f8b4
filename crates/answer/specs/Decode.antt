-- An answer read back from its bytes (document 01: answer `LPA`): n at 5, rounds at 7, the kind at 9, rows from 10 on.
use Rattle.std.specs.Prelude.{ℕ, zero, suc, ◌+◌, ◌*◌, cond, List, [], ◌∷◌, eqb, get_or, drop}
use Rattle.meaning.specs.Meaning.{Outcome}
use Rattle.value.specs.declared.Value.{Value}
use Rattle.value.specs.declared.Value.TheVariants.{Absent, Number}
use Rattle.wire.specs.Wire.{at16, at32}
use Rattle.answer.specs.Answer.{row_count}

-- what an answer says
pub record Answer : Type 0 where
  pub vertices : ℕ
  pub kind : ℕ
  pub outcome : Outcome

-- 64 bits at an index of a list
abbrev pub at64 : List ℕ → ℕ → ℕ
at64 s i = at32 s i + 4294967296 * at32 s (i + 4)

-- a row at the front: "a byte, 1 for a number and 0 for absent, and 64 bits"
abbrev pub row_in : List ℕ → Value
row_in s = cond (eqb (get_or s 0 0) 0) Absent (Number (at64 s 1))

-- k rows
abbrev pub rows_in : ℕ → List ℕ → List Value
rows_in zero s = []
rows_in (suc k) s = row_in s ∷ rows_in k (drop 9 s)

-- THE ANSWER OF SOME BYTES
unfoldable pub decode : List ℕ → Answer
decode s = record {
  vertices = at16 s 5;
  kind = get_or s 9 0;
  outcome = record { rounds = at16 s 7; rows = rows_in (row_count (at16 s 5) (get_or s 9 0)) (drop 10 s) };
}
