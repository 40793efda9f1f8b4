-- AN ANSWER CAN BE READ BACK FROM ITS BYTES. Assumes nothing.
use Prim.Native.Nat.{ℕ, ◌+◌, ◌*◌, ◌/◌, ◌%◌, ◌^◌, ◌≤◌, ◌<◌}
use mathlib.Core.Path.{◌≡◌, refl, ap}
use mathlib.Core.List.{List, [], ◌∷◌, ◌++◌}
use native.Mathlib.Omega.{arith}
use lib.ListN.{length}
use Rattle.meaning.specs.Meaning.{Outcome}
use Rattle.value.specs.declared.Value.{Value}
use Rattle.value.specs.declared.Value.TheVariants.{Absent, Number}
use Rattle.value.proofs.Held.{AllHeld}
use Rattle.answer.specs.Answer.{encode, row_bytes, row_count, rows_bytes}
use Rattle.answer.specs.Decode.{at64, decode, rows_in}

-- 16, 32 and 64 bits put together from smaller ones
low16 : (x : ℕ) → x % 256 + 256 * (x / 256 % 256) ≡ x % 65536
low16 x = omega arith

low32 : (x : ℕ) → x % 65536 + 65536 * (x / 65536 % 65536) ≡ x % 4294967296
low32 x = omega arith

all16 : (x : ℕ) → x < 65536 → x % 256 + 256 * (x / 256 % 256) ≡ x
all16 x h = omega arith

all64 : (x : ℕ) → x < 2 ^ 64 → x % 4294967296 + 4294967296 * (x / 4294967296 % 4294967296) ≡ x
all64 x h = omega arith

-- a number from the bytes of its row
number_back : (x : ℕ) (s : List ℕ) → x < 2 ^ 64 → at64 (row_bytes (Number x) ++ s) 1 ≡ x
number_back x s h =
    let y : ℕ = x / 4294967296 in
    rw (low16 x, low16 (x / 65536), low16 y, low16 (y / 65536), low32 x, low32 y) (all64 x h)

-- the rows from their bytes
rows_back : (vs : List Value) → AllHeld vs → rows_in (length vs) (rows_bytes vs) ≡ vs
unfolding rows_bytes
rows_back [] h = refl
rows_back (Absent ∷ vs) h = ap (λ (l : List Value). Absent ∷ l) (rows_back vs h.1)
rows_back (Number x ∷ vs) h = rw (number_back x (rows_bytes vs) h.0, rows_back vs h.1)

-- DECODING THE BYTES OF AN OUTCOME GIVES n, THE KIND AND THE OUTCOME
pub decode_back : (n kind : ℕ) (o : Outcome) → n ≤ 256 → o.rounds < 65536 → length o.rows ≡ row_count n kind → AllHeld o.rows →
    decode (encode n kind o) ≡ record { vertices = n; kind = kind; outcome = o }
unfolding decode
decode_back n kind o hn hc all held =
    let fits : n < 65536 = omega arith in
    rw (all16 n fits, all16 o.rounds hc, ← all, rows_back o.rows held)
