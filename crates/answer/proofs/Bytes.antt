-- The bytes of answers: how many there are, and rows stored one behind the other. Assumes nothing.
use Prim.Native.Nat.{ℕ, ◌+◌, ◌-◌, ◌*◌, ◌/◌, ◌≤◌, ◌<◌}
use mathlib.Core.Path.{◌≡◌, refl, sym, ap, ◌∙◌}
use mathlib.Core.Bool.{Bool, true, false, cond}
use mathlib.Core.List.{List, [], ◌∷◌, ◌++◌, append_assoc, append-nil}
use native.Mathlib.Omega.{arith}
use borrow.Rule.Slice.PartMut.{Post-is, put_mid}
use lib.Dec.{eqb}
use lib.ListN.{length, get_or, take, drop, length-append, length-map}
use lib.Seq.{length-take-le, sets, sets-eq}
use Rattle.meaning.specs.Meaning.{Outcome}
use Rattle.std.specs.Int.{to_le_bytes, w64}
use Rattle.value.specs.declared.Row.{Row}
use Rattle.value.specs.declared.Value.{Value}
use Rattle.value.specs.declared.Value.TheVariants.{Absent, Number}
use Rattle.value.specs.Value.{values}
use Rattle.wire.specs.Wire.{le64}
use Rattle.wire.proofs.Stores.{sets_more}
use Rattle.meaning.proofs.Lists.{map_append}
use Rattle.answer.specs.Answer.{answer_bytes, answer_rows, answer_size, encode, head_bytes, row_bytes, row_count, rows_bytes}

-- ---- how many

-- nine bytes each
row_length : (v : Value) → length (row_bytes v) ≡ 9
row_length Absent = refl
row_length (Number x) = refl

pub rows_length : (vs : List Value) → length (rows_bytes vs) ≡ 9 * length vs
unfolding rows_bytes
rows_length [] = refl
rows_length (v ∷ vs) = length-append (row_bytes v) (rows_bytes vs) ∙ omega (arith, row_length v, rows_length vs)

-- and ten before them
pub encode_length : (n kind : ℕ) (o : Outcome) → length (encode n kind o) ≡ 10 + 9 * length o.rows
encode_length n kind o = length-append (head_bytes n o.rounds kind) (rows_bytes o.rows) ∙ omega (arith, rows_length o.rows)

-- a bound on n is one on the rows
pub count_most : (n kind m : ℕ) → n ≤ m → 1 ≤ m → row_count n kind ≤ m
count_most n kind m h k = go (eqb kind 0)
  where
    go : (b : Bool) → cond b n 1 ≤ m
    go true = h
    go false = k

-- THE LENGTH DEPENDS ON n AND THE KIND ALONE
pub answer_length : (n rounds kind : ℕ) (vs : List Value) → row_count n kind ≤ length vs → length (answer_bytes n rounds kind vs) ≡ answer_size n kind
unfolding answer_bytes
answer_length n rounds kind vs h =
    encode_length n kind (record { rounds = rounds; rows = answer_rows n kind vs }) ∙ omega (arith, length-take-le (row_count n kind) vs h)

-- ---- stored in turn

-- bytes copied into a part of a buffer
pub put_sets : (out : List ℕ) (a e : ℕ) (vs : List ℕ) → e ≡ a + length vs → e ≤ length out → put_mid a (e - a) out vs ≡ sets out a vs
put_sets out a e vs p h =
    ap (λ (t : List ℕ). take a out ++ (vs ++ t)) (Post-is a e out (omega arith))
    ∙ rw p (sym (append_assoc (take a out) vs (drop (a + length vs) out)) ∙ sym (sets-eq vs out a (omega arith)))

-- the library's bytes of 64 bits are those of the layout
pub le64_bytes : (x : ℕ) → to_le_bytes w64 x ≡ le64 x
le64_bytes x =
    let y : ℕ = x / 4294967296 in
    let a : x / 16777216 ≡ x / 65536 / 256 = omega arith in
    let b : x / 1099511627776 ≡ y / 256 = omega arith in
    let c : x / 281474976710656 ≡ y / 65536 = omega arith in
    let d : x / 72057594037927936 ≡ y / 65536 / 256 = omega arith in
    rw (a, b, c, d) refl

-- the bytes of two lists are one behind the other
rows_append : (us vs : List Value) → rows_bytes (us ++ vs) ≡ rows_bytes us ++ rows_bytes vs
unfolding rows_bytes
rows_append [] vs = refl
rows_append (u ∷ us) vs = rw (rows_append us vs) (sym (append_assoc (row_bytes u) (rows_bytes us) (rows_bytes vs)))

-- ROW i STORED BEHIND THOSE BEFORE IT
pub row_more : (out : List ℕ) (rows : List Row) (i : ℕ) (d : Row) → i < length rows →
    sets (sets out 10 (rows_bytes (values (take i rows)))) (10 + 9 * i) (row_bytes (get_or rows i d).value)
    ≡ sets out 10 (rows_bytes (values (take (i + 1) rows)))
unfolding rows_bytes
row_more out rows i d h =
    rw (← append-nil (row_bytes (get_or rows i d).value))
    (sets_more 9 (λ (l : List Row). rows_bytes (values l)) (λ l. rows_length (values l) ∙ rw (length-map l (λ (r : Row). r.value)))
    (λ l k. ap rows_bytes (map_append (λ (r : Row). r.value) l k) ∙ rows_append (values l) (values k)) out 10 rows i d h)
