-- One to three legal keys as one number, and back. Assumes nothing.
use Prim.Native.Nat.{ℕ, zero, suc, ◌+◌, ◌*◌, ◌/◌, ◌%◌, ◌≤◌, ◌<◌}
use mathlib.Core.Path.{◌≡◌, refl}
use mathlib.Core.Bool.{◌&&◌}
use mathlib.Core.List.{List, [], ◌∷◌}
use native.Mathlib.Omega.{arith}
use lib.Dec.{T, leb, leb→le}
use lib.ListN.{length, get_or, take}
use Rattle.walks.specs.Keys.{all_known, in_order, known, legal_keys}
use Rattle.walks.proofs.Tests.{and_left, and_right}
use Rattle.packed_path.specs.Packed.{keys_number, keys_in}

-- a known key is one of six
pub known_range : (k : ℕ) → T (known k) → (1 ≤ k) × (k ≤ 6)
known_range k t = (leb→le 1 k (and_left (leb 1 k) (leb k 6) t), leb→le k 6 (and_right (leb 1 k) (leb k 6) t))

-- every key of a known list is a byte
pub key_byte : (ks : List ℕ) → T (all_known ks) → (i : ℕ) → get_or ks i 0 < 256
key_byte [] t i = omega arith
key_byte (k ∷ ks) t zero = omega (arith, known_range k (and_left (known k) (all_known ks) t))
key_byte (k ∷ ks) t (suc i) = key_byte ks (and_right (known k) (all_known ks) t) i

-- the fields of a legal path reduction: one, two or three keys
pub legal_parts : (ks : List ℕ) → T (legal_keys ks) → T (leb 1 (length ks)) × T (leb (length ks) 3) × T (all_known ks) × T (in_order ks)
legal_parts ks t =
    let a = and_left (leb 1 (length ks) && leb (length ks) 3 && all_known ks) (in_order ks) t in
    let b = and_left (leb 1 (length ks) && leb (length ks) 3) (all_known ks) a in (
      and_left (leb 1 (length ks)) (leb (length ks) 3) b,
      and_right (leb 1 (length ks)) (leb (length ks) 3) b,
      and_right (leb 1 (length ks) && leb (length ks) 3) (all_known ks) a,
      and_right (leb 1 (length ks) && leb (length ks) 3 && all_known ks) (in_order ks) t,
    )

-- the lowest digit of a number, and the rest
pub digits : (a b x y : ℕ) → a < 256 → b < 256 → a + 256 * x ≡ b + 256 * y → (a ≡ b) × (x ≡ y)
digits a b x y h k e = (omega arith, omega arith)

-- the four bytes of a number of keys
pub four_digits : (n a b c : ℕ) → n < 256 → a < 256 → b < 256 → c < 256
    → (keys_number n a b c % 256 ≡ n) × (keys_number n a b c / 256 % 256 ≡ a) × (keys_number n a b c / 65536 % 256 ≡ b)
    × (keys_number n a b c / 16777216 % 256 ≡ c)
four_digits n a b c hn ha hb hc =
    let w = keys_number n a b c in
    let p = digits (w % 256) n (w / 256) (a + 256 * b + 65536 * c) (omega arith) hn (omega arith) in
    let q = digits (w / 256 % 256) a (w / 65536) (b + 256 * c) (omega arith) ha (omega (arith, p.1)) in
    let r = digits (w / 65536 % 256) b (w / 16777216) c (omega arith) hb (omega (arith, q.1)) in
    (p.0, q.0, r.0, omega (arith, r.1))

-- the first of three bytes, as many as there are keys
three : (ks : List ℕ) → 1 ≤ length ks → length ks ≤ 3 → take (length ks) (get_or ks 0 0 ∷ get_or ks 1 0 ∷ get_or ks 2 0 ∷ []) ≡ ks
three [] h k = absurd (omega arith)
three (x ∷ []) h k = refl
three (x ∷ (y ∷ [])) h k = refl
three (x ∷ (y ∷ (z ∷ []))) h k = refl
three (x ∷ (y ∷ (z ∷ (t ∷ ks)))) h k = absurd (omega arith)

module _ (ks : List ℕ) (t : T (legal_keys ks)) where
  -- the bytes of legal keys are seen from their number
  pub keys_digits : (keys_number (length ks) (get_or ks 0 0) (get_or ks 1 0) (get_or ks 2 0) % 256 ≡ length ks)
      × (keys_number (length ks) (get_or ks 0 0) (get_or ks 1 0) (get_or ks 2 0) / 256 % 256 ≡ get_or ks 0 0)
      × (keys_number (length ks) (get_or ks 0 0) (get_or ks 1 0) (get_or ks 2 0) / 65536 % 256 ≡ get_or ks 1 0)
      × (keys_number (length ks) (get_or ks 0 0) (get_or ks 1 0) (get_or ks 2 0) / 16777216 % 256 ≡ get_or ks 2 0)
  keys_digits =
      let p = legal_parts ks t in
      four_digits (length ks) (get_or ks 0 0) (get_or ks 1 0) (get_or ks 2 0) (omega (arith, leb→le (length ks) 3 p.1)) (key_byte ks p.2 0)
      (key_byte ks p.2 1) (key_byte ks p.2 2)

  -- LEGAL KEYS COME BACK from their number
  pub keys_back : keys_in (keys_number (length ks) (get_or ks 0 0) (get_or ks 1 0) (get_or ks 2 0)) ≡ ks
  keys_back =
      let p = legal_parts ks t in
      let d = keys_digits in
      rw (d.0, d.1, d.2, d.3) (three ks (leb→le 1 (length ks) p.0) (leb→le (length ks) 3 p.1))
