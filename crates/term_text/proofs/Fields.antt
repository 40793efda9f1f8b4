-- Fields of terms, judged: what is not refused, and what that says. Assumes nothing.
use Prim.Native.Nat.{ℕ, zero, suc, ◌+◌, ◌*◌, ◌/◌, ◌%◌, ◌≤◌, ◌<◌}
use mathlib.Core.Path.{◌≡◌, refl, sym, ap, ap₂, ◌∙◌, subst}
use mathlib.Core.Bool.{Bool, true, false, cond, ◌&&◌, ◌||◌}
use mathlib.Core.List.{List, [], ◌∷◌, ◌++◌}
use native.Mathlib.Numerals.{add-one}
use native.Mathlib.Omega.{arith}
use native.Mathlib.Decide.{dec_lt}
use borrow.Author.Tests.{ltb-false, eqb-false, le-ltb, ne_eqb}
use lib.Dec.{T, leb, ltb, eqb, leb→le, le→leb}
use lib.ListN.{length, get_or, drop}
use lib.Seq.{get_or-drop, drop-cons, drop-drop, drop-append_seam}
use Rattle.walks.specs.Keys.{all_known, early, in_order, known, legal_keys}
use Rattle.walks.proofs.Tests.{and_both, and_left, and_right}
use Rattle.wire.proofs.Codes.{then_both, then_zero}
use Rattle.fields.specs.Fields.{code_of, key_code}
use Rattle.packed_path.specs.Packed.{keys_number}
use Rattle.packed_path.proofs.Keys.{digits, known_range, legal_parts}
use Rattle.path_fields.specs.Paths.{key_fields_code, keys_at, keys_code, used}
use Rattle.wire.proofs.Past.{get_or_past}

-- a byte of the rest from i on, by its index there
pub nth : (s : List ℕ) (i j k d : ℕ) → k ≡ i + j → get_or s k d ≡ get_or (drop i s) j d
nth s i j k d e = rw e (sym (get_or-drop i s j d))

-- the number of a refusal is not 0
pub not_zero : {A : Type 0} (k n : ℕ) → suc k ≡ n → n ≡ 0 → A
not_zero k n e z = absurd (omega arith)

-- a byte from 1 to `most` is not refused; and what is not refused is one
pub code_zero : (b most : ℕ) → 1 ≤ b → b ≤ most → most ≤ 255 → code_of b most ≡ 0
code_zero b most h k l = rw (le-ltb 255 b (omega arith), ne_eqb b 0 (λ e. omega arith), le-ltb most b k) refl

pub code_range : (b most : ℕ) → code_of b most ≡ 0 → (b ≤ 255) × (1 ≤ b) × (b ≤ most)
code_range b most e = go (ltb 255 b) (eqb b 0) (ltb most b) refl refl refl e
  where
    go : (x y z : Bool) → ltb 255 b ≡ x → eqb b 0 ≡ y → ltb most b ≡ z → ◌≡◌ {A = ℕ} (cond x 1 (cond y 9 (cond z 9 0))) 0 → (b ≤ 255)
        × (1 ≤ b) × (b ≤ most)
    go true y z p q r c = not_zero 0 1 refl c
    go false true z p q r c = not_zero 8 9 refl c
    go false false true p q r c = not_zero 8 9 refl c
    go false false false p q r c =
        let n = eqb-false b 0 q in
        (ltb-false 255 b p, omega arith, ltb-false most b r)

-- the same of a key
T_true : (b : Bool) → T b → b ≡ true
T_true true t = refl
T_true false t = absurd t

pub key_zero : (k : ℕ) (last : Bool) → T (known k) → T (last || early k) → key_code k last ≡ 0
key_zero k last t u = rw (le-ltb 255 k (omega (arith, known_range k t)), T_true (known k) t) (go last (early k) u)
  where
    go : (a b : Bool) → T (a || b) → ◌≡◌ {A = ℕ} (cond a 0 (cond b 0 10)) 0
    go true b u = refl
    go false true u = refl
    go false false u = absurd u

pub key_known : (k : ℕ) (last : Bool) → key_code k last ≡ 0 → T (known k) × T (last || early k)
key_known k last e = go (ltb 255 k) (known k) refl last (early k) e
  where
    go : (x y : Bool) → known k ≡ y → (a b : Bool) → ◌≡◌ {A = ℕ} (cond x 1 (cond y (cond a 0 (cond b 0 10)) 9)) 0 → T y × T (a || b)
    go true y p a b c = not_zero 0 1 refl c
    go false true p true b c = (tt, tt)
    go false true p false true c = (tt, tt)
    go false true p false false c = not_zero 9 10 refl c
    go false false p a b c = not_zero 8 9 refl c

-- two bytes of 16 bits
pub two_bytes : (low high : ℕ) → low < 256 → high < 256 → ((low + 256 * high) % 256 ≡ low) × ((low + 256 * high) / 256 % 256 ≡ high)
two_bytes low high h k =
    let d = digits ((low + 256 * high) % 256) low ((low + 256 * high) / 256) high (omega arith) h (omega arith) in
    (d.0, rw d.1 (omega arith))

-- keys in a row: each is known, and each but the last may stand before it
module _ (s : List ℕ) where
  keys_zero : (ks : List ℕ) (i : ℕ) (rest : List ℕ) → drop i s ≡ ks ++ rest → T (all_known ks) → T (in_order ks) → keys_code (length ks) s i
      ≡ 0
  unfolding keys_code
  keys_zero [] i rest e k o = refl
  keys_zero (x ∷ []) i rest e k o =
      then_zero (key_code (get_or s i 256) true) 0 (rw (nth s i 0 i 256 (omega arith), e) (key_zero x true (and_left (known x) true k) tt)) refl
  keys_zero (x ∷ (y ∷ ks)) i rest e k o =
      let u = drop_next i x (y ∷ (ks ++ rest)) e in
      let n : eqb (suc (length ks)) 0 ≡ false = ne_eqb (suc (length ks)) 0 (λ z. omega arith) in
      then_zero (key_code (get_or s i 256) (eqb (suc (length ks)) 0)) (keys_code (suc (length ks)) s (i + 1))
      (rw (nth s i 0 i 256 (omega arith), e, n) (key_zero x false (and_left (known x) (known y && all_known ks) k)
      (and_left (early x) (in_order (y ∷ ks)) o)))
      (keys_zero (y ∷ ks) (i + 1) rest u (and_right (known x) (known y && all_known ks) k) (and_right (early x) (in_order (y ∷ ks)) o))
    where
      drop_next : (i x : ℕ) (l : List ℕ) → drop i s ≡ x ∷ l → drop (i + 1) s ≡ l
      drop_next i x l e = sym (drop-drop 1 i s) ∙ ap (drop 1) e

  -- a byte that does not read as 256 is there
  pub present : (i : ℕ) → get_or s i 256 ≤ 255 → i < length s
  present i h = go (dec_lt i (length s))
    where
      go : Dec (i < length s) → i < length s
      go (yes l) = l
      go (no l) = absurd (omega (arith, get_or_past s i 256 (omega arith)))

  -- the rest from a byte that is there
  pub drop_at : (i : ℕ) → i < length s → drop i s ≡ get_or s i 256 ∷ drop (i + 1) s
  drop_at i h = rw add-one (drop-cons s i 256 h)

  -- n legal keys from byte i on
  abbrev Keys : ℕ → ℕ → Type 0
  Keys n i = (ks : List ℕ) × (length ks ≡ n) × (drop i s ≡ ks ++ drop (i + n) s) × T (all_known ks) × T (in_order ks)

  one_more : (n i : ℕ) → T (known (get_or s i 256)) → T (eqb n 0 || early (get_or s i 256)) → Keys n (i + 1) → Keys (suc n) i
  one_more n i k o b = (
    get_or s i 256 ∷ b.0,
    ap suc b.1,
    drop_at i (present i (omega (arith, known_range (get_or s i 256) k)))
        ∙ ap (λ (l : List ℕ). get_or s i 256 ∷ l) b.2
        ∙ ap (λ (j : ℕ). get_or s i 256 ∷ (b.0 ++ drop j s)) (let e : i + 1 + n ≡ i + suc n = omega arith in e),
    and_both (known (get_or s i 256)) (all_known b.0) k b.3,
    ordered b.0 b.1 b.4,
  )
    where
      ordered : (ks : List ℕ) → length ks ≡ n → T (in_order ks) → T (in_order (get_or s i 256 ∷ ks))
      ordered [] e t = tt
      ordered (y ∷ ks) e t =
          and_both (early (get_or s i 256)) (in_order (y ∷ ks)) (subst (λ (b : Bool). T (b || early (get_or s i 256))) (ne_eqb n 0 (λ z. omega arith)) o) t

  keys_found : (n i : ℕ) → keys_code n s i ≡ 0 → Keys n i
  unfolding keys_code
  keys_found zero i e = ([], refl, ap (λ (j : ℕ). drop j s) (let p : i ≡ i + 0 = omega arith in p), tt, tt)
  keys_found (suc n) i e =
      let p = then_both (key_code (get_or s i 256) (eqb n 0)) (keys_code n s (i + 1)) e in
      let k = key_known (get_or s i 256) (eqb n 0) p.0 in
      one_more n i k.0 k.1 (keys_found n (i + 1) p.1)

  -- ACCEPTED KEY FIELDS ARE THOSE OF LEGAL KEYS
  pub key_fields_found : (i : ℕ) → key_fields_code s i ≡ 0
      → (ks : List ℕ) × T (legal_keys ks) × (length ks ≡ get_or s i 256) × (drop i s ≡ length ks ∷ (ks ++ drop (i + 1 + get_or s i 256) s))
  unfolding key_fields_code
  key_fields_found i e =
      let n : ℕ = get_or s i 256 in
      let p = then_both (code_of n 3) (keys_code n s (i + 1)) e in
      let r = code_range n 3 p.0 in
      let b = keys_found n (i + 1) p.1 in (
        b.0,
        keys_legal b.0 (omega (arith, b.1)) (omega (arith, b.1)) b.3 b.4,
        b.1,
        drop_at i (present i r.0) ∙ ap₂ (λ (a : ℕ) (t : List ℕ). a ∷ t) (sym b.1) b.2,
      )
    where
      keys_legal : (ks : List ℕ) → 1 ≤ length ks → length ks ≤ 3 → T (all_known ks) → T (in_order ks) → T (legal_keys ks)
      keys_legal ks a b k o =
          and_both (leb 1 (length ks) && leb (length ks) 3 && all_known ks) (in_order ks)
          (and_both (leb 1 (length ks) && leb (length ks) 3) (all_known ks)
          (and_both (leb 1 (length ks)) (leb (length ks) 3) (le→leb 1 (length ks) a) (le→leb (length ks) 3 b)) k) o

  -- THOSE OF LEGAL KEYS ARE ACCEPTED, and give their number
  module _ (ks : List ℕ) (legal : T (legal_keys ks)) (i : ℕ) (rest : List ℕ) (e : drop i s ≡ length ks ∷ (ks ++ rest)) where
    -- the count and the keys stand where they should, and what follows behind them
    pub key_count : (d : ℕ) → get_or s i d ≡ length ks
    key_count d = rw (nth s i 0 i d (omega arith), e) refl

    pub keys_there : drop (i + 1) s ≡ ks ++ rest
    keys_there = sym (drop-drop 1 i s) ∙ ap (drop 1) e

    pub behind_keys : drop (i + 1 + length ks) s ≡ rest
    behind_keys = sym (drop-drop (length ks) (i + 1) s) ∙ ap (drop (length ks)) keys_there ∙ drop-append_seam ks rest

    pub key_fields_accepted : key_fields_code s i ≡ 0
    unfolding key_fields_code
    key_fields_accepted =
        let p = legal_parts ks legal in
        let n = length ks in
        rw (key_count 256)
        (then_zero (code_of n 3) (keys_code n s (i + 1)) (code_zero n 3 (leb→le 1 n p.0) (leb→le n 3 p.1) (omega arith))
        (keys_zero ks (i + 1) rest keys_there p.2 p.3))

    pub keys_numbered : keys_at s i ≡ keys_number (length ks) (get_or ks 0 0) (get_or ks 1 0) (get_or ks 2 0)
    unfolding keys_at
    keys_numbered = rw (key_count 0) (go ks keys_there (legal_parts ks legal).0 (legal_parts ks legal).1)
      where
        key : (j k x : ℕ) → k ≡ i + 1 + j → (l : List ℕ) → drop (i + 1) s ≡ l → get_or l j 0 ≡ x → get_or s k 0 ≡ x
        key j k x p l q r = rw (nth s (i + 1) j k 0 p, q) r

        go : (ks : List ℕ) → drop (i + 1) s ≡ ks ++ rest → T (leb 1 (length ks)) → T (leb (length ks) 3)
            → keys_number (length ks) (get_or s (i + 1) 0) (used (length ks) 1 (get_or s (i + 2) 0)) (used (length ks) 2 (get_or s (i + 3) 0))
            ≡ keys_number (length ks) (get_or ks 0 0) (get_or ks 1 0) (get_or ks 2 0)
        go [] e a b = absurd a
        go (x ∷ []) e a b = rw (key 0 (i + 1) x (omega arith) _ e refl) refl
        go (x ∷ (y ∷ [])) e a b = rw (key 0 (i + 1) x (omega arith) _ e refl, key 1 (i + 2) y (omega arith) _ e refl) refl
        go (x ∷ (y ∷ (z ∷ []))) e a b =
            rw (key 0 (i + 1) x (omega arith) _ e refl, key 1 (i + 2) y (omega arith) _ e refl, key 2 (i + 3) z (omega arith) _ e refl) refl
        go (x ∷ (y ∷ (z ∷ (t ∷ ks)))) e a b = absurd (omega (arith, leb→le (suc (suc (suc (suc (length ks))))) 3 b))
