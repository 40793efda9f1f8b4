-- WHO IS IN A SET after it is emptied, filled, joined or given a member; the next member is the least; sets of the same members are the same words. Assumes
-- nothing.
use Prim.Native.Nat.{ℕ, zero, suc, ◌+◌, ◌-◌, ◌*◌, ◌/◌, ◌%◌, ◌^◌, ◌≤◌, ◌<◌, min}
use mathlib.Core.Path.{◌≡◌, refl, sym, ap, ◌∙◌}
use mathlib.Core.Bool.{Bool, true, false, cond, ◌&&◌, ◌||◌, false≢true}
use mathlib.Core.List.{List, [], ◌∷◌}
use native.Mathlib.Omega.{arith}
use native.Mathlib.Nat.{div-le_self, div-one, lt_of_le_of_lt}
use native.Mathlib.Decide.{ℕ_discrete, dec_lt}
use borrow.Author.Tests.{eq-eqb, ne_eqb, lt-ltb, le-ltb}
use lib.Bits.{bit_or}
use lib.Count.{count_trailing_zeros}
use lib.Pow.{shr-shr}
use lib.Dec.{eqb, ltb}
use lib.ListN.{length, get_or, set, replicate, length-set}
use lib.Seq.{sets, length-sets, get_or-set_same, get_or-set_other}
use Rattle.vertex_set.specs.Least.{some_below}
use Rattle.vertex_set.specs.Sets.{Met, above, digit, emptied, filled, inserted, joined, joined_chosen, member, next_member, ones, replaced}
use Rattle.vertex_set.specs.declared.Member.{Member}
use Rattle.vertex_set.proofs.Digits.{digit_high, digit_none, digit_ones, digit_or, digit_power, digit_shifted, trailing_low, trailing_lt}
use Rattle.vertex_set.proofs.Digits.{trailing_set}
use Rattle.vertex_set.proofs.Least.{Least, least_end, least_found, least_passed, least_unique}

or_false : (b : Bool) → b ≡ (b || false)
or_false true = refl
or_false false = refl

or_assoc : (a b c : Bool) → ((a || b) || c) ≡ (a || (b || c))
or_assoc true b c = refl
or_assoc false b c = refl

-- ---- a run of stores, read back

before : (vs l : List ℕ) (i j : ℕ) → j < i → get_or (sets l i vs) j 0 ≡ get_or l j 0
before [] l i j h = refl
before (a ∷ vs) l i j h = before vs (set l i a) (suc i) j (omega arith) ∙ get_or-set_other l i j a 0 (λ e. omega (arith, e))

behind : (vs l : List ℕ) (i j : ℕ) → i + length vs ≤ j → get_or (sets l i vs) j 0 ≡ get_or l j 0
behind [] l i j h = refl
behind (a ∷ vs) l i j h = behind vs (set l i a) (suc i) j (omega arith) ∙ get_or-set_other l i j a 0 (λ e. omega (arith, e))

among : (vs l : List ℕ) (i k : ℕ) → k < length vs → i + length vs ≤ length l → get_or (sets l i vs) (i + k) 0 ≡ get_or vs k 0
among [] l i k h g = absurd (omega arith)
among (a ∷ vs) l i zero h g =
    let e : i + 0 ≡ i = omega arith in rw e (before vs (set l i a) (suc i) i (omega arith) ∙ get_or-set_same l i a 0 (omega arith))
among (a ∷ vs) l i (suc k) h g =
    let e : i + suc k ≡ suc i + k = omega arith in
    rw e (among vs (set l i a) (suc i) k (omega arith) (simp length-set (omega arith)))

-- word k of four
of_four : (w : ℕ → ℕ) (k : ℕ) → k < 4 → get_or (w 0 ∷ w 1 ∷ w 2 ∷ w 3 ∷ []) k 0 ≡ w k
of_four w zero h = refl
of_four w (suc zero) h = refl
of_four w (suc (suc zero)) h = refl
of_four w (suc (suc (suc zero))) h = refl
of_four w (suc (suc (suc (suc k)))) h = absurd (omega arith)

-- ---- a new table, of zeros

zero_at : (n i : ℕ) → get_or {A = ℕ} (replicate n 0) i 0 ≡ 0
zero_at zero i = refl
zero_at (suc n) zero = refl
zero_at (suc n) (suc i) = zero_at n i

-- NO ONE IS IN A SET OF ZEROS
pub member_zeros : (n f v : ℕ) → member (replicate n 0) f v ≡ false
unfolding member
member_zeros n f v = ap (λ (w : ℕ). digit w (v % 64)) (zero_at n (4 * f + v / 64)) ∙ digit_none (v % 64)

-- ---- a set whose words are replaced

-- by four words one by one
pub replaced_by : (words : List ℕ) (f : ℕ) (w : ℕ → ℕ) {a b c d : ℕ} → a ≡ w 0 → b ≡ w 1 → c ≡ w 2 → d ≡ w 3
    → sets words (4 * f) (a ∷ b ∷ c ∷ d ∷ []) ≡ replaced words f w
unfolding replaced
replaced_by words f w p q r t = rw (p, q, r, t)

-- the table is as long as before
pub replaced_length : (words : List ℕ) (f : ℕ) (w : ℕ → ℕ) → length (replaced words f w) ≡ length words
unfolding replaced
replaced_length words f w = length-sets words (4 * f) (w 0 ∷ w 1 ∷ w 2 ∷ w 3 ∷ [])

-- and the members are those of the new words
pub member_replaced : (words : List ℕ) (f : ℕ) (w : ℕ → ℕ) (g v : ℕ) → v < 256 → 4 * f + 4 ≤ length words
    → member (replaced words f w) g v ≡ cond (eqb g f) (digit (w (v / 64)) (v % 64)) (member words g v)
unfolding member replaced
member_replaced words f w g v h room = go (ℕ_discrete g f)
  where
    word_other : (g ≡ f → ⊥) → Dec (g < f) → get_or (sets words (4 * f) (w 0 ∷ w 1 ∷ w 2 ∷ w 3 ∷ [])) (4 * g + v / 64) 0
        ≡ get_or words (4 * g + v / 64) 0
    word_other n (yes l) = before (w 0 ∷ w 1 ∷ w 2 ∷ w 3 ∷ []) words (4 * f) (4 * g + v / 64) (omega arith)
    word_other n (no l) = behind (w 0 ∷ w 1 ∷ w 2 ∷ w 3 ∷ []) words (4 * f) (4 * g + v / 64) (omega arith)

    go : Dec (g ≡ f) → digit (get_or (sets words (4 * f) (w 0 ∷ w 1 ∷ w 2 ∷ w 3 ∷ [])) (4 * g + v / 64) 0) (v % 64)
        ≡ cond (eqb g f) (digit (w (v / 64)) (v % 64)) (digit (get_or words (4 * g + v / 64) 0) (v % 64))
    go (yes e) =
        rw (eq-eqb g f e, e)
        (ap (λ (x : ℕ). digit x (v % 64)) (among (w 0 ∷ w 1 ∷ w 2 ∷ w 3 ∷ []) words (4 * f) (v / 64) (omega arith) (omega arith)
        ∙ of_four w (v / 64) (omega arith)))
    go (no n) = rw (ne_eqb g f n) (ap (λ (x : ℕ). digit x (v % 64)) (word_other n (dec_lt g f)))

-- those of a set by itself
lone_member : (l : List ℕ) (v : ℕ) → digit (get_or l (v / 64) 0) (v % 64) ≡ member l 0 v
unfolding member
lone_member l v = ap (λ (i : ℕ). digit (get_or l i 0) (v % 64)) (let e : v / 64 ≡ 4 * 0 + v / 64 = omega arith in e)

pub member_of_set : (words : List ℕ) (f : ℕ) (l : List ℕ) (v : ℕ) → v < 256 → 4 * f + 4 ≤ length words
    → member (replaced words f (λ k. get_or l k 0)) f v ≡ member l 0 v
member_of_set words f l v h room = member_replaced words f (λ k. get_or l k 0) f v h room ∙ rw (eq-eqb f f refl) (lone_member l v)

-- EMPTIED
pub member_emptied : (words : List ℕ) (f g v : ℕ) → v < 256 → 4 * f + 4 ≤ length words
    → member (emptied words f) g v ≡ cond (eqb g f) false (member words g v)
member_emptied words f g v h room = member_replaced words f (λ k. 0) g v h room ∙ rw (digit_none (v % 64))

-- ALL BELOW n
pub member_filled : (words : List ℕ) (f n g v : ℕ) → v < 256 → 4 * f + 4 ≤ length words
    → member (filled words f n) g v ≡ cond (eqb g f) (ltb v n) (member words g v)
member_filled words f n g v h room =
    member_replaced words f (λ k. ones (n - 64 * k)) g v h room
    ∙ ap (λ (b : Bool). cond (eqb g f) b (member words g v)) (digit_ones (min (n - 64 * (v / 64)) 64) (v % 64) ∙ go (dec_lt v n))
  where
    go : Dec (v < n) → ltb (v % 64) (min (n - 64 * (v / 64)) 64) ≡ ltb v n
    go (yes l) = lt-ltb (v % 64) (min (n - 64 * (v / 64)) 64) (omega arith) ∙ sym (lt-ltb v n l)
    go (no l) = le-ltb (v % 64) (min (n - 64 * (v / 64)) 64) (omega arith) ∙ sym (le-ltb v n (omega arith))

-- JOINED with set h of other words
pub member_joined : (words : List ℕ) (f : ℕ) (others : List ℕ) (h g v : ℕ) → v < 256 → 4 * f + 4 ≤ length words
    → member (joined words f others h) g v ≡ cond (eqb g f) (member words f v || member others h v) (member words g v)
unfolding member
member_joined words f others h g v l room =
    member_replaced words f (λ k. bit_or (get_or words (4 * f + k) 0) (get_or others (4 * h + k) 0)) g v l room
    ∙ ap (λ (b : Bool). cond (eqb g f) b (member words g v)) (digit_or (get_or words (4 * f + v / 64) 0) (get_or others (4 * h + v / 64) 0) (v % 64))

-- ---- the sets of the members of a set, joined

module _ (words : List ℕ) (f : ℕ) (chosen : List ℕ) (c : ℕ) (others : List ℕ) where
  -- a chosen set is joined, another is not
  pub chosen_more : (g : ℕ) → member chosen c g ≡ true
      → joined_chosen words f chosen c others (suc g) ≡ joined (joined_chosen words f chosen c others g) f others g
  unfolding joined_chosen
  chosen_more g e = rw e

  pub chosen_kept : (g : ℕ) → g < 256 → member chosen c g ≡ false → joined_chosen words f chosen c others (suc g)
      ≡ joined_chosen words f chosen c others g
  unfolding joined_chosen
  chosen_kept g h e = rw e

  pub chosen_length : (n : ℕ) → length (joined_chosen words f chosen c others n) ≡ length words
  unfolding joined_chosen
  chosen_length zero = refl
  chosen_length (suc n) = go (member chosen c n) (chosen_length n)
    where
      go : (b : Bool) → length (joined_chosen words f chosen c others n) ≡ length words
          → length (cond b (joined (joined_chosen words f chosen c others n) f others n) (joined_chosen words f chosen c others n)) ≡ length words
      go true e =
          replaced_length (joined_chosen words f chosen c others n) f
          (λ k. bit_or (get_or (joined_chosen words f chosen c others n) (4 * f + k) 0) (get_or others (4 * n + k) 0)) ∙ e
      go false e = e

  -- ALL CHOSEN SETS JOINED
  pub member_chosen : (n v : ℕ) → v < 256 → 4 * f + 4 ≤ length words
      → member (joined_chosen words f chosen c others n) f v ≡ (member words f v || some_below (λ g. member chosen c g && member others g v) n)
  unfolding joined_chosen some_below
  member_chosen zero v h room = or_false (member words f v)
  member_chosen (suc n) v h room = go (member chosen c n) (member_chosen n v h room)
    where
      go : (b : Bool) → member (joined_chosen words f chosen c others n) f v
          ≡ (member words f v || some_below (λ g. member chosen c g && member others g v) n)
          → member (cond b (joined (joined_chosen words f chosen c others n) f others n) (joined_chosen words f chosen c others n)) f v
          ≡ (member words f v || (some_below (λ g. member chosen c g && member others g v) n || (b && member others n v)))
      go true e =
          member_joined (joined_chosen words f chosen c others n) f others n f v h (rw (chosen_length n) room)
          ∙ rw (eq-eqb f f refl, e) (or_assoc (member words f v) (some_below (λ g. member chosen c g && member others g v) n) (member others n v))
      go false e = e ∙ ap (λ (b : Bool). member words f v || b) (or_false (some_below (λ g. member chosen c g && member others g v) n))

-- ---- one member more

-- the table is as long as before
pub inserted_length : (words : List ℕ) (f x : ℕ) → length (inserted words f x) ≡ length words
unfolding inserted
inserted_length words f x = length-set words (4 * f + x / 64) (bit_or (get_or words (4 * f + x / 64) 0) (2 ^ (x % 64)))

-- A MEMBER INSERTED
pub member_inserted : (words : List ℕ) (f x g v : ℕ) → x < 256 → v < 256 → 4 * f + 4 ≤ length words
    → member (inserted words f x) g v ≡ (member words g v || (eqb g f && eqb v x))
unfolding member inserted
member_inserted words f x g v hx hv room = go (ℕ_discrete (4 * g + v / 64) (4 * f + x / 64))
  where
    same_word : v / 64 ≡ x / 64 → eqb (v % 64) (x % 64) ≡ eqb v x
    same_word e = by (ℕ_discrete v x)
      where
        by : Dec (v ≡ x) → eqb (v % 64) (x % 64) ≡ eqb v x
        by (yes p) = rw p (eq-eqb (x % 64) (x % 64) refl ∙ sym (eq-eqb x x refl))
        by (no p) = ne_eqb (v % 64) (x % 64) (λ q. p (omega arith)) ∙ sym (ne_eqb v x p)

    else : (4 * g + v / 64 ≡ 4 * f + x / 64 → ⊥) → Dec (g ≡ f) → (eqb g f && eqb v x) ≡ false
    else n (yes e) = rw (eq-eqb g f e) (ne_eqb v x (λ p. n (ap (λ (y : ℕ). 4 * y + v / 64) e ∙ ap (λ (y : ℕ). 4 * f + y / 64) p)))
    else n (no e) = rw (ne_eqb g f e)

    go : Dec (4 * g + v / 64 ≡ 4 * f + x / 64)
        → digit (get_or (set words (4 * f + x / 64) (bit_or (get_or words (4 * f + x / 64) 0) (2 ^ (x % 64)))) (4 * g + v / 64) 0) (v % 64)
        ≡ (digit (get_or words (4 * g + v / 64) 0) (v % 64) || (eqb g f && eqb v x))
    go (yes e) =
        let p : g ≡ f = omega arith in
        let q : v / 64 ≡ x / 64 = omega arith in
        rw (e, get_or-set_same words (4 * f + x / 64) (bit_or (get_or words (4 * f + x / 64) 0) (2 ^ (x % 64))) 0 (omega arith), eq-eqb g f p)
        (digit_or (get_or words (4 * f + x / 64) 0) (2 ^ (x % 64)) (v % 64)
        ∙ ap (λ (b : Bool). digit (get_or words (4 * f + x / 64) 0) (v % 64) || b) (digit_power (x % 64) (v % 64) ∙ same_word q))
    go (no n) =
        rw (get_or-set_other words (4 * f + x / 64) (4 * g + v / 64) (bit_or (get_or words (4 * f + x / 64) 0) (2 ^ (x % 64))) 0 n, else n (ℕ_discrete g f))
        (or_false (digit (get_or words (4 * g + v / 64) 0) (v % 64)))

-- ---- the next member

-- THE NEXT MEMBER IS THE LEAST from i on; 256 where there is none
pub next_least : (words : List ℕ) (f i : ℕ) → i ≤ 256 → Least (member words f) 256 i (next_member words f i)
unfolding next_member
next_least words f i h = least_found (member words f) 256 i h

-- the vertex of digit b of word k
member_at : (words : List ℕ) (f k b : ℕ) → b < 64 → member words f (64 * k + b) ≡ digit (get_or words (4 * f + k) 0) b
unfolding member
member_at words f k b h =
    let p : (64 * k + b) / 64 ≡ k = omega arith in
    let q : (64 * k + b) % 64 ≡ b = omega arith in
    rw (p, q)

-- where the word k shifted down by a is 0, the search goes on at the next word
pub next_past : (words : List ℕ) (f k a : ℕ) → k < 4 → a < 64 → get_or words (4 * f + k) 0 / 2 ^ a ≡ 0 → next_member words f (64 * k + a)
    ≡ next_member words f (64 * (k + 1))
unfolding next_member
next_past words f k a h g z = least_passed (member words f) 256 (64 * k + a) (64 * (k + 1)) (omega arith) (omega arith) none
  where
    none : (x : ℕ) → 64 * k + a ≤ x → x < 64 * (k + 1) → member words f x ≡ false
    none x l m =
        let e : 64 * k + (a + (x - 64 * k - a)) ≡ x = omega arith in
        rw (← e) (member_at words f k (a + (x - 64 * k - a)) (omega arith) ∙ sym (digit_shifted _ a (x - 64 * k - a))
        ∙ rw z (digit_none (x - 64 * k - a)))

-- where it is not, the next member is at its lowest digit
module _ (words : List ℕ) (f k a : ℕ) (h : k < 4) (g : a < 64) (word t : ℕ) (there : word ≡ get_or words (4 * f + k) 0) (bound : word < 2 ^ 64)
    (some : word / 2 ^ a ≡ 0 → ⊥) (lowest : t ≡ count_trailing_zeros 64 (word / 2 ^ a)) where
  -- it is set
  set_here : digit word (a + t) ≡ true
  set_here =
      let small : word / 2 ^ a < 2 ^ 64 = lt_of_le_of_lt (div-le_self word (2 ^ a)) bound in
      sym (digit_shifted word a t) ∙ rw lowest (trailing_set 64 (word / 2 ^ a) (trailing_lt 64 (word / 2 ^ a) small some))

  -- so it is one of 64
  inside : Dec (a + t < 64) → a + t < 64
  inside (yes l) = l
  inside (no l) = absurd (false≢true (sym (digit_high word 64 (a + t) bound (omega arith)) ∙ set_here))

  none : (x : ℕ) → 64 * k + a ≤ x → x < 64 * k + a + t → member words f x ≡ false
  none x l m =
      let e : 64 * k + (a + (x - 64 * k - a)) ≡ x = omega arith in
      let low : x - 64 * k - a < count_trailing_zeros 64 (word / 2 ^ a) = omega (arith, lowest) in
      rw (← e)
      (member_at words f k (a + (x - 64 * k - a)) (omega (arith, inside (dec_lt (a + t) 64)))
      ∙ rw (← there) (sym (digit_shifted word a (x - 64 * k - a)) ∙ trailing_low 64 (word / 2 ^ a) (x - 64 * k - a) low))

  pub next_here : 64 * k + a + t ≡ next_member words f (64 * k + a)
  unfolding next_member
  next_here =
      let here = inside (dec_lt (a + t) 64) in
      let e : 64 * k + (a + t) ≡ 64 * k + a + t = omega arith in
      least_unique (member words f) 256 (64 * k + a) (64 * k + a + t)
      record {
        from = omega arith;
        most = omega arith;
        passes = λ l. rw (← e)
            (member_at words f k (a + t) here ∙ rw (← there) set_here);
        none_before = none;
      }

  -- the digits above it
  pub above_here : word / 2 ^ a / 2 ^ (t + 1) ≡ above words f (64 * k + a + t)
  above_here =
      let here = inside (dec_lt (a + t) 64) in
      let p : (64 * k + a + t) / 64 ≡ k = omega (arith, here) in
      let q : a + (t + 1) ≡ (64 * k + a + t) % 64 + 1 = omega (arith, here) in
      shr-shr word a (t + 1) ∙ rw (p, ← q, there)

-- WHERE A WORD HAS A DIGIT, from its digit a on, the lowest is the next member
pub met_here : (words : List ℕ) (f k a : ℕ) → k < 4 → a < 64 → get_or words (4 * f + k) 0 < 2 ^ 64 → (rest : ℕ) → rest ≡ get_or words (4 * f +
    k) 0 / 2 ^ a
    → (rest ≡ 0 → ⊥) → (m : Member) → m.vertex ≡ 64 * k + a + count_trailing_zeros 64 rest → m.above
    ≡ rest / 2 ^ (count_trailing_zeros 64 rest + 1)
    → Met words f (64 * k + a) m
met_here words f k a h g bound rest e some m v r =
    let w = get_or words (4 * f + k) 0 in
    let t = count_trailing_zeros 64 rest in
    let nonzero : w / 2 ^ a ≡ 0 → ⊥ = λ z. some (e ∙ z) in
    record {
      vertex_is = v ∙ next_here words f k a h g w t refl bound nonzero (ap (count_trailing_zeros 64) e);
      above_is = λ l.
          r ∙ ap (λ (x : ℕ). x / 2 ^ (t + 1)) e ∙ above_here words f k a h g w t refl bound nonzero (ap (count_trailing_zeros 64) e)
          ∙ ap (above words f)
          (sym v);
    }

-- from another vertex, where the next member is the same
pub met_from : (words : List ℕ) (f i j : ℕ) (m : Member) → next_member words f i ≡ next_member words f j → Met words f i m → Met words f j m
met_from words f i j m e p = record { vertex_is = p.vertex_is ∙ e; above_is = p.above_is }

-- WHAT A LOOP OVER THE MEMBERS CITES
pub met_least : (words : List ℕ) (f i : ℕ) → i ≤ 256 → (m : Member) → Met words f i m → Least (member words f) 256 i m.vertex
met_least words f i h m p = rw p.vertex_is (next_least words f i h)

-- the last digit of a word has none above it
pub last_digit : (words : List ℕ) (f v : ℕ) → get_or words (4 * f + v / 64) 0 < 2 ^ 64 → (above words f v ≡ 0 → ⊥) → v % 64 + 1 < 64
last_digit words f v bound some = go (ℕ_discrete (v % 64 + 1) 64)
  where
    go : Dec (v % 64 + 1 ≡ 64) → v % 64 + 1 < 64
    go (yes e) = absurd (some (ap (λ (a : ℕ). get_or words (4 * f + v / 64) 0 / 2 ^ a) e ∙ omega (arith, bound)))
    go (no n) = omega (arith, n)

-- where there is none above v, the search goes on at the next word
pub none_above : (words : List ℕ) (f v : ℕ) → v < 256 → above words f v ≡ 0 → next_member words f (64 * (v / 64 + 1)) ≡ next_member words f (v +
    1)
none_above words f v h z = go (ℕ_discrete (v % 64 + 1) 64)
  where
    go : Dec (v % 64 + 1 ≡ 64) → next_member words f (64 * (v / 64 + 1)) ≡ next_member words f (v + 1)
    go (yes e) = ap (next_member words f) (let q : 64 * (v / 64 + 1) ≡ v + 1 = omega (arith, e) in q)
    go (no n) =
        let e : 64 * (v / 64) + (v % 64 + 1) ≡ v + 1 = omega arith in
        sym (rw e at (next_past words f (v / 64) (v % 64 + 1) (omega arith) (omega (arith, n)) z))

-- a whole word without one is passed over
pub next_word : (words : List ℕ) (f k : ℕ) → k < 4 → get_or words (4 * f + k) 0 ≡ 0 → next_member words f (64 * k)
    ≡ next_member words f (64 * (k + 1))
next_word words f k h z =
    let e : 64 * k + 0 ≡ 64 * k = omega arith in rw e at (next_past words f k 0 h (omega arith) (div-one (get_or words (4 * f + k) 0) ∙ z))

-- from 256 on there is none
pub next_end : (words : List ℕ) (f : ℕ) → next_member words f 256 ≡ 256
unfolding next_member
next_end words f = least_end (member words f) 256

-- ---- WHAT A STORE ELSEWHERE LEAVES: a table may hold other words behind its sets

pub replaced_other : (words : List ℕ) (f : ℕ) (w : ℕ → ℕ) (k : ℕ) → 4 * f + 4 ≤ k → get_or (replaced words f w) k 0 ≡ get_or words k 0
unfolding replaced
replaced_other words f w k h = behind (w 0 ∷ w 1 ∷ w 2 ∷ w 3 ∷ []) words (4 * f) k h

pub inserted_other : (words : List ℕ) (f x k : ℕ) → x < 256 → 4 * f + 4 ≤ k → get_or (inserted words f x) k 0 ≡ get_or words k 0
unfolding inserted
inserted_other words f x k l h = get_or-set_other words (4 * f + x / 64) k _ 0 (λ e. omega (arith, e))

pub member_stored : (words : List ℕ) (k y f v : ℕ) → v < 256 → 4 * f + 4 ≤ k → member (set words k y) f v ≡ member words f v
unfolding member
member_stored words k y f v l h = ap (λ (w : ℕ). digit w (v % 64)) (get_or-set_other words k (4 * f + v / 64) y 0 (λ e. omega (arith, e)))

-- the digits above a vertex, where a later set gets a member
pub above_inserted : (words : List ℕ) (f x g v : ℕ) → v < 256 → g < f → above (inserted words f x) g v ≡ above words g v
unfolding inserted
above_inserted words f x g v l h =
    ap (λ (w : ℕ). w / 2 ^ (v % 64 + 1)) (get_or-set_other words (4 * f + x / 64) (4 * g + v / 64) _ 0 (λ e. omega (arith, e)))
