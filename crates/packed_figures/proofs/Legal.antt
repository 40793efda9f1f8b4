-- Rules of the keys and of the legal lists of keys, each proved once for all of them by a test that is computed. Assumes nothing.
use Prim.Native.Nat.{ℕ, zero, suc, ◌-◌, ◌/◌, ◌^◌, ◌≤◌}
use mathlib.Core.Path.{◌≡◌, refl}
use mathlib.Core.Bool.{Bool, true, false, cond, not, ◌&&◌, ◌||◌}
use mathlib.Core.List.{List, [], ◌∷◌}
use native.Mathlib.Omega.{arith}
use borrow.Author.Tests.{ne_eqb}
use lib.Bits.{bit_and, and_le_r}
use lib.Dec.{T, eqb, leb, leb→le, ltb, ltb→lt}
use lib.ListN.{length}
use Rattle.walks.specs.Lists.{All}
use Rattle.walks.specs.Keys.{all_known, in_order, kept, key_row, known, legal_keys, measure}
use Rattle.walks.specs.declared.Extreme.TheVariants.{Least}
use Rattle.walks.proofs.Tests.{and_left, and_right}
use Rattle.packed_figures.specs.declared.PathConstants.{PathConstants}
use Rattle.packed_figures.specs.Packed.{Sound, bits, constants, distinct, figure_of, shift_of, total, width, without}

-- a number is one of the six keys or none
by_number : (P : ℕ → Type 0) → P 0 → P 1 → P 2 → P 3 → P 4 → P 5 → P 6 → ((k : ℕ) → P (suc (suc (suc (suc (suc (suc (suc k))))))))
    → (k : ℕ) → P k
by_number P z a b c d e f g zero = z
by_number P z a b c d e f g (suc zero) = a
by_number P z a b c d e f g (suc (suc zero)) = b
by_number P z a b c d e f g (suc (suc (suc zero))) = c
by_number P z a b c d e f g (suc (suc (suc (suc zero)))) = d
by_number P z a b c d e f g (suc (suc (suc (suc (suc zero))))) = e
by_number P z a b c d e f g (suc (suc (suc (suc (suc (suc zero)))))) = f
by_number P z a b c d e f g (suc (suc (suc (suc (suc (suc (suc k))))))) = g k

too_large : (k : ℕ) → T (known (suc (suc (suc (suc (suc (suc (suc k)))))))) → ⊥
too_large k t = let n = suc (suc (suc (suc (suc (suc (suc k)))))) in omega (arith, leb→le n 6 (and_right (leb 1 n) (leb n 6) t))

-- what holds of the six holds of each known key
pub by_key : (P : ℕ → Type 0) → P 1 → P 2 → P 3 → P 4 → P 5 → P 6 → (k : ℕ) → T (known k) → P k
by_key P a b c d e f =
    by_number (λ k. T (known k) → P k) absurd (λ t. a) (λ t. b) (λ t. c) (λ t. d) (λ t. e) (λ t. f) (λ k t. absurd (too_large k t))

-- a key by its number, as the program goes: what is left after some of them
pub other_width : (k : ℕ) → (k ≡ 2 → ⊥) → (k ≡ 3 → ⊥) → (k ≡ 4 → ⊥) → (k ≡ 5 → ⊥) → (k ≡ 6 → ⊥)
    → width (measure k) ≡ 10
unfolding key_row
other_width =
    by_number (λ k. (k ≡ 2 → ⊥) → (k ≡ 3 → ⊥) → (k ≡ 4 → ⊥) → (k ≡ 5 → ⊥) → (k ≡ 6 → ⊥) → width (measure k) ≡ 10)
    (λ a b c d e. refl)
    (λ a b c d e. refl)
    (λ a b c d e. absurd (a refl))
    (λ a b c d e. absurd (b refl))
    (λ a b c d e. absurd (c refl))
    (λ a b c d e. absurd (d refl))
    (λ a b c d e. absurd (e refl))
    (λ k a b c d e. refl)

pub other_kept : (k : ℕ) → (k ≡ 4 → ⊥) → (k ≡ 5 → ⊥) → kept k ≡ Least
unfolding key_row
other_kept =
    by_number (λ k. (k ≡ 4 → ⊥) → (k ≡ 5 → ⊥) → kept k ≡ Least)
    (λ a b. refl) (λ a b. refl) (λ a b. refl) (λ a b. refl) (λ a b. absurd (a refl)) (λ a b. absurd (b refl)) (λ a b. refl) (λ k a b. refl)

-- a test that all of them pass, as each does
abbrev every : (ℕ → Bool) → List ℕ → Bool
every f [] = true
every f (k ∷ ks) = f k && every f ks

abbrev six : (ℕ → Bool) → Bool
six f = every f (1 ∷ 2 ∷ 3 ∷ 4 ∷ 5 ∷ 6 ∷ [])

every_all : (f : ℕ → Bool) (ks : List ℕ) → T (every f ks) → All (λ k. T (f k)) ks
every_all f [] t = tt
every_all f (k ∷ ks) t = (and_left (f k) (every f ks) t, every_all f ks (and_right (f k) (every f ks) t))

six_at : (f : ℕ → Bool) → T (six f) → (k : ℕ) → T (known k) → T (f k)
six_at f t =
    let h = every_all f (1 ∷ 2 ∷ 3 ∷ 4 ∷ 5 ∷ 6 ∷ []) t in
    by_key (λ k. T (f k)) h.0 h.1.0 h.1.1.0 h.1.1.1.0 h.1.1.1.1.0 h.1.1.1.1.1.0

-- a test that all legal lists of keys pass, as each does
abbrev legally : (List ℕ → Bool) → List ℕ → Bool
legally f ks = not (legal_keys ks) || f ks

legally_at : (f : List ℕ → Bool) (ks : List ℕ) → T (legally f ks) → T (legal_keys ks) → T (f ks)
legally_at f ks = go (legal_keys ks)
  where
    go : (b : Bool) → T (not b || f ks) → T b → T (f ks)
    go true t u = t
    go false t u = absurd u

-- what a legal list of keys is
legal_parts : (ks : List ℕ) → T (legal_keys ks) → T (leb (length ks) 3) × T (all_known ks) × T (in_order ks)
legal_parts ks t =
    let a = and_left (leb 1 (length ks) && leb (length ks) 3 && all_known ks) (in_order ks) t in
    let b = and_left (leb 1 (length ks) && leb (length ks) 3) (all_known ks) a in (
      and_right (leb 1 (length ks)) (leb (length ks) 3) b,
      and_right (leb 1 (length ks) && leb (length ks) 3) (all_known ks) a,
      and_right (leb 1 (length ks) && leb (length ks) 3 && all_known ks) (in_order ks) t,
    )

pub legal_known : (ks : List ℕ) → T (legal_keys ks) → T (all_known ks)
legal_known ks t = (legal_parts ks t).1

pub legal_order : (ks : List ℕ) → T (legal_keys ks) → T (in_order ks)
legal_order ks t = (legal_parts ks t).2

each_legal : (f : List ℕ → Bool) → T (six (λ a. legally f (a ∷ []))) → T (six (λ a. six (λ b. legally f (a ∷ b ∷ []))))
    → T (six (λ a. six (λ b. six (λ c. legally f (a ∷ b ∷ c ∷ []))))) → (ks : List ℕ) → T (legal_keys ks) → T (f ks)
each_legal f p q r [] t = absurd t
each_legal f p q r (a ∷ []) t = legally_at f (a ∷ []) (six_at (λ a. legally f (a ∷ [])) p a (and_left (known a) _ (legal_known (a ∷ []) t))) t
each_legal f p q r (a ∷ (b ∷ [])) t =
    let k = legal_known (a ∷ b ∷ []) t in
    legally_at f (a ∷ b ∷ [])
    (six_at (λ b. legally f (a ∷ b ∷ [])) (six_at (λ a. six (λ b. legally f (a ∷ b ∷ []))) q a (and_left (known a) _ k))
    b (and_left (known b) _ (and_right (known a) _ k))) t
each_legal f p q r (a ∷ (b ∷ (c ∷ []))) t =
    let k = legal_known (a ∷ b ∷ c ∷ []) t in
    legally_at f (a ∷ b ∷ c ∷ [])
    (six_at (λ c. legally f (a ∷ b ∷ c ∷ []))
    (six_at (λ b. six (λ c. legally f (a ∷ b ∷ c ∷ [])))
    (six_at (λ a. six (λ b. six (λ c. legally f (a ∷ b ∷ c ∷ [])))) r a (and_left (known a) _ k)) b (and_left (known b) _ (and_right (known a) _ k)))
    c (and_left (known c) _ (and_right (known b) _ (and_right (known a) _ k)))) t
each_legal f p q r (a ∷ (b ∷ (c ∷ (d ∷ ks)))) t = absurd
    (omega (arith, leb→le (length (a ∷ b ∷ c ∷ d ∷ ks)) 3 (legal_parts (a ∷ b ∷ c ∷ d ∷ ks) t).0))

-- ALL LEGAL LISTS OF KEYS FIT 52 BITS
pub legal_bits : (ks : List ℕ) → T (legal_keys ks) → bits (distinct ks) ≤ 52
unfolding key_row bits distinct without
legal_bits ks t = leb→le (bits (distinct ks)) 52 (each_legal (λ ks. leb (bits (distinct ks)) 52) tt tt tt ks t)

-- what is added to words is small
abbrev sound : PathConstants → Bool
sound c =
    leb c.edges 4398046511104
    && (leb c.weight 67108864
    && (leb c.up 4398046511104
    && (leb c.down 4398046511104 && (leb c.base 65535 && (ltb c.shift 64
    && (leb c.mask 67108863 && (leb c.flip 67108863 && ((eqb c.flip 0 || leb c.mask c.flip)
    && (c.weighs || leb c.weight 0)))))))))

flip_right : (a b : ℕ) → T (eqb a 0 || leb b a) → (a ≡ 0 → ⊥) → b ≤ a
flip_right a b t n = leb→le b a (rw (ne_eqb a 0 n) at t)

weighs_right : (a : Bool) (b : ℕ) → T (a || leb b 0) → a ≡ false → b ≡ 0
weighs_right a b t e = let h : b ≤ 0 = leb→le b 0 (rw e at t) in omega arith

sound_of : (c : PathConstants) → T (sound c) → Sound c
sound_of c t =
    let u1 = and_right (leb c.edges 4398046511104) _ t in
    let u2 = and_right (leb c.weight 67108864) _ u1 in
    let u3 = and_right (leb c.up 4398046511104) _ u2 in
    let u4 = and_right (leb c.down 4398046511104) _ u3 in
    let u5 = and_right (leb c.base 65535) _ u4 in
    let u6 = and_right (ltb c.shift 64) _ u5 in
    let u7 = and_right (leb c.mask 67108863) _ u6 in
    let u8 = and_right (leb c.flip 67108863) _ u7 in
    record {
      edges_fit = leb→le _ _ (and_left (leb c.edges 4398046511104) _ t);
      weight_fits = leb→le _ _ (and_left (leb c.weight 67108864) _ u1);
      weighs_right = weighs_right c.weighs c.weight (and_right (eqb c.flip 0 || leb c.mask c.flip) _ u8);
      up_fits = leb→le _ _ (and_left (leb c.up 4398046511104) _ u2);
      down_fits = leb→le _ _ (and_left (leb c.down 4398046511104) _ u3);
      base_fits = leb→le _ _ (and_left (leb c.base 65535) _ u4);
      shift_fits = ltb→lt _ _ (and_left (ltb c.shift 64) _ u5);
      mask_fits = leb→le _ _ (and_left (leb c.mask 67108863) _ u6);
      flip_small = leb→le _ _ (and_left (leb c.flip 67108863) _ u7);
      flip_fits = flip_right c.flip c.mask (and_left (eqb c.flip 0 || leb c.mask c.flip) _ u8);
    }

pub legal_sound : (ks : List ℕ) → T (legal_keys ks) → Sound (constants ks)
unfolding key_row bits distinct without total shift_of constants
legal_sound ks t = sound_of (constants ks) (each_legal (λ ks. sound (constants ks)) tt tt tt ks t)

-- so is a value, whatever the word
pub figure_small : (c : PathConstants) → Sound c → (x : ℕ) → figure_of c x ≤ 67108863
unfolding figure_of
figure_small c h x = go (eqb c.flip 0)
  where
    go : (b : Bool) → cond b (bit_and (x / 2 ^ c.shift) c.mask) (c.flip - bit_and (x / 2 ^ c.shift) c.mask) ≤ 67108863
    go true = omega (arith, and_le_r (x / 2 ^ c.shift) c.mask, h.mask_fits)
    go false = omega (arith, h.flip_small)
