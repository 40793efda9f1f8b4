-- The sources of a path reduction in bytes: one start or anywhere, and sets of starts. Those of legal ones are accepted and give their numbers, and accepted
-- bytes are those of legal ones. Assumes nothing.
use Prim.Native.Nat.{ℕ, zero, suc, ◌+◌, ◌*◌, ◌/◌, ◌%◌, ◌≤◌, ◌<◌, min}
use mathlib.Core.Path.{◌≡◌, refl, sym, ap, ap₂, ◌∙◌, subst}
use mathlib.Core.Bool.{Bool, true, false, cond}
use mathlib.Core.List.{List, [], ◌∷◌, ◌++◌}
use native.Mathlib.Omega.{arith}
use borrow.Author.Tests.{eqb-true, le-ltb, lt-ltb, ltb-false, ltb-true, ne_eqb}
use lib.Dec.{T, leb, ltb, eqb, leb→le, le→leb}
use lib.ListN.{length, get_or, drop}
use lib.Seq.{drop-drop}
use Rattle.meaning.specs.Limits.{SourcesFit, rising}
use Rattle.walks.specs.Lists.{All}
use Rattle.walks.proofs.Tests.{and_both, and_left, and_right}
use Rattle.wire.specs.Wire.{Bytes, le16}
use Rattle.wire.proofs.Codes.{then_both, then_zero}
use Rattle.fields.specs.Fields.{source_code}
use Rattle.packed_path.specs.Packed.{with_sources}
use Rattle.packed_path.proofs.Sources.{sources_more}
use Rattle.path_fields.specs.Paths.{counted_sources, one_source, sources_at, start_code, starts_code}
use Rattle.term_text.specs.Text.{start_of, starts_bytes}
use Rattle.term_text.specs.Tree.{one_start, starts_of}
use Rattle.term_text.proofs.Fields.{drop_at, not_zero, nth, present}

-- ---- one start, or anywhere

-- at most one source
abbrev pub Single : List ℕ → Type 0
Single ss = SourcesFit 256 ss × (length ss ≤ 1)

-- a legal start has 16 bits, is accepted, and is seen from its number
module _ (ss : List ℕ) (f : Single ss) where
  pub start_small : start_of ss < 65536
  start_small = go ss f.0.0
    where
      go : (ss : List ℕ) → All (λ s. s < 256) ss → start_of ss < 65536
      go [] h = omega arith
      go (s ∷ ss) h = let below : s < 256 = h.0 in omega arith

  pub start_zero : source_code (start_of ss % 256) (start_of ss / 256 % 256) ≡ 0
  start_zero = go ss f.0.0
    where
      go : (ss : List ℕ) → All (λ s. s < 256) ss → source_code (start_of ss % 256) (start_of ss / 256 % 256) ≡ 0
      go [] h = refl
      go (s ∷ ss) h =
          let below : s < 256 = h.0 in
          let l : s % 256 ≡ s = omega arith in
          let m : s / 256 % 256 ≡ 0 = omega arith in
          rw (l, m, lt-ltb (s + 256 * 0) 256 (omega arith)) refl

  pub start_back : one_start (start_of ss) ≡ ss
  start_back = go ss f.0.0 f.1
    where
      go : (ss : List ℕ) → All (λ s. s < 256) ss → length ss ≤ 1 → one_start (start_of ss) ≡ ss
      go [] h l = refl
      go (s ∷ []) h l = let below : s < 256 = h.0 in rw (ne_eqb s 65535 (λ e. omega arith)) refl
      go (s ∷ (t ∷ ss)) h l = absurd (omega arith)

  pub start_numbered : (keys : ℕ) → one_source keys (start_of ss) ≡ with_sources keys ss
  unfolding one_source
  start_numbered keys = go ss f.0.0 f.1
    where
      go : (ss : List ℕ) → All (λ s. s < 256) ss → length ss ≤ 1
          → record {
            keys = keys;
            count = cond (eqb (start_of ss) 65535) 0 1;
            low = cond (eqb (start_of ss) 65535) 0 (start_of ss);
            high = 0;
          } ≡ with_sources keys ss
      go [] h l = refl
      go (s ∷ []) h l =
          let below : s < 256 = h.0 in
          let low : s ≡ (s + 256 * 0) % 18446744073709551616 = omega arith in
          let high : 0 ≡ (s + 256 * 0) / 18446744073709551616 = omega arith in
          rw (ne_eqb s 65535 (λ e. omega arith)) (λ i. record { keys = keys; count = 1; low = low i; high = high i })
      go (s ∷ (t ∷ ss)) h l = absurd (omega arith)

-- an accepted start is one
pub start_found : (low high : ℕ) → source_code low high ≡ 0
    → (high ≤ 255) × ((ss : List ℕ) × Single ss × (start_of ss ≡ low + 256 * high))
start_found low high e = go (ltb 255 high) (ltb (low + 256 * high) 256) (eqb (low + 256 * high) 65535) refl refl refl e
  where
    go : (x y z : Bool) → ltb 255 high ≡ x → ltb (low + 256 * high) 256 ≡ y → eqb (low + 256 * high) 65535 ≡ z
        → ◌≡◌ {A = ℕ} (cond x 1 (cond y 0 (cond z 0 13))) 0
        → (high ≤ 255) × ((ss : List ℕ) × Single ss × (start_of ss ≡ low + 256 * high))
    go true y z p q r c = not_zero 0 1 refl c
    go false true z p q r c =
        let x = low + 256 * high in
        let rises = and_both (leb 0 x) true (le→leb 0 x (omega arith)) tt in
        (ltb-false 255 high p, (x ∷ [], (((ltb-true x 256 q, tt), rises, omega arith), omega arith), refl))
    go false false true p q r c = (ltb-false 255 high p, ([], ((tt, tt, omega arith), omega arith), sym (eqb-true (low + 256 * high) 65535 r)))
    go false false false p q r c = not_zero 12 13 refl c

-- ---- sets

-- two bytes each
pub starts_size : (ss : List ℕ) → length (starts_bytes ss) ≡ 2 * length ss
starts_size [] = refl
starts_size (s ∷ ss) = omega (arith, starts_size ss)

-- an accepted start of a set, and back
start_fine : (least x : ℕ) → x < 256 → least ≤ x → start_code least (x % 256) (x / 256 % 256) ≡ 0
start_fine least x h k =
    let l : x % 256 ≡ x = omega arith in
    let m : x / 256 % 256 ≡ 0 = omega arith in
    rw (l, m, lt-ltb (x + 256 * 0) 256 (omega arith), le-ltb x least k) refl

start_range : (least low high : ℕ) → start_code least low high ≡ 0 → (high ≤ 255) × (low + 256 * high < 256) × (least ≤ low)
start_range least low high e = go (ltb 255 high) (ltb (low + 256 * high) 256) (ltb low least) refl refl refl e
  where
    go : (x y z : Bool) → ltb 255 high ≡ x → ltb (low + 256 * high) 256 ≡ y → ltb low least ≡ z
        → ◌≡◌ {A = ℕ} (cond x 1 (cond y (cond z 17 0) 13)) 0
        → (high ≤ 255) × (low + 256 * high < 256) × (least ≤ low)
    go true y z p q r c = not_zero 0 1 refl c
    go false true true p q r c = not_zero 16 17 refl c
    go false true false p q r c = (ltb-false 255 high p, ltb-true (low + 256 * high) 256 q, ltb-false low least r)
    go false false z p q r c = not_zero 12 13 refl c

-- the first of starts that stand at i, and where the others stand
module _ (s : List ℕ) where
  first_there : (x i : ℕ) (l : List ℕ) → drop i s ≡ le16 x ++ l → (d : ℕ) → (get_or s i d ≡ x % 256) × (get_or s (i + 1) d ≡ x / 256 % 256)
  first_there x i l e d = (rw (nth s i 0 i d (omega arith), e) refl, rw (nth s i 1 (i + 1) d refl, e) refl)

  others_there : (x i : ℕ) (l : List ℕ) → drop i s ≡ le16 x ++ l → drop (i + 2) s ≡ l
  others_there x i l e = sym (drop_two i) ∙ ap (drop 2) e
    where
      drop_two : (i : ℕ) → drop 2 (drop i s) ≡ drop (i + 2) s
      drop_two i = drop-drop 2 i s

  -- RISING STARTS ARE ACCEPTED
  pub starts_zero : (ss : List ℕ) (least i : ℕ) (rest : List ℕ) → drop i s ≡ starts_bytes ss ++ rest → All (λ x. x < 256) ss
      → T (rising least ss)
      → starts_code (length ss) least s i ≡ 0
  unfolding starts_code
  starts_zero [] least i rest e h r = refl
  starts_zero (x ∷ ss) least i rest e h r =
      let b = first_there x i (starts_bytes ss ++ rest) e 256 in
      let below : x < 256 = h.0 in
      let low : x % 256 ≡ x = omega arith in
      let next : x + 1 ≡ suc x = omega arith in
      rw (b.0, b.1)
      (then_zero (start_code least (x % 256) (x / 256 % 256)) (starts_code (length ss) (x % 256 + 1) s (i + 2))
      (start_fine least x below (leb→le least x (and_left (leb least x) (rising (suc x) ss) r)))
      (rw (low, next)
      (starts_zero ss (suc x) (i + 2) rest (others_there x i (starts_bytes ss ++ rest) e) h.1 (and_right (leb least x) (rising (suc x) ss) r))))

  -- and give their numbers
  pub starts_numbered : (keys : ℕ) (ss : List ℕ) (i : ℕ) (rest : List ℕ) → drop i s ≡ starts_bytes ss ++ rest → All (λ x. x < 256) ss
      → length ss ≤ 16 → sources_at keys (length ss) s i ≡ with_sources keys ss
  unfolding sources_at
  starts_numbered keys [] i rest e h l = refl
  starts_numbered keys (x ∷ ss) i rest e h l =
      let b = first_there x i (starts_bytes ss ++ rest) e 0 in
      let below : x < 256 = h.0 in
      let low : x % 256 ≡ x = omega arith in
      let others = starts_numbered keys ss (i + 2) rest (others_there x i (starts_bytes ss ++ rest) e) h.1 (omega arith) in
      rw (b.0, low, others) (sources_more keys x ss below h.1 (omega arith))

  -- behind their count
  pub set_numbers : (keys : ℕ) (ss : List ℕ) (i : ℕ) (rest : List ℕ) → drop i s ≡ length ss ∷ (starts_bytes ss ++ rest) → SourcesFit 256 ss
      → counted_sources keys s i ≡ with_sources keys ss
  unfolding counted_sources
  set_numbers keys ss i rest e f =
      let count : get_or s i 0 ≡ length ss = rw (nth s i 0 i 0 (omega arith), e) refl in
      let few : min (length ss) 16 ≡ length ss = omega (arith, f.2) in
      rw (count, few) (starts_numbered keys ss (i + 1) rest (sym (drop-drop 1 i s) ∙ ap (drop 1) e) f.0 f.2)

  -- and come back as they are
  pub starts_back : (ss : List ℕ) (i : ℕ) (rest : List ℕ) → drop i s ≡ starts_bytes ss ++ rest → All (λ x. x < 256) ss
      → starts_of (length ss) s i ≡ ss
  unfolding starts_of
  starts_back [] i rest e h = refl
  starts_back (x ∷ ss) i rest e h =
      let b = first_there x i (starts_bytes ss ++ rest) e 0 in
      let below : x < 256 = h.0 in
      let whole : x % 256 + 256 * (x / 256 % 256) ≡ x = omega arith in
      rw (b.0, b.1, whole) (ap (λ (l : List ℕ). x ∷ l) (starts_back ss (i + 2) rest (others_there x i (starts_bytes ss ++ rest) e) h.1))

  -- WHAT IS ACCEPTED ARE RISING STARTS
  pub starts_found : Bytes s → (k least i : ℕ) → starts_code k least s i ≡ 0
      → (ss : List ℕ) × (length ss ≡ k) × All (λ x. x < 256) ss × T (rising least ss) × (drop i s ≡ starts_bytes ss ++ drop (i + 2 * k) s)
  unfolding starts_code
  starts_found bytes zero least i e = ([], refl, tt, tt, ap (λ (j : ℕ). drop j s) (let p : i ≡ i + 2 * 0 = omega arith in p))
  starts_found bytes (suc k) least i e =
      let low : ℕ = get_or s i 256 in
      let high : ℕ = get_or s (i + 1) 256 in
      let p = then_both (start_code least low high) (starts_code k (low + 1) s (i + 2)) e in
      let r = start_range least low high p.0 in
      let b = starts_found bytes k (low + 1) (i + 2) p.1 in
      let h1 = present s (i + 1) r.0 in
      let none : high ≡ 0 = omega (arith, r.1) in
      let below : low < 256 = omega (arith, r.1) in
      let next : low + 1 ≡ suc low = omega arith in
      let l : low % 256 ≡ low = omega arith in
      let m : low / 256 % 256 ≡ 0 = omega arith in
      let end : i + 2 + 2 * k ≡ i + 2 * suc k = omega arith in (
        low ∷ b.0,
        ap suc b.1,
        (below, b.2),
        and_both (leb least low) (rising (suc low) b.0) (le→leb least low r.2) (subst (λ (j : ℕ). T (rising j b.0)) next b.3),
        drop_at s i (omega arith)
            ∙ ap (λ (t : List ℕ). low ∷ t) (drop_at s (i + 1) h1)
            ∙ ap₂ (λ (x : ℕ) (t : List ℕ). low ∷ x ∷ t) none
            (ap (λ (j : ℕ). drop j s) (let q : i + 1 + 1 ≡ i + 2 = omega arith in q)
            ∙ b.4 ∙ ap (λ (j : ℕ). starts_bytes b.0 ++ drop j s) end)
            ∙ ap₂ (λ (x y : ℕ). x ∷ y ∷ (starts_bytes b.0 ++ drop (i + 2 * suc k) s)) (sym l) (sym m),
      )
