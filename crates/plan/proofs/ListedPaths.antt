-- A plan's path reductions, in the bytes of either version: those of legal ones are accepted and held in the table, and accepted bytes are those of legal ones.
-- Assumes nothing.
use Prim.Native.Nat.{ℕ, zero, suc, ◌+◌, ◌*◌, ◌/◌, ◌%◌, ◌≤◌, ◌<◌}
use mathlib.Core.Path.{◌≡◌, refl, sym, ap, ◌∙◌, subst}
use mathlib.Core.Bool.{Bool, true, false, cond, ◌&&◌}
use mathlib.Core.List.{List, [], ◌∷◌, ◌++◌, map, append_assoc, append-nil}
use native.Mathlib.Omega.{arith}
use native.Mathlib.Nat.{not-suc-le-zero}
use borrow.Author.Tests.{ltb-false, leb-false, eqb-true, eqb-false, le-ltb, lt-leb, eq-eqb}
use lib.Dec.{T, leb, ltb, eqb, leb→le}
use lib.ListN.{length, get_or, drop, set, length-set, length-append, length-map}
use lib.Seq.{set_at, append_snoc}
use Rattle.meaning.specs.Limits.{HeldBy, PathFits, PlanLegal, SourcesFit}
use Rattle.meaning.specs.Plan.{Plan}
use Rattle.meaning.specs.Query.{PathReduction}
use Rattle.meaning.proofs.Lists.{all_append, all_both, map_append}
use Rattle.packed_path.specs.declared.PackedPath.{PackedPath}
use Rattle.packed_path.specs.Packed.{keys_number, packed, with_sources}
use Rattle.packed_path.proofs.Keys.{key_byte, legal_parts}
use Rattle.path_fields.specs.Paths.{counted_sources, one_source, starts_code}
use Rattle.progress.specs.Progress.{Scan}
use Rattle.fields.specs.Fields.{code_of, source_code}
use Rattle.progress.specs.Progress.{blank}
use Rattle.terms.proofs.Laws.{accepted_as}
use Rattle.term_text.specs.Text.{start_of, starts_bytes}
use Rattle.wire.proofs.Past.{get_or_any}
use Rattle.term_text.proofs.Fields.{code_range, code_zero, drop_at, key_known, key_zero, nth, present, two_bytes}
use Rattle.term_text.proofs.Sources.{Single, set_numbers, start_found, start_numbered, start_small, start_zero, starts_found, starts_size, starts_zero}
use Rattle.term_text.proofs.Steps.{drop_on, there}
use Rattle.term_text.proofs.Table.{Further, Table}
use Rattle.walks.specs.Keys.{all_known, early, in_order, known, legal_keys}
use Rattle.walks.specs.Lists.{All}
use Rattle.walks.proofs.Tests.{and_both, and_left, and_right}
use Rattle.wire.specs.Header.{then}
use Rattle.wire.specs.Wire.{Bytes, at16, le16}
use Rattle.wire.proofs.Codes.{then_both, then_zero}
use Rattle.plan.proofs.Laws.{listed_handed}
use Rattle.plan.specs.Plan.{chains_end, filler_code, listed_at, listed_code, listed_end, listed_keys_code, listed_scan, listed_starts_code, listed_step}
use Rattle.plan.specs.Plan.{set_count_code, slot_code}
use Rattle.plan.specs.Text.{all_listed_bytes, listed_bytes, listed_starts}

-- a filler byte that is not refused is 0
pub filler_zero : (b : ℕ) → filler_code b ≡ 0 → b ≡ 0
filler_zero b e = go (ltb 255 b) (eqb b 0) refl e
  where
    go : (x y : Bool) → eqb b 0 ≡ y → ◌≡◌ {A = ℕ} (cond x 1 (cond y 0 9)) 0 → b ≡ 0
    go true y p z = absurd (omega arith)
    go false true p z = eqb-true b 0 p
    go false false p z = absurd (omega arith)

-- the three key bytes of one, two or three keys
abbrev Three : List ℕ → ℕ → ℕ → ℕ → Type 0
Three ks a b c = (get_or ks 0 0 ≡ a) × (get_or ks 1 0 ≡ b) × (get_or ks 2 0 ≡ c)

module _ (s : List ℕ) where
  -- the codes of the key bytes a, b, c, as a legal list of keys
  keys_fine : (ks : List ℕ) → T (legal_keys ks)
      → (slot_code (length ks) 0 (get_or ks 0 0) ≡ 0) × (slot_code (length ks) 1 (get_or ks 1 0) ≡ 0) × (slot_code (length ks) 2 (get_or ks 2 0) ≡ 0)
  keys_fine ks t = go ks (legal_parts ks t)
    where
      go : (ks : List ℕ) → T (leb 1 (length ks)) × T (leb (length ks) 3) × T (all_known ks) × T (in_order ks)
          → (slot_code (length ks) 0 (get_or ks 0 0) ≡ 0) × (slot_code (length ks) 1 (get_or ks 1 0) ≡ 0)
          × (slot_code (length ks) 2 (get_or ks 2 0) ≡ 0)
      go [] p = absurd p.0
      go (x ∷ []) p = (key_zero x true (and_left (known x) true p.2) tt, refl, refl)
      go (x ∷ (y ∷ [])) p = (
        key_zero x false (and_left (known x) (known y && true) p.2) (and_left (early x) true p.3),
        key_zero y true (and_left (known y) true (and_right (known x) (known y && true) p.2)) tt,
        refl,
      )
      go (x ∷ (y ∷ (z ∷ []))) p =
          let k = and_right (known x) (known y && (known z && true)) p.2 in
          let o = and_right (early x) (early y && true) p.3 in (
            key_zero x false (and_left (known x) (known y && (known z && true)) p.2) (and_left (early x) (early y && true) p.3),
            key_zero y false (and_left (known y) (known z && true) k) (and_left (early y) true o),
            key_zero z true (and_left (known z) true (and_right (known y) (known z && true) k)) tt,
          )
      go (x ∷ (y ∷ (z ∷ (u ∷ ks)))) p = absurd (omega (arith, leb→le (suc (suc (suc (suc (length ks))))) 3 p.1))

  -- and back
  keys_back : (n a b c : ℕ) → 1 ≤ n → n ≤ 3 → slot_code n 0 a ≡ 0 → slot_code n 1 b ≡ 0 → slot_code n 2 c ≡ 0
      → (ks : List ℕ) × (length ks ≡ n) × T (legal_keys ks) × Three ks a b c
  keys_back zero a b c lo hi x y z = absurd (not-suc-le-zero lo)
  keys_back (suc zero) a b c lo hi x y z =
      let k = key_known a true x in
      (a ∷ [], refl, and_both (known a && true) true (and_both (known a) true k.0 tt) tt, (refl, sym (filler_zero b y), sym (filler_zero c z)))
  keys_back (suc (suc zero)) a b c lo hi x y z =
      let k = key_known a false x in
      let j = key_known b true y in (
        a ∷ b ∷ [],
        refl,
        and_both (known a && (known b && true)) (early a && true) (and_both (known a) (known b && true) k.0 (and_both (known b) true j.0 tt))
            (and_both (early a) true k.1 tt),
        (refl, refl, sym (filler_zero c z)),
      )
  keys_back (suc (suc (suc zero))) a b c lo hi x y z =
      let k = key_known a false x in
      let j = key_known b false y in
      let i = key_known c true z in (
        a ∷ b ∷ c ∷ [],
        refl,
        and_both (known a && (known b && (known c && true))) (early a && (early b && true))
            (and_both (known a) (known b && (known c && true)) k.0 (and_both (known b) (known c && true) j.0 (and_both (known c) true i.0 tt)))
            (and_both (early a) (early b && true) k.1 (and_both (early b) true j.1 tt)),
        (refl, refl, refl),
      )
  keys_back (suc (suc (suc (suc n)))) a b c lo hi x y z = absurd (omega arith)

  -- KEY BYTES: those of legal keys are accepted
  module _ (ks : List ℕ) (legal : T (legal_keys ks)) (i : ℕ) (rest : List ℕ)
      (e : drop i s ≡ length ks ∷ get_or ks 0 0 ∷ get_or ks 1 0 ∷ get_or ks 2 0 ∷ rest) where
    -- one of the four
    key_at : (j k d x : ℕ) → k ≡ i + j → get_or (length ks ∷ get_or ks 0 0 ∷ get_or ks 1 0 ∷ get_or ks 2 0 ∷ rest) j d ≡ x
        → get_or s k d ≡ x
    key_at j k d x p q = rw (nth s i j k d p, e) q

    keys_accepted : listed_keys_code s i ≡ 0
    unfolding listed_keys_code
    keys_accepted =
        let k = keys_fine ks legal in
        let p = legal_parts ks legal in
        let n = length ks in
        rw (
          key_at 0 i 256 n (omega arith) refl,
          key_at 1 (i + 1) 256 (get_or ks 0 0) refl refl,
          key_at 2 (i + 2) 256 (get_or ks 1 0) refl refl,
          key_at 3 (i + 3) 256 (get_or ks 2 0) refl refl,
        )
        (then_zero _ _ (code_zero n 3 (leb→le 1 n p.0) (leb→le n 3 p.1) (omega arith)) (then_zero _ _ k.0 (then_zero _ _ k.1 k.2)))

    keys_numbered : keys_number (get_or s i 0) (get_or s (i + 1) 0) (get_or s (i + 2) 0) (get_or s (i + 3) 0)
        ≡ keys_number (length ks) (get_or ks 0 0) (get_or ks 1 0) (get_or ks 2 0)
    keys_numbered =
        rw (
          key_at 0 i 0 (length ks) (omega arith) refl,
          key_at 1 (i + 1) 0 (get_or ks 0 0) refl refl,
          key_at 2 (i + 2) 0 (get_or ks 1 0) refl refl,
          key_at 3 (i + 3) 0 (get_or ks 2 0) refl refl,
        ) refl

  next_byte : (i j : ℕ) → i < length s → i + 1 ≡ j → drop i s ≡ get_or s i 256 ∷ drop j s
  next_byte i j l e = drop_at s i l ∙ ap (λ (m : ℕ). get_or s i 256 ∷ drop m s) e

  -- four bytes that are there
  four : (i : ℕ) → i + 3 < length s → drop i s
      ≡ get_or s i 256 ∷ get_or s (i + 1) 256 ∷ get_or s (i + 2) 256 ∷ get_or s (i + 3) 256 ∷ drop (i + 4) s
  four i h =
      next_byte i (i + 1) (omega arith) refl
      ∙ ap (λ (l : List ℕ). get_or s i 256 ∷ l) (next_byte (i + 1) (i + 2) (omega arith) (omega arith)
      ∙ ap (λ (l : List ℕ). get_or s (i + 1) 256 ∷ l) (next_byte (i + 2) (i + 3) (omega arith) (omega arith)
      ∙ ap (λ (l : List ℕ). get_or s (i + 2) 256 ∷ l) (next_byte (i + 3) (i + 4) h (omega arith))))

  -- and accepted ones are those of legal keys
  keys_found : (i : ℕ) → listed_keys_code s i ≡ 0
      → (ks : List ℕ) × T (legal_keys ks) × (drop i s ≡ length ks ∷ get_or ks 0 0 ∷ get_or ks 1 0 ∷ get_or ks 2 0 ∷ drop (i + 4) s)
  unfolding listed_keys_code
  keys_found i e =
      let n = get_or s i 256 in
      let a = get_or s (i + 1) 256 in
      let b = get_or s (i + 2) 256 in
      let c = get_or s (i + 3) 256 in
      let p = then_both (code_of n 3) (then (slot_code n 0 a) (then (slot_code n 1 b) (slot_code n 2 c))) e in
      let q = then_both (slot_code n 0 a) (then (slot_code n 1 b) (slot_code n 2 c)) p.1 in
      let r = then_both (slot_code n 1 b) (slot_code n 2 c) q.1 in
      let range = code_range n 3 p.0 in
      let ks = keys_back n a b c range.1 range.2 q.0 r.0 r.1 in
      let parts = ks.3 in
      let last = key_byte ks.0 (legal_parts ks.0 ks.2).2 2 in
      let h = present s (i + 3) (omega (arith, last, parts.2)) in
      (ks.0, ks.2, four i h ∙ rw (ks.1, parts.0, parts.1, parts.2) refl)

-- a set count that is not refused is at most 16
count_few : (k : ℕ) → set_count_code k ≡ 0 → k ≤ 16
count_few k e = go (ltb 255 k) (ltb 16 k) refl e
  where
    go : (x y : Bool) → ltb 16 k ≡ y → ◌≡◌ {A = ℕ} (cond x 1 (cond y 9 0)) 0 → k ≤ 16
    go true y p z = absurd (omega arith)
    go false true p z = absurd (omega arith)
    go false false p z = ltb-false 16 k p

-- what makes a path reduction legal in a worksheet of a version
abbrev pub Listed : ℕ → PathReduction → Type 0
Listed version c = PathFits 256 c × HeldBy version c

pub all_listed : (p : Plan) → PlanLegal 256 p → All (Listed p.version) p.paths
all_listed p l = all_both {R = Listed p.version} p.paths (λ c f h. (f, h)) l.paths_legal l.paths_held

module _ (s : List ℕ) (version : ℕ) where
  -- STARTS: those of legal ones are accepted, in the bytes of either version, and give their numbers
  module _ (ss : List ℕ) (fits : SourcesFit 256 ss) (held : version < 2 → length ss ≤ 1) (j : ℕ) (rest : List ℕ)
      (e : drop j s ≡ listed_starts version ss ++ rest) where
    single : eqb version 1 ≡ true → Single ss
    single p = (fits, held (let v = eqb-true version 1 p in omega arith))

    starts_accepted : listed_starts_code version s j ≡ 0
    unfolding listed_starts_code
    starts_accepted = go (eqb version 1) refl e
      where
        go : (b : Bool) → eqb version 1 ≡ b → drop j s ≡ cond b (le16 (start_of ss)) (length ss ∷ starts_bytes ss) ++ rest
            → cond b (source_code (get_or s j 256) (get_or s (j + 1) 256))
            (then (set_count_code (get_or s j 256)) (starts_code (get_or s j 256) 0 s (j + 1))) ≡ 0
        go true p d = rw (nth s j 0 j 256 (omega arith), nth s j 1 (j + 1) 256 refl, d) (start_zero ss (single p))
        go false p d =
            let count : get_or s j 256 ≡ length ss = rw (nth s j 0 j 256 (omega arith), d) refl in
            rw (count, le-ltb 255 (length ss) (omega (arith, fits.2)), le-ltb 16 (length ss) fits.2)
            (starts_zero s ss 0 (j + 1) rest (drop_on s j 1 (length ss ∷ []) (starts_bytes ss ++ rest) d refl) fits.0 fits.1)

    starts_numbered : (keys : ℕ) → cond (eqb version 1) (one_source keys (at16 s j)) (counted_sources keys s j) ≡ with_sources keys ss
    starts_numbered keys = go (eqb version 1) refl e
      where
        go : (b : Bool) → eqb version 1 ≡ b → drop j s ≡ cond b (le16 (start_of ss)) (length ss ∷ starts_bytes ss) ++ rest
            → cond b (one_source keys (at16 s j)) (counted_sources keys s j) ≡ with_sources keys ss
        go true p d =
            let x = start_of ss in
            let small = start_small ss (single p) in
            let whole : x % 256 + 256 * (x / 256 % 256) ≡ x = omega arith in
            rw (nth s j 0 j 0 (omega arith), nth s j 1 (j + 1) 0 refl, d, whole) (start_numbered ss (single p) keys)
        go false p d = set_numbers s keys ss j rest d fits

    starts_end : cond (eqb version 1) 2 (1 + 2 * get_or s j 0) ≡ length (listed_starts version ss)
    starts_end = go (eqb version 1) e
      where
        go : (b : Bool) → drop j s ≡ cond b (le16 (start_of ss)) (length ss ∷ starts_bytes ss) ++ rest
            → cond b 2 (1 + 2 * get_or s j 0) ≡ length (cond b (le16 (start_of ss)) (length ss ∷ starts_bytes ss))
        go true d = refl
        go false d = let count : get_or s j 0 ≡ length ss = rw (nth s j 0 j 0 (omega arith), d) refl in rw count (omega (arith, starts_size ss))

  -- where the starts at j end
  abbrev starts_at_end : ℕ → ℕ
  starts_at_end j = j + cond (eqb version 1) 2 (1 + 2 * get_or s j 0)

  -- and accepted ones are those of legal ones
  starts_sound : Bytes s → 1 ≤ version → (j : ℕ) → listed_starts_code version s j ≡ 0
      → (ss : List ℕ) × SourcesFit 256 ss × (version < 2 → length ss ≤ 1) × ((rest : List ℕ) × (drop j s ≡ listed_starts version ss ++ rest))
  unfolding listed_starts_code
  starts_sound bytes known j e = go (eqb version 1) refl e
    where
      go : (b : Bool) → eqb version 1 ≡ b
          → cond b (source_code (get_or s j 256) (get_or s (j + 1) 256))
          (then (set_count_code (get_or s j 256)) (starts_code (get_or s j 256) 0 s (j + 1)))
          ≡ 0
          → (ss : List ℕ) × SourcesFit 256 ss × (version < 2 → length ss ≤ 1)
          × ((rest : List ℕ) × (drop j s ≡ cond b (le16 (start_of ss)) (length ss ∷ starts_bytes ss) ++ rest))
      go true p z =
          let low : ℕ = get_or s j 256 in
          let high : ℕ = get_or s (j + 1) 256 in
          let v = start_found low high z in
          let h = present s (j + 1) v.0 in
          let small = bytes j in
          let same = get_or_any s j 0 256 (omega arith) in
          let two = two_bytes low high (omega arith) (omega arith) in (
            v.1.0,
            v.1.1.0,
            λ k. v.1.1.1,
            (
              drop (j + 1 + 1) s,
              rw (v.1.2, two.0, two.1) (drop_at s j (omega arith) ∙ ap (λ (t : List ℕ). low ∷ t) (drop_at s (j + 1) h)),
            ),
          )
      go false p z =
          let k : ℕ = get_or s j 256 in
          let q = then_both (set_count_code k) (starts_code k 0 s (j + 1)) z in
          let few = count_few k q.0 in
          let f = starts_found s bytes k 0 (j + 1) q.1 in
          let count = f.1 in
          let two = eqb-false version 1 p in (
            f.0,
            (f.2, f.3, omega (arith, count)),
            λ l. absurd (two (omega arith)),
            (drop (j + 1 + 2 * k) s, rw count (drop_at s j (present s j (omega arith)) ∙ ap (λ (t : List ℕ). k ∷ t) f.4)),
          )

  -- A PATH REDUCTION: the bytes of a legal one are accepted, give its numbers, and end where it ends
  module _ (c : PathReduction) (fits : Listed version c) (i : ℕ) (rest : List ℕ) (e : drop i s ≡ listed_bytes version c ++ rest) where
    behind : drop (i + 4) s ≡ listed_starts version c.sources ++ rest
    behind =
        let four = length c.keys ∷ get_or c.keys 0 0 ∷ get_or c.keys 1 0 ∷ get_or c.keys 2 0 ∷ [] in
        drop_on s i 4 four (listed_starts version c.sources ++ rest) e refl

    listed_accepted : listed_code version s i ≡ 0
    unfolding listed_code
    listed_accepted =
        then_zero (listed_keys_code s i) (listed_starts_code version s (i + 4)) (keys_accepted s c.keys fits.0.0 i _ e)
        (starts_accepted c.sources fits.0.1 fits.1 (i + 4) rest behind)

    listed_numbered : listed_at version s i ≡ packed c
    unfolding listed_at
    listed_numbered =
        rw (keys_numbered s c.keys fits.0.0 i _ e)
        (starts_numbered c.sources fits.0.1 fits.1 (i + 4) rest behind (packed c).keys)

    pub listed_ends : listed_end version s i ≡ i + length (listed_bytes version c)
    unfolding listed_end
    listed_ends = go (eqb version 1) (starts_end c.sources fits.0.1 fits.1 (i + 4) rest behind)
      where
        go : (b : Bool) → cond b 2 (1 + 2 * get_or s (i + 4) 0) ≡ length (listed_starts version c.sources)
            → cond b (i + 6) (i + 5 + 2 * get_or s (i + 4) 0) ≡ i + length (listed_bytes version c)
        go true z = omega (arith, z)
        go false z = omega (arith, z)

  -- and accepted bytes are those of a legal one
  listed_found : Bytes s → 1 ≤ version → (i : ℕ) → listed_code version s i ≡ 0
      → (c : PathReduction) × Listed version c × ((rest : List ℕ) × (drop i s ≡ listed_bytes version c ++ rest))
  unfolding listed_code
  listed_found bytes known i e =
      let p = then_both (listed_keys_code s i) (listed_starts_code version s (i + 4)) e in
      let k = keys_found s i p.0 in
      let v = starts_sound bytes known (i + 4) p.1 in (
        record { keys = k.0; sources = v.0 },
        ((k.1, v.1), v.2),
        (v.3.0, k.2 ∙ ap (λ (t : List ℕ). length k.0 ∷ get_or k.0 0 0 ∷ get_or k.0 1 0 ∷ get_or k.0 2 0 ∷ t) v.3.1),
      )

-- n bytes further, with the path reductions cs and no more terms
abbrev pub ListedHeld : Scan → Scan → List PathReduction → ℕ → Type 0
ListedHeld w w' cs n = Further w w' cs n w.terms w.reductions

module _ (s : List ℕ) (version : ℕ) where
  -- one more is held
  listed_held : (w : Scan) (cs : List PathReduction) (c : PathReduction) (rest : List ℕ) → w.code ≡ 0 → Table w cs → Listed version c
      → w.at < length s → drop w.at s ≡ listed_bytes version c ++ rest → suc (length cs) ≤ 8
      → ListedHeld w (listed_step version s w) (cs ++ (c ∷ [])) (length (listed_bytes version c))
  unfolding listed_step
  listed_held w cs c rest z t f h d l =
      let code = listed_accepted s version c f w.at rest d in
      let numbers = listed_numbered s version c f w.at rest d in
      let end = listed_ends s version c f w.at rest d in
      let made : listed_step version s w ≡ record {
        code = w.code;
        at = w.at + length (listed_bytes version c);
        terms = w.terms;
        paths = w.paths + 1;
        reductions = w.reductions;
        table = set w.table w.paths (packed c);
      } =
      rw (lt-leb (length s) w.at h, code, lt-leb 8 w.paths (omega (arith, t.count)), numbers, end) refl in
      subst (λ (v : Scan). ListedHeld w v (cs ++ (c ∷ [])) (length (listed_bytes version c))) (sym made)
      (record { code = z; at = refl; terms = refl; reductions = refl; table = stored t.rest t.holds })
    where
      stored : (rest : List PackedPath) → w.table ≡ map packed cs ++ rest
          → Table (record {
            code = w.code;
            at = w.at + length (listed_bytes version c);
            terms = w.terms;
            paths = w.paths + 1;
            reductions = w.reductions;
            table = set w.table w.paths (packed c);
          }) (cs ++ (c ∷ []))
      stored [] h = absurd (omega (arith, t.size, ap length h, length-append (map packed cs) [], length-map cs packed))
      stored (x ∷ rest) h = record {
        legal = all_append (PathFits 256) cs (c ∷ []) t.legal (f.0, tt);
        count = omega (arith, t.count, length-append cs (c ∷ []));
        few = omega (arith, length-append cs (c ∷ []));
        rest = rest;
        holds =
            ap (λ (l : List PackedPath). set l w.paths (packed c)) h
            ∙ set_at (map packed cs) x rest (packed c) w.paths (length-map cs packed ∙ sym t.count)
            ∙ sym (append_snoc (map packed cs) (packed c) rest)
            ∙ ap (λ (l : List PackedPath). l ++ rest) (sym (map_append packed cs (c ∷ [])));
        size = length-set w.table w.paths (packed c) ∙ t.size;
        few_reductions = t.few_reductions;
      }

  -- the bytes of legal path reductions are read as they
  pub listed_complete : (ds : List PathReduction) (w : Scan) (cs : List PathReduction) (rest : List ℕ) → w.code ≡ 0 → Table w cs
      → All (Listed version) ds
      → drop w.at s ≡ all_listed_bytes version ds ++ rest → length cs + length ds ≤ 8
      → ListedHeld w (listed_scan (length ds) version s w) (cs ++ ds) (length (all_listed_bytes version ds))
  unfolding listed_scan
  listed_complete [] w cs rest z t f e l =
      record { code = z; at = omega arith; terms = refl; reductions = refl; table = subst (Table w) (sym (append-nil cs)) t }
  listed_complete (d ∷ ds) w cs rest z t f e l =
      let e1 : drop w.at s ≡ listed_bytes version d ++ (all_listed_bytes version ds ++ rest) =
      e ∙ append_assoc (listed_bytes version d) (all_listed_bytes version ds) rest in
      let h = there s w.at (length d.keys) _ e1 in
      let a = listed_held w cs d (all_listed_bytes version ds ++ rest) z t f.0 h e1 (omega arith) in
      let e2 : drop (listed_step version s w).at s ≡ all_listed_bytes version ds ++ rest =
      ap (λ (i : ℕ). drop i s) a.at
      ∙ drop_on s w.at (length (listed_bytes version d)) (listed_bytes version d) (all_listed_bytes version ds ++ rest) e1 refl in
      let b = listed_complete ds (listed_step version s w) (cs ++ (d ∷ [])) rest a.code a.table f.1 e2
      (omega (arith, length-append cs (d ∷ []))) in
      let more = append_snoc cs d ds in
      let size = length-append (listed_bytes version d) (all_listed_bytes version ds) in
      rw (eq-eqb w.code 0 z)
      (record {
        code = b.code;
        at = omega (arith, b.at, a.at, size);
        terms = b.terms ∙ a.terms;
        reductions = b.reductions ∙ a.reductions;
        table = subst (Table (listed_scan (length ds) version s (listed_step version s w))) more b.table;
      })

  -- and end where the entry count stands
  pub chains_there : (ds : List PathReduction) → All (Listed version) ds → (i : ℕ) (rest : List ℕ) → drop i s ≡ all_listed_bytes version ds ++ rest
      → chains_end (length ds) version s i ≡ i + length (all_listed_bytes version ds)
  unfolding chains_end
  chains_there [] f i rest e = omega arith
  chains_there (d ∷ ds) f i rest e =
      let b = listed_bytes version d in
      let l = all_listed_bytes version ds in
      let e1 : drop i s ≡ b ++ (l ++ rest) = e ∙ append_assoc b l rest in
      let e2 = drop_on s i (length b) b (l ++ rest) e1 refl in
      ap (chains_end (length ds) version s) (listed_ends s version d f.0 i (l ++ rest) e1)
      ∙ chains_there ds f.1 (i + length b) rest e2
      ∙ (let z : i + length b + length l ≡ i + length (b ++ l) = omega (arith, length-append b l) in z)

  -- what is read: k legal path reductions whose bytes stand next
  abbrev Lists : ℕ → Scan → Type 0
  Lists k w =
      (ds : List PathReduction) × (rest : List ℕ) × (length ds ≡ k) × All (Listed version) ds
      × (drop w.at s ≡ all_listed_bytes version ds ++ rest)

  pub listed_sound : Bytes s → 1 ≤ version → (k : ℕ) (w : Scan) (cs : List PathReduction) → w.code ≡ 0 → Table w cs → length cs + k ≤ 8
      → (listed_scan k version s w).code ≡ 0 → Lists k w
  unfolding listed_scan listed_step blank
  listed_sound bytes known zero w cs z t l e = ([], drop w.at s, refl, tt, refl)
  listed_sound bytes known (suc k) w cs z t l e =
      go (leb (length s) w.at) (eqb (listed_code version s w.at) 0) refl refl (listed_sound bytes known k)
    where
      on : (listed_scan k version s (listed_step version s w)).code ≡ 0
      on = rw (eq-eqb w.code 0 z) at e

      stops : (n : ℕ) → (n ≡ 0 → ⊥) → listed_step version s w ≡ blank n → ⊥
      stops n f p = f (accepted_as (ap (listed_scan k version s) p ∙ listed_handed k version s (blank n) f) on)

      go : (a b : Bool) → leb (length s) w.at ≡ a → eqb (listed_code version s w.at) 0 ≡ b
          → ((w : Scan) (cs : List PathReduction) → w.code ≡ 0 → Table w cs → length cs + k ≤ 8 → (listed_scan k version s w).code ≡ 0
          → Lists k w)
          → Lists (suc k) w
      go true b p q ih = absurd (stops 1 (λ x. omega arith) (rw p refl))
      go false false p q ih = absurd (stops (listed_code version s w.at) (eqb-false (listed_code version s w.at) 0 q) (rw (p, q) refl))
      go false true p q ih =
          let h = leb-false (length s) w.at p in
          let f = listed_found s version bytes known w.at (eqb-true (listed_code version s w.at) 0 q) in
          let c = f.0 in
          let b = listed_bytes version f.0 in
          let a = listed_held w cs c f.2.0 z t f.1 h f.2.1 (omega arith) in
          let r = ih (listed_step version s w) (cs ++ (f.0 ∷ [])) a.code a.table (omega (arith, length-append cs (f.0 ∷ []))) on in
          let rest : f.2.0 ≡ all_listed_bytes version r.0 ++ r.1 =
          sym (ap (λ (i : ℕ). drop i s) a.at ∙ drop_on s w.at (length b) b f.2.0 f.2.1 refl) ∙ r.4 in (
            f.0 ∷ r.0,
            r.1,
            ap suc r.2,
            (f.1, r.3),
            f.2.1 ∙ ap (λ (l : List ℕ). b ++ l) rest ∙ sym (append_assoc b (all_listed_bytes version r.0) r.1),
          )
