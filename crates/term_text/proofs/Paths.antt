-- A path reduction's bytes, with one start or with a set: those of a legal one are accepted and give its numbers, and accepted bytes are those of a legal one.
-- Assumes nothing.
use Prim.Native.Nat.{ℕ, ◌+◌, ◌*◌, ◌/◌, ◌%◌, ◌≤◌}
use mathlib.Core.Path.{◌≡◌, refl, sym, ap, ◌∙◌}
use mathlib.Core.List.{List, ◌∷◌, ◌++◌, append_assoc}
use native.Mathlib.Omega.{arith}
use lib.ListN.{length, get_or, drop}
use lib.Seq.{drop-drop}
use Rattle.meaning.specs.Limits.{PathFits}
use Rattle.meaning.specs.Query.{PathReduction}
use Rattle.wire.specs.Header.{then}
use Rattle.wire.specs.Wire.{Bytes, le16}
use Rattle.wire.proofs.Codes.{then_both, then_zero}
use Rattle.wire.proofs.Past.{get_or_any}
use Rattle.fields.specs.Fields.{code_of, source_code}
use Rattle.packed_path.specs.Packed.{packed}
use Rattle.path_fields.specs.Paths.{key_fields_code, path_at, path_code, set_at, set_code, starts_code}
use Rattle.term_text.specs.Text.{path_bytes, set_bytes, start_of, starts_bytes}
use Rattle.term_text.proofs.Fields.{behind_keys, code_range, code_zero, drop_at, key_count, key_fields_accepted, key_fields_found, keys_numbered, nth}
use Rattle.term_text.proofs.Fields.{present, two_bytes}
use Rattle.term_text.proofs.Sources.{set_numbers, start_found, start_numbered, start_small, start_zero, starts_found, starts_zero}

-- what makes a path reduction legal behind 0x10, and behind 0x13
abbrev pub OneFits : PathReduction → Type 0
OneFits c = PathFits 256 c × (length c.sources ≤ 1)

abbrev pub SetFits : PathReduction → Type 0
SetFits c = PathFits 256 c × (1 ≤ length c.sources)

module _ (s : List ℕ) where
  -- ACCEPTED BYTES ARE THOSE OF A LEGAL PATH REDUCTION: with one start, and with a set
  pub path_found : Bytes s → (i : ℕ) → path_code s i ≡ 0
      → (c : PathReduction) × OneFits c × (drop i s ≡ path_bytes c ++ drop (i + 3 + get_or s i 256) s)
  unfolding path_code
  path_found bytes i e =
      let n : ℕ = get_or s i 256 in
      let low : ℕ = get_or s (i + 1 + n) 256 in
      let high : ℕ = get_or s (i + 1 + n + 1) 256 in
      let p = then_both (key_fields_code s i) (source_code low high) e in
      let k = key_fields_found s i p.0 in
      let v = start_found low high p.1 in
      let ss = v.1.0 in
      let h1 = present s (i + 1 + n + 1) v.0 in
      let small = bytes (i + 1 + n) in
      let same = get_or_any s (i + 1 + n) 0 256 (omega arith) in
      let two = two_bytes low high (omega arith) (omega arith) in
      let tail : drop (i + 1 + n) s ≡ le16 (start_of ss) ++ drop (i + 3 + n) s =
      rw (v.1.2, two.0, two.1) (drop_at s (i + 1 + n) (omega arith)
      ∙ ap (λ (t : List ℕ). low ∷ t) (drop_at s (i + 1 + n + 1) h1)
      ∙ ap (λ (j : ℕ). low ∷ high ∷ drop j s) (let z : i + 1 + n + 1 + 1 ≡ i + 3 + n = omega arith in z)) in (
        record { keys = k.0; sources = ss },
        ((k.1, v.1.1.0), v.1.1.1),
        k.3 ∙ ap (λ (t : List ℕ). length k.0 ∷ (k.0 ++ t)) tail
            ∙ ap (λ (t : List ℕ). length k.0 ∷ t) (sym (append_assoc k.0 (le16 (start_of ss)) (drop (i + 3 + n) s))),
      )

  pub set_found : Bytes s → (i : ℕ) → set_code s i ≡ 0
      → (c : PathReduction) × SetFits c
      × (drop i s ≡ set_bytes c ++ drop (i + 1 + get_or s i 256 + 1 + 2 * get_or s (i + 1 + get_or s i 256) 256) s)
  unfolding set_code
  set_found bytes i e =
      let n : ℕ = get_or s i 256 in
      let j : ℕ = i + 1 + n in
      let k : ℕ = get_or s j 256 in
      let p = then_both (key_fields_code s i) (then (code_of k 16) (starts_code k 0 s (j + 1))) e in
      let q = then_both (code_of k 16) (starts_code k 0 s (j + 1)) p.1 in
      let ks = key_fields_found s i p.0 in
      let r = code_range k 16 q.0 in
      let f = starts_found s bytes k 0 (j + 1) q.1 in
      let count = f.1 in
      let tail : drop j s ≡ length f.0 ∷ (starts_bytes f.0 ++ drop (j + 1 + 2 * k) s) =
      rw count (drop_at s j (present s j r.0) ∙ ap (λ (t : List ℕ). k ∷ t) f.4) in (
        record { keys = ks.0; sources = f.0 },
        ((ks.1, (f.2, f.3, omega (arith, count))), omega (arith, count)),
        ks.3 ∙ ap (λ (t : List ℕ). length ks.0 ∷ (ks.0 ++ t)) tail
            ∙ ap (λ (t : List ℕ). length ks.0 ∷ t) (sym (append_assoc ks.0 (length f.0 ∷ starts_bytes f.0) (drop (j + 1 + 2 * k) s))),
      )

  -- THOSE OF A LEGAL ONE ARE ACCEPTED, and give its numbers: with one start
  module _ (c : PathReduction) (fits : OneFits c) (i : ℕ) (rest : List ℕ) (e : drop i s ≡ path_bytes c ++ rest) where
    keys_first : drop i s ≡ length c.keys ∷ (c.keys ++ (le16 (start_of c.sources) ++ rest))
    keys_first = e ∙ ap (λ (t : List ℕ). length c.keys ∷ t) (append_assoc c.keys (le16 (start_of c.sources)) rest)

    pub path_count : get_or s i 256 ≡ length c.keys
    path_count = key_count s c.keys fits.0.0 i _ keys_first 256

    start_there : (d : ℕ)
        → (get_or s (i + 1 + length c.keys) d ≡ start_of c.sources % 256)
        × (get_or s (i + 1 + length c.keys + 1) d ≡ start_of c.sources / 256 % 256)
    start_there d =
        let b = behind_keys s c.keys fits.0.0 i _ keys_first in
        let j = i + 1 + length c.keys in
        (rw (nth s j 0 j d (omega arith), b) refl, rw (nth s j 1 (j + 1) d refl, b) refl)

    pub path_accepted : path_code s i ≡ 0
    unfolding path_code
    path_accepted =
        let v = start_there 256 in
        let n = length c.keys in
        rw path_count
        (then_zero (key_fields_code s i) (source_code (get_or s (i + 1 + n) 256) (get_or s (i + 1 + n + 1) 256))
        (key_fields_accepted s c.keys fits.0.0 i _ keys_first)
        (rw (v.0, v.1) (start_zero c.sources (fits.0.1, fits.1))))

    pub path_numbered : path_at s i ≡ packed c
    unfolding path_at
    path_numbered =
        let v = start_there 0 in
        let small = start_small c.sources (fits.0.1, fits.1) in
        let x = start_of c.sources in
        let whole : x % 256 + 256 * (x / 256 % 256) ≡ x = omega arith in
        rw (key_count s c.keys fits.0.0 i _ keys_first 0, keys_numbered s c.keys fits.0.0 i _ keys_first, v.0, v.1, whole)
        (start_numbered c.sources (fits.0.1, fits.1) (packed c).keys)

  -- and with a set
  module _ (c : PathReduction) (fits : SetFits c) (i : ℕ) (rest : List ℕ) (e : drop i s ≡ set_bytes c ++ rest) where
    set_first : drop i s ≡ length c.keys ∷ (c.keys ++ (length c.sources ∷ (starts_bytes c.sources ++ rest)))
    set_first = e ∙ ap (λ (t : List ℕ). length c.keys ∷ t) (append_assoc c.keys (length c.sources ∷ starts_bytes c.sources) rest)

    pub set_keys : get_or s i 256 ≡ length c.keys
    set_keys = key_count s c.keys fits.0.0 i _ set_first 256

    behind_set : drop (i + 1 + length c.keys) s ≡ length c.sources ∷ (starts_bytes c.sources ++ rest)
    behind_set = behind_keys s c.keys fits.0.0 i _ set_first

    pub set_count : get_or s (i + 1 + length c.keys) 256 ≡ length c.sources
    set_count = let j = i + 1 + length c.keys in rw (nth s j 0 j 256 (omega arith), behind_set) refl

    pub set_accepted : set_code s i ≡ 0
    unfolding set_code
    set_accepted =
        let j = i + 1 + length c.keys in
        let k = length c.sources in
        let f = fits.0.1 in
        rw (set_keys, set_count)
        (then_zero (key_fields_code s i) (then (code_of k 16) (starts_code k 0 s (j + 1)))
        (key_fields_accepted s c.keys fits.0.0 i _ set_first)
        (then_zero (code_of k 16) (starts_code k 0 s (j + 1)) (code_zero k 16 fits.1 f.2 (omega arith))
        (starts_zero s c.sources 0 (j + 1) rest (sym (drop-drop 1 j s) ∙ ap (drop 1) behind_set) f.0 f.1)))

    pub set_numbered : set_at s i ≡ packed c
    unfolding set_at
    set_numbered =
        rw (key_count s c.keys fits.0.0 i _ set_first 0, keys_numbered s c.keys fits.0.0 i _ set_first)
        (set_numbers s (packed c).keys c.sources (i + 1 + length c.keys) rest behind_set fits.0.1)
