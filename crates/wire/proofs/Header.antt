-- The first five bytes are accepted exactly where they are a header's of a known version. Assumes nothing.
use Prim.Native.Nat.{ℕ, suc, ◌+◌, ◌*◌, ◌≤◌}
use mathlib.Core.Path.{◌≡◌, refl, ap, ◌∙◌}
use mathlib.Core.List.{List, ◌∷◌, ◌++◌}
use native.Mathlib.Omega.{arith}
use borrow.Author.Tests.{ltb-false, eqb-false, eqb-true, le-ltb, eq-eqb, ne_eqb}
use lib.Dec.{ltb, eqb}
use lib.ListN.{length, get_or, drop}
use lib.Seq.{drop-cons}
use Rattle.wire.specs.Header.{header_bytes, header_code, version_code}
use Rattle.wire.specs.Wire.{at16}
use Rattle.wire.proofs.Codes.{held, past}

-- a known version is accepted, and no other
version_accepted : (newest version : ℕ) → 1 ≤ version → version ≤ newest → version_code newest (version + 256 * 0) ≡ 0
version_accepted newest version h k =
    let e : version + 256 * 0 ≡ version = omega arith in
    rw (e, ne_eqb version 0 (λ z. omega arith), le-ltb newest version k) refl

version_found : (newest version : ℕ) → version_code newest version ≡ 0 → (1 ≤ version) × (version ≤ newest)
version_found newest version e =
    let a = past (eqb version 0) 2 _ e in
    let b = past (ltb newest version) 2 _ a.1 in
    let n = eqb-false version 0 a.0 in
    (omega arith, ltb-false newest version b.0)

-- a header is accepted, where the version is known and the text is long enough
pub header_accepted : (letter newest least version : ℕ) (l : List ℕ) → 1 ≤ version → version ≤ newest → least ≤ 5 + length l
    → header_code letter newest least (header_bytes letter version ++ l) ≡ 0
unfolding header_code
header_accepted letter newest least version l a b h =
    let n : ℕ = suc (suc (suc (suc (suc (length l))))) in
    rw (le-ltb n 5 (omega arith), le-ltb n least (omega arith), eq-eqb letter letter refl) (version_accepted newest version a b)

module _ (letter newest least : ℕ) (s : List ℕ) (e : header_code letter newest least s ≡ 0) where
  -- what is accepted is long enough, has a known version, and begins with a header
  pub header_long : least ≤ length s
  unfolding header_code
  header_long = ltb-false _ _ (past (ltb (length s) least) 0 _ (past (ltb (length s) 5) 0 _ e).1).0

  letters : (5 ≤ length s) × (get_or s 0 0 ≡ 0x4c) × (get_or s 1 0 ≡ 0x50) × (get_or s 2 0 ≡ letter) × (1 ≤ at16 s 3) × (at16 s 3 ≤ newest)
  unfolding header_code
  letters =
      let long = past (ltb (length s) 5) 0 _ e in
      let a = held (eqb (get_or s 0 0) 0x4c) 1 _ (past (ltb (length s) least) 0 _ long.1).1 in
      let b = held (eqb (get_or s 1 0) 0x50) 1 _ a.1 in
      let c = held (eqb (get_or s 2 0) letter) 1 _ b.1 in
      let v = version_found newest (at16 s 3) c.1 in (
        ltb-false _ _ long.0,
        eqb-true (get_or s 0 0) 0x4c a.0,
        eqb-true (get_or s 1 0) 0x50 b.0,
        eqb-true (get_or s 2 0) letter c.0,
        v.0,
        v.1,
      )

  pub header_version : newest ≤ 255 → (1 ≤ get_or s 3 0) × (get_or s 3 0 ≤ newest)
  header_version k = let p = letters in (omega (arith, p.4, p.5), omega (arith, p.4, p.5))

  pub header_found : newest ≤ 255 → s ≡ header_bytes letter (get_or s 3 0) ++ drop 5 s
  header_found k =
      let p = letters in
      let five = p.0 in
      let high : get_or s 4 0 ≡ 0 = omega (arith, p.4, p.5) in
      drop-cons s 0 0 (omega arith)
      ∙ ap (λ (l : List ℕ). get_or s 0 0 ∷ l) (drop-cons s 1 0 (omega arith)
      ∙ ap (λ (l : List ℕ). get_or s 1 0 ∷ l) (drop-cons s 2 0 (omega arith)
      ∙ ap (λ (l : List ℕ). get_or s 2 0 ∷ l) (drop-cons s 3 0 (omega arith)
      ∙ ap (λ (l : List ℕ). get_or s 3 0 ∷ l) (drop-cons s 4 0 (omega arith)))))
      ∙ rw (p.1, p.2, p.3, high) refl

-- where version 1 alone is known
pub header_one : (letter least : ℕ) (s : List ℕ) → header_code letter 1 least s ≡ 0 → s ≡ header_bytes letter 1 ++ drop 5 s
header_one letter least s e =
    let v = header_version letter 1 least s e (omega arith) in
    let one : get_or s 3 0 ≡ 1 = omega arith in
    header_found letter 1 least s e (omega arith) ∙ ap (λ (v : ℕ). header_bytes letter v ++ drop 5 s) one
