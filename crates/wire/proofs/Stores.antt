-- Bytes stored into a buffer, one piece behind the other. Assumes nothing.
use Prim.Native.Nat.{ℕ, suc, ◌+◌, ◌*◌, ◌≤◌, ◌<◌}
use mathlib.Core.Path.{◌≡◌, refl, sym, ap, ◌∙◌}
use mathlib.Core.List.{List, [], ◌∷◌, ◌++◌}
use native.Mathlib.Numerals.{add-one}
use native.Mathlib.Omega.{arith}
use native.Mathlib.Nat.{add-zero, add-suc, suc-add, zero-add}
use lib.ListN.{length, get_or, take, drop, set}
use lib.Seq.{take-suc, length-take-le, sets, sets-eq}

-- two pieces
pub sets_append : (out : List ℕ) (i : ℕ) (xs ys : List ℕ) → sets (sets out i xs) (i + length xs) ys ≡ sets out i (xs ++ ys)
sets_append out i [] ys = rw (add-zero i)
sets_append out i (x ∷ xs) ys =
    ap (λ (k : ℕ). sets (sets (set out i x) (suc i) xs) k ys) (add-suc i (length xs) ∙ sym (suc-add i (length xs)))
    ∙ sets_append (set out i x) (suc i) xs ys

-- two pieces at the front: they are its first bytes, and the rest is as it was
pub sets_front : (out xs ys : List ℕ) (n : ℕ) → n ≡ length xs → length (xs ++ ys) ≤ length out → sets (sets out 0 xs) n ys ≡ (xs ++ ys)
    ++ drop (length (xs ++ ys)) out
sets_front out xs ys n e h =
    ap (λ (k : ℕ). sets (sets out 0 xs) k ys) (e ∙ sym (zero-add (length xs)))
    ∙ sets_append out 0 xs ys
    ∙ sets-eq (xs ++ ys) out 0 (omega arith)
    ∙ ap (λ (k : ℕ). (xs ++ ys) ++ drop k out) (zero-add (length (xs ++ ys)))

-- things of as many bytes each: one more behind the first i
module _ {A : Type 0} (size : ℕ) (bytes : List A → List ℕ) (sized : (l : List A) → length (bytes l) ≡ size * length l)
    (joined : (l k : List A) → bytes (l ++ k) ≡ bytes l ++ bytes k) where
  pub sets_more : (out : List ℕ) (at : ℕ) (l : List A) (i : ℕ) (z : A) → i < length l →
      sets (sets out at (bytes (take i l))) (at + size * i) (bytes (get_or l i z ∷ [])) ≡ sets out at (bytes (take (i + 1) l))
  sets_more out at l i z h =
      let e : at + size * i ≡ at + length (bytes (take i l)) = rw (sized (take i l), length-take-le i l (omega arith)) refl in
      rw (e, add-one i, take-suc l i z h, joined (take i l) (get_or l i z ∷ [])) (sets_append out at (bytes (take i l)) (bytes (get_or l i z ∷ [])))
