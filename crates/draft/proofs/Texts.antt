-- Things put into a draft one after the other, each by its text. Assumes nothing.
use Prim.Native.Nat.{ℕ, ◌+◌, ◌*◌, ◌≤◌, ◌<◌, min}
use mathlib.Core.Path.{◌≡◌, refl, sym, ap, ◌∙◌}
use mathlib.Core.List.{List, [], ◌∷◌, ◌++◌, append_assoc, append-nil}
use native.Mathlib.Omega.{arith}
use lib.ListN.{length, get_or, take, length-append}
use lib.Seq.{take_all}
use Rattle.std.proofs.lemmas.List.{take_min, take_more}
use Rattle.wire.specs.Wire.{fitted, unless}
use Rattle.draft.specs.Steps.{Draft, put_list}
use Rattle.draft.specs.Texts.{texts}
use Rattle.draft.proofs.Drafts.{put_append}

-- the first of them, where the count is cut to what there is
pub take_least : {A : Type 0} (count n : ℕ) (l : List A) → n ≡ min count (length l) → take n l ≡ take count l
take_least {A} count n l e = ap (λ (k : ℕ). take k l) e ∙ take_min count l

module _ {A : Type 0} (text : A → List ℕ) where
  -- texts of at most so many bytes each
  pub texts_short : (most : ℕ) → ((a : A) → length (text a) ≤ most) → (l : List A) → length (texts text l) ≤ most * length l
  unfolding texts
  texts_short most f [] = omega arith
  texts_short most f (a ∷ l) = omega (arith, f a, texts_short most f l, length-append (text a) (texts text l))

  -- the text of two lists is one behind the other
  pub text_append : (l k : List A) → texts text (l ++ k) ≡ texts text l ++ texts text k
  unfolding texts
  text_append [] k = refl
  text_append (a ∷ l) k = ap (λ (t : List ℕ). text a ++ t) (text_append l k) ∙ sym (append_assoc (text a) (texts text l) (texts text k))

  -- one more of them is put
  pub put_next : (d : Draft) (l : List A) (i : ℕ) (z : A) → i < length l
      → put_list (put_list d (texts text (take i l))) (text (get_or l i z)) ≡ put_list d (texts text (take (i + 1) l))
  unfolding texts
  put_next d l i z h =
      let done = take i l in
      let x = get_or l i z in
      let more : texts text (take (i + 1) l) ≡ texts text done ++ text x =
      ap (texts text) (take_more l i z h) ∙ text_append done (x ∷ []) ∙ ap (λ (t : List ℕ). texts text done ++ t) (append-nil (text x)) in
      sym (ap (put_list d) more ∙ put_append (texts text done) (text x) d)

-- of bytes that a layout has, all are laid
pub delivered : (b : List ℕ) (code room : ℕ) → length b ≤ 65535 → unless code (fitted (take 65535 b) room) ≡ unless code (fitted b room)
delivered b code room h = rw (take_all 65535 b h) refl
