-- A DRAFT HOLDS WHAT WAS PUT, while there is room. Assumes nothing.
use Prim.Native.Nat.{ℕ, ◌+◌, ◌≤◌, ◌<◌}
use mathlib.Core.Path.{◌≡◌, refl, sym, ap, ◌∙◌, subst}
use mathlib.Core.List.{List, [], ◌∷◌, ◌++◌, append-nil}
use native.Mathlib.Numerals.{add-one}
use native.Mathlib.Omega.{arith}
use borrow.Author.Tests.{lt-leb}
use lib.ListN.{length, take, length-set, length-append}
use lib.Seq.{append_snoc, take-suc-set}
use Rattle.draft.specs.Steps.{Draft, draft, put_byte, put_list}

-- two pieces are put one after the other
pub put_append : (a b : List ℕ) (d : Draft) → put_list d (a ++ b) ≡ put_list (put_list d a) b
unfolding put_list
put_append [] b d = refl
put_append (x ∷ a) b d = put_append a b (put_byte d x)

-- the draft, of a buffer of n bytes, holds the text
pub record Holds (n : ℕ) (d : Draft) (l : List ℕ) : Type 0 where
  pub len : d.len ≡ length l
  pub text : take d.len d.bytes ≡ l
  pub size : length d.bytes ≡ n

-- nothing, at first
holds_nothing : (b : List ℕ) → Holds (length b) (draft b 0) []
holds_nothing b = record { len = refl; text = refl; size = refl }

-- one byte more
holds_byte : (n : ℕ) (d : Draft) (l : List ℕ) (b : ℕ) → Holds n d l → length l < n → Holds n (put_byte d b) (l ++ (b ∷ []))
unfolding put_byte
holds_byte n d l b h k =
    rw (lt-leb (length d.bytes) d.len (omega (arith, h.len, h.size)))
    (record {
      len = omega (arith, h.len, length-append l (b ∷ []));
      text = rw (add-one d.len) (take-suc-set d.bytes d.len b (omega (arith, h.len, h.size)) ∙ ap (λ (t : List ℕ). t ++ (b ∷ [])) h.text);
      size = length-set d.bytes d.len b ∙ h.size;
    })

-- A DRAFT THAT HOLDS l HOLDS l AND THE BYTES PUT
pub put_holds : (n : ℕ) (m l : List ℕ) (d : Draft) → Holds n d l → length l + length m ≤ n → Holds n (put_list d m) (l ++ m)
unfolding put_list
put_holds n [] l d h k = subst (Holds n d) (sym (append-nil l)) h
put_holds n (b ∷ m) l d h k =
    subst (Holds n (put_list (put_byte d b) m)) (append_snoc l b m)
    (put_holds n m (l ++ (b ∷ [])) (put_byte d b) (holds_byte n d l b h (omega arith)) (omega (arith, length-append l (b ∷ []))))

-- a draft made of nothing but these bytes holds them, where the buffer has room
pub drafted : (l b₀ : List ℕ) → length l ≤ length b₀ → (bytes : List ℕ) (len : ℕ) → draft bytes len ≡ put_list (draft b₀ 0) l
    → take len bytes ≡ l
drafted l b₀ short bytes len e =
    ap (λ (d : Draft). take d.len d.bytes) e ∙ (put_holds (length b₀) l [] (draft b₀ 0) (holds_nothing b₀) (omega arith)).text
