-- An array that a loop fills from the front, for the loops over vertices and over entries. Assumes nothing.
use Prim.Native.Nat.{ℕ, zero, suc, ◌+◌, ◌-◌, ◌≤◌, ◌<◌}
use mathlib.Core.Path.{◌≡◌, refl, sym, ap, ◌∙◌}
use mathlib.Core.Bool.{Bool, true, false}
use mathlib.Core.List.{List, [], ◌∷◌, ◌++◌}
use native.Mathlib.Numerals.{add-one}
use native.Mathlib.Omega.{arith}
use borrow.Author.Tests.{leb-true, leb-false}
use lib.Dec.{leb}
use lib.ListN.{get_or, length, replicate, set, get_or-replicate, length-append, length-replicate, get_or-append}
use Rattle.std.proofs.lemmas.List.{set-get_or}
use lib.Seq.{append_snoc, ext_get_or, get_or-append-add, set_at}
use Rattle.meaning.specs.Run.{tabulate}
use Rattle.meaning.proofs.Lists.{tabulate_at, tabulate_length}

module _ {A : Type 0} (size : ℕ) (f : ℕ → A) (blank : A) where
  -- i of its `size` elements are set
  abbrev pub filled : ℕ → List A
  filled i = tabulate i zero f ++ replicate (size - i) blank

  -- one more behind
  pub tabulate_more : (i from : ℕ) → tabulate (suc i) from f ≡ tabulate i from f ++ (f (from + i) ∷ [])
  tabulate_more zero from = ap (λ (k : ℕ). f k ∷ []) (let e : from ≡ from + 0 = omega arith in e)
  tabulate_more (suc i) from =
      ap (λ (l : List A). f from ∷ l)
      (tabulate_more i (suc from) ∙ ap (λ (k : ℕ). tabulate i (suc from) f ++ (f k ∷ [])) (let e : suc from + i ≡ from + suc i = omega arith in e))

  -- none is set
  pub fill_none : filled 0 ≡ replicate size blank
  fill_none = ap (λ (k : ℕ). replicate k blank) (let e : size - 0 ≡ size = omega arith in e)

  -- one more is set
  pub fill_next : (i : ℕ) → i < size → set (filled i) i (f i) ≡ filled (i + 1)
  fill_next i h =
      let front : List A = tabulate i zero f in
      let rest : List A = replicate (size - (i + 1)) blank in
      ap (λ (k : ℕ). set (front ++ replicate k blank) i (f i)) (let e : size - i ≡ suc (size - (i + 1)) = omega arith in e)
      ∙ set_at front blank rest (f i) i (tabulate_length i zero f)
      ∙ sym (append_snoc front (f i) rest)
      ∙ ap (λ (l : List A). l ++ rest)
      (ap (λ (k : ℕ). front ++ (f k ∷ [])) (let e : i ≡ 0 + i = omega arith in e) ∙ sym (tabulate_more i 0)
      ∙ ap (λ (k : ℕ). tabulate k zero f) (sym (add-one i)))

  -- all of them, set or not
  pub fill_length : (k : ℕ) → k ≤ size → length (filled k) ≡ size
  fill_length k h =
      length-append (tabulate k zero f) (replicate (size - k) blank) ∙ omega (arith, tabulate_length k zero f, length-replicate (size - k) blank)

  -- one that is set
  pub fill_at : (k i : ℕ) (d : A) → i < k → get_or (filled k) i d ≡ f i
  fill_at k i d h =
      get_or-append (tabulate k zero f) (replicate (size - k) blank) d i (omega (arith, tabulate_length k zero f)) ∙ tabulate_at k i f d h

  -- and one that is not
  pub fill_past : (k i : ℕ) (d : A) → k ≤ i → i < size → get_or (filled k) i d ≡ blank
  fill_past k i d h b =
      let e : i ≡ length (tabulate k zero f) + (i - k) = omega (arith, tabulate_length k zero f) in
      ap (λ (j : ℕ). get_or (filled k) j d) e
      ∙ get_or-append-add (tabulate k zero f) (replicate (size - k) blank) (i - k) d
      ∙ get_or-replicate (size - k) (i - k) blank d (omega arith)

  -- one that is blank needs no setting
  pub fill_blank : (i : ℕ) → i < size → f i ≡ blank → filled i ≡ filled (i + 1)
  fill_blank i h e =
      let there : f i ≡ get_or (filled i) i blank = e ∙ sym (fill_past i i blank (omega arith) h) in
      sym (set-get_or (filled i) i blank) ∙ ap (set (filled i) i) (sym there) ∙ fill_next i h

  -- as a table of its own
  pub fill_whole : (g : ℕ → A) (k : ℕ) → k ≤ size → ((i : ℕ) → i < k → f i ≡ g i) → ((i : ℕ) → k ≤ i → i < size → blank ≡ g i)
      → filled k ≡ tabulate size zero g
  fill_whole g k h front rest =
      ext_get_or blank (filled k) (tabulate size zero g) (fill_length k h ∙ sym (tabulate_length size zero g))
      (λ i b. let c : i < size = omega (arith, fill_length k h) in go i c (leb k i) refl ∙ sym (tabulate_at size i g blank c))
    where
      go : (i : ℕ) → i < size → (t : Bool) → leb k i ≡ t → get_or (filled k) i blank ≡ g i
      go i c true e = let past = leb-true k i e in fill_past k i blank past c ∙ rest i past c
      go i c false e = let there = leb-false k i e in fill_at k i blank there ∙ front i there
