-- TERMS AND THEIR BYTES, one after the other: the laws of `One`, of several terms. Assumes nothing.
use Prim.Native.Nat.{ℕ, suc, ◌+◌}
use mathlib.Core.Path.{◌≡◌, refl, sym, ap, ap₂, ◌∙◌, subst}
use mathlib.Core.List.{List, [], ◌∷◌, ◌++◌, append_assoc, append-nil}
use native.Mathlib.Omega.{arith}
use lib.ListN.{length, drop, length-append}
use Rattle.term_text.proofs.Steps.{drop_on}
use Rattle.nodes.specs.declared.Term.{Term}
use Rattle.draft.specs.Texts.{texts}
use Rattle.nodes.specs.Text.{nodes_text, term_text}
use Rattle.nodes.specs.Steps.{collected}
use Rattle.draft.proofs.Texts.{text_append}
use Rattle.nodes.proofs.Fields.{One}

-- where the bytes b stand in s, the n terms l are collected, and those behind them
abbrev pub Collects : List ℕ → ℕ → List ℕ → List Term → Type 0
Collects s n b l = (i k : ℕ) (rest : List ℕ) → drop i s ≡ b ++ rest → collected (n + k) s i ≡ l ++ collected k s (i + length b)

-- n terms and their bytes: these are collected as the terms, wherever they stand, and are their text
pub record Written (n : ℕ) (b : List ℕ) (l : List Term) : Type 0 where
  pub collects : (s : List ℕ) → Collects s n b l
  pub text : nodes_text l ≡ b

-- none
pub none_written : Written 0 [] []
unfolding texts
none_written = record {
  collects = λ s i k rest d. ap₂ (λ (n j : ℕ). collected n s j) (let e : 0 + k ≡ k = omega arith in e) (let e : i ≡ i + 0 = omega arith in e);
  text = refl;
}

-- some, and others behind them
pub both_written : {n m : ℕ} {b c : List ℕ} {l r : List Term} → Written n b l → Written m c r → Written (n + m) (b ++ c) (l ++ r)
both_written {n} {m} {b} {c} {l} {r} v w = record {
  collects = λ s i k rest d.
      let d1 : drop i s ≡ b ++ (c ++ rest) = d ∙ append_assoc b c rest in
      let d2 = drop_on s i (length b) b (c ++ rest) d1 refl in
      let end : i + length b + length c ≡ i + length (b ++ c) = omega (arith, length-append b c) in
      ap (λ (j : ℕ). collected j s i) (let z : n + m + k ≡ n + (m + k) = omega arith in z)
      ∙ v.collects s i (m + k) (c ++ rest) d1
      ∙ ap (λ (x : List Term). l ++ x) (w.collects s (i + length b) k rest d2 ∙ ap (λ (j : ℕ). r ++ collected k s j) end)
      ∙ sym (append_assoc l r (collected k s (i + length (b ++ c))));
  text = text_append term_text l r ∙ ap₂ ◌++◌ v.text w.text;
}

-- one, and others behind it
pub more_written : {m : ℕ} {b c : List ℕ} {x : Term} {r : List Term} → One b x → Written m c r → Written (suc m) (b ++ c) (x ∷ r)
unfolding texts
more_written {m} {b} {c} {x} {r} v w = record {
  collects = λ s i k rest d.
      let d1 : drop i s ≡ b ++ (c ++ rest) = d ∙ append_assoc b c rest in
      let d2 = drop_on s i (length b) b (c ++ rest) d1 refl in
      let end : i + length b + length c ≡ i + length (b ++ c) = omega (arith, length-append b c) in
      ap (λ (j : ℕ). collected j s i) (let z : suc m + k ≡ suc (m + k) = omega arith in z)
      ∙ v.collects s i (m + k) (c ++ rest) d1
      ∙ ap (λ (l : List Term). x ∷ l) (w.collects s (i + length b) k rest d2 ∙ ap (λ (j : ℕ). r ++ collected k s j) end);
  text = ap₂ ◌++◌ v.text w.text;
}

-- one alone
pub one_written : {b : List ℕ} {x : Term} → One b x → Written 1 b (x ∷ [])
one_written {b} {x} v = subst (λ (l : List ℕ). Written 1 l (x ∷ [])) (append-nil b) (more_written v none_written)
