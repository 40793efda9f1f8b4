-- "each figure of [a] chain at each place is the same over walks of at most r passages as over walks of at most r − 1": what `unchanged` of crate `walked`
-- tests, for r up to 64. Assumes nothing.
use Prim.Native.Nat.{ℕ, zero, suc, ◌<◌, ◌≤◌}
use mathlib.Core.Path.{◌≡◌, refl, sym, ap, ◌∙◌, subst}
use mathlib.Core.Bool.{true}
use mathlib.Core.List.{List, [], ◌∷◌, ◌++◌}
use mathlib.Core.Option.{Option, none, some}
use native.Mathlib.Numerals.{add-one}
use native.Mathlib.Omega.{arith}
use native.Mathlib.Decide.{ℕ_discrete}
use native.Mathlib.Nat.{not-suc-le-zero}
use lib.Dec.{T}
use lib.ListN.{length, get_or, drop, get_or-append}
use lib.Seq.{ext_get_or}
use Rattle.std.proofs.lemmas.Bool.{and_parts}
use Rattle.std.specs.Cmp.Lexicographic.{bytes_decides}
use Rattle.std.specs.Prelude.{Option as Found, Some, None}
use Rattle.walks.specs.Keys.{legal_keys}
use Rattle.walks.specs.Walks.{Graph, Network, Within}
use Rattle.walks.proofs.Optimal.{figures_unique}
use Rattle.meaning.specs.Limits.{GraphFits}
use Rattle.meaning.specs.Meaning.{Same}
use Rattle.meaning.specs.Query.{network_of}
use Rattle.walked.specs.declared.PathReduction.{PathReduction}
use Rattle.walked.specs.Walked.{all_figures, figures_at, three_figures, same_figures, unchanged}
use Rattle.walked.proofs.Laws.{figures_length, same_at}
use Rattle.walked_laws.proofs.Main.{numbers, query_path, walked_figures}

-- figures are the same as themselves, and as no others
same_self : (a : Found (List ℕ)) → same_figures a a ≡ true
same_self None = refl
same_self (Some xs) = (bytes_decides xs xs).1 refl

same_is : (a b : Found (List ℕ)) → same_figures a b ≡ true → a ≡ b
same_is None None e = refl
same_is None (Some ys) e = absurd (subst T (sym e) tt)
same_is (Some xs) None e = absurd (subst T (sym e) tt)
same_is (Some xs) (Some ys) e = ap Some ((bytes_decides xs ys).0 e)

-- padded figures of as many keys are the same only where the figures are
padded : (n : ℕ) (o p : Option (List ℕ)) → ((xs : List ℕ) → o ≡ some xs → length xs ≡ n)
    → ((ys : List ℕ) → p ≡ some ys → length ys ≡ n) → three_figures o ≡ three_figures p → o ≡ p
padded n none none f g e = refl
padded n none (some ys) f g e = cc
padded n (some xs) none f g e = cc
padded n (some xs) (some ys) f g e = ap some (ext_get_or 0 xs ys (f xs refl ∙ sym (g ys refl)) at)
  where
    rest : List ℕ → List ℕ
    rest l = drop (length l) (0 ∷ 0 ∷ 0 ∷ [])

    whole : xs ++ rest xs ≡ ys ++ rest ys
    whole = cc

    at : (i : ℕ) → i < length xs → get_or xs i 0 ≡ get_or ys i 0
    at i l =
        let lx = f xs refl in
        let ly = g ys refl in
        let k : i < length ys = omega arith in
        sym (get_or-append xs (rest xs) 0 i l) ∙ ap (λ (z : List ℕ). get_or z i 0) whole ∙ get_or-append ys (rest ys) 0 i k

same_padded : (n : ℕ) (o p : Option (List ℕ)) → ((xs : List ℕ) → o ≡ some xs → length xs ≡ n)
    → ((ys : List ℕ) → p ≡ some ys → length ys ≡ n) → same_figures (three_figures o) (three_figures p) ≡ true → o ≡ p
same_padded n o p f g e = padded n o p f g (same_is (three_figures o) (three_figures p) e)

module _ (rows : List ℕ) (path : PathReduction) (before : ℕ) where
  unchanged_yes : (n : ℕ) → unchanged rows n path before ≡ true → (v : ℕ) → v < n → same_at rows path before v ≡ true
  unfolding unchanged
  unchanged_yes zero e v h = absurd (not-suc-le-zero h)
  unchanged_yes (suc n) e v h =
      go (ℕ_discrete v n) (λ l. unchanged_yes n (and_parts (unchanged rows n path before) (same_at rows path before n) e).0 v l)
    where
      go : Dec (v ≡ n) → (v < n → same_at rows path before v ≡ true) → same_at rows path before v ≡ true
      go (yes q) f =
          subst (λ (t : ℕ). same_at rows path before t ≡ true) (sym q) (and_parts (unchanged rows n path before) (same_at rows path before n) e).1
      go (no q) f = f (omega arith)

  unchanged_of : (n : ℕ) → ((v : ℕ) → v < n → same_at rows path before v ≡ true) → unchanged rows n path before ≡ true
  unfolding unchanged
  unchanged_of zero f = refl
  unchanged_of (suc n) f = rw (unchanged_of n (λ v h. f v (omega arith))) (f n (omega arith))

module _ (g : Graph) (fits : GraphFits g) (path : PathReduction) (legal : T (legal_keys (query_path path).keys)) (r : ℕ) (few : suc r ≤ 64) where
  abbrev N : Network
  N = network_of g (query_path path)

  abbrev at : ℕ → ℕ → Option (List ℕ)
  at v m = all_figures (numbers g.edges) path v m

  -- the figures that the program compares
  compared : (v : ℕ) → same_at (numbers g.edges) path r v ≡ same_figures (three_figures (at v r)) (three_figures (at v (suc r)))
  unfolding figures_at
  compared v = ap (λ (m : ℕ). same_figures (three_figures (at v r)) (three_figures (at v m))) (add-one r)

  -- what `unchanged` says is so
  pub unchanged_means : unchanged (numbers g.edges) g.vertices path r ≡ true → Same g r (query_path path)
  unchanged_means e v h a b fa fb =
      let ks = (query_path path).keys in
      let s = sym (compared v) ∙ unchanged_yes (numbers g.edges) path r g.vertices e v h in
      figures_unique N ks (Within N (suc r) v) a (at v (suc r)) fa (walked_figures g fits path legal v (suc r) h few)
      ∙ sym (same_padded (length ks) (at v r) (at v (suc r)) (figures_length ks _)
      (figures_length ks _) s)
      ∙ figures_unique N ks (Within N r v) (at v r) b (walked_figures g fits path legal v r h (omega arith)) fb

  -- and what is so, it says
  pub means_unchanged : Same g r (query_path path) → unchanged (numbers g.edges) g.vertices path r ≡ true
  means_unchanged S = unchanged_of (numbers g.edges) path r g.vertices each
    where
      each : (v : ℕ) → v < g.vertices → same_at (numbers g.edges) path r v ≡ true
      each v h =
          let q = S v h (at v (suc r)) (at v r) (walked_figures g fits path legal v (suc r) h few) (walked_figures g fits path legal v r h (omega arith)) in
          compared v ∙ ap (λ (o : Option (List ℕ)). same_figures (three_figures (at v r)) (three_figures o)) q ∙ same_self (three_figures (at v r))
