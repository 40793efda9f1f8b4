-- `Optimal`: an answer is the figures of a walk of the set that is at least as good as every walk of it. It is what the meaning says, by `figures_optimal` and
-- `optimal_figures`; it is unique; and it goes through `best`, an extension and a larger set whose walks are no better. Assumes nothing.
use Prim.Native.Nat.{ℕ}
use mathlib.Core.Path.{◌≡◌, refl, sym, ap, ◌∙◌, subst}
use mathlib.Core.Logic.{◌⊎◌, inl, inr}
use mathlib.Core.Bool.{Bool, true, false, cond}
use mathlib.Core.List.{List, [], ◌∷◌}
use mathlib.Core.Option.{Option, none, some}
use lib.Dec.{T}
use Rattle.walks.specs.Keys.{Good, in_order, kept}
use Rattle.walks.specs.Meaning.{Figures, Keep, Kept, Listed}
use Rattle.walks.specs.Rounds.{best, extend_all, precedes, through}
use Rattle.walks.specs.Walks.{Network, WalkSet, figure, figures}
use Rattle.walks.proofs.Keys.{Better, better_not_good, better_or_equal, good_anti, good_of_better, good_of_eq}
use Rattle.walks.proofs.Order.{Lex, extend_figures, lex_anti, lex_ext, lex_refl, lex_test, lex_trans}

-- no walk in the set; or the figures xs of a walk of the set that is at least as good as each
abbrev pub Optimal : Network → List ℕ → WalkSet → Option (List ℕ) → Type 0
Optimal N ks P none = (s : ℕ) (w : List ℕ) → P s w → ⊥
Optimal N ks P (some xs) =
    (s : ℕ) × (w : List ℕ) × P s w × (figures N ks s w ≡ xs) × ((s' : ℕ) (w' : List ℕ) → P s' w' → Lex ks xs (figures N ks s' w'))

-- the walks of either set
abbrev pub Either : WalkSet → WalkSet → WalkSet
Either P Q s w = P s w ⊎ Q s w

-- the walks of Q with the edge i after them
abbrev pub Then : ℕ → WalkSet → WalkSet
Then i Q s w = (w₀ : List ℕ) × (w ≡ i ∷ w₀) × Q s w₀

module _ (N : Network) where
  some_unique : (ks : List ℕ) (P : WalkSet) (xs ys : List ℕ) → Optimal N ks P (some xs) → Optimal N ks P (some ys) → xs ≡ ys
  some_unique ks P xs ys o p = lex_anti ks xs ys (rw p.3 at (o.4 _ _ p.2)) (rw o.3 at (p.4 _ _ o.2))

  -- a set has one answer
  pub optimal_unique : (ks : List ℕ) (P : WalkSet) (a b : Option (List ℕ)) → Optimal N ks P a → Optimal N ks P b → a ≡ b
  optimal_unique ks P none none o p = refl
  optimal_unique ks P none (some ys) o p = absurd (o p.0 p.1 p.2)
  optimal_unique ks P (some xs) none o p = absurd (p o.0 o.1 o.2)
  optimal_unique ks P (some xs) (some ys) o p = ap some (some_unique ks P xs ys o p)

  -- the larger set P has no better walk
  pub optimal_larger : (ks : List ℕ) (Q P : WalkSet) (a : Option (List ℕ)) → Optimal N ks Q a
      → ((s : ℕ) (w : List ℕ) → Q s w → P s w)
      → ((s : ℕ) (w : List ℕ) → P s w → (s' : ℕ) × (w' : List ℕ) × Q s' w' × Lex ks (figures N ks s' w') (figures N ks s w))
      → Optimal N ks P a
  optimal_larger ks Q P none o f g = λ s w p. let q = g s w p in o q.0 q.1 q.2
  optimal_larger ks Q P (some xs) o f g = (
    o.0,
    o.1,
    f o.0 o.1 o.2,
    o.3,
    λ s w p. let q = g s w p in lex_trans ks _ _ _ (o.4 q.0 q.1 q.2) q.3,
  )

  -- the same set
  pub optimal_iff : (ks : List ℕ) (Q P : WalkSet) (a : Option (List ℕ)) → Optimal N ks Q a
      → ((s : ℕ) (w : List ℕ) → Q s w → P s w) → ((s : ℕ) (w : List ℕ) → P s w → Q s w) → Optimal N ks P a
  optimal_iff ks Q P a o f g = optimal_larger ks Q P a o f (λ s w p. (s, w, g s w p, lex_refl N ks s w))

  -- two sets with one answer: each walk of the one is matched in the other
  pub optimal_shared : (ks : List ℕ) (P Q : WalkSet) (a : Option (List ℕ)) → Optimal N ks Q a → Optimal N ks P a → (s : ℕ) (w : List ℕ) → P s w
      → (s' : ℕ) × (w' : List ℕ) × Q s' w' × Lex ks (figures N ks s' w') (figures N ks s w)
  optimal_shared ks P Q none o p s w h = absurd (p s w h)
  optimal_shared ks P Q (some xs) o p s w h = (o.0, o.1, o.2, rw o.3 (p.4 s w h))

  -- the test says which of two answers is the answer of both sets together
  optimal_both : (ks : List ℕ) (P Q : WalkSet) (xs ys : List ℕ) (b : Bool) → precedes ks xs ys ≡ b → Optimal N ks P (some xs)
      → Optimal N ks Q (some ys)
      → cond b (Lex ks xs ys) (Lex ks ys xs) → Optimal N ks (Either P Q) (cond b (some xs) (some ys))
  optimal_both ks P Q xs ys true e o p l = (o.0, o.1, inl o.2, o.3, go)
    where
      go : (s' : ℕ) (w' : List ℕ) → P s' w' ⊎ Q s' w' → Lex ks xs (figures N ks s' w')
      go s' w' (inl h) = o.4 s' w' h
      go s' w' (inr h) = lex_trans ks xs ys _ l (p.4 s' w' h)
  optimal_both ks P Q xs ys false e o p l = (p.0, p.1, inr p.2, p.3, go)
    where
      go : (s' : ℕ) (w' : List ℕ) → P s' w' ⊎ Q s' w' → Lex ks ys (figures N ks s' w')
      go s' w' (inl h) = lex_trans ks ys xs _ l (o.4 s' w' h)
      go s' w' (inr h) = p.4 s' w' h

  figures_test : (ks : List ℕ) (P Q : WalkSet) (xs ys : List ℕ) → Optimal N ks P (some xs) → Optimal N ks Q (some ys) → (b : Bool)
      → precedes ks xs ys ≡ b
      → cond b (Lex ks xs ys) (Lex ks ys xs)
  figures_test ks P Q xs ys o p b e =
      subst (λ (zs : List ℕ). cond b (Lex ks zs ys) (Lex ks ys zs)) o.3
      (subst (λ (zs : List ℕ). cond b (Lex ks (figures N ks o.0 o.1) zs) (Lex ks zs (figures N ks o.0 o.1))) p.3
      (lex_test N ks o.0 o.1 p.0 p.1 b (rw (o.3, p.3) e)))

  -- the better of two answers is the answer of both sets together
  pub optimal_best : (ks : List ℕ) (P Q : WalkSet) (a b : Option (List ℕ)) → Optimal N ks P a → Optimal N ks Q b
      → Optimal N ks (Either P Q) (best ks a b)
  unfolding best
  optimal_best ks P Q none none o p = neither
    where
      neither : (s : ℕ) (w : List ℕ) → P s w ⊎ Q s w → ⊥
      neither s w (inl h) = o s w h
      neither s w (inr h) = p s w h
  optimal_best ks P Q none (some ys) o p = (p.0, p.1, inr p.2, p.3, go)
    where
      go : (s' : ℕ) (w' : List ℕ) → P s' w' ⊎ Q s' w' → Lex ks ys (figures N ks s' w')
      go s' w' (inl h) = absurd (o s' w' h)
      go s' w' (inr h) = p.4 s' w' h
  optimal_best ks P Q (some xs) none o p = (o.0, o.1, inl o.2, o.3, go)
    where
      go : (s' : ℕ) (w' : List ℕ) → P s' w' ⊎ Q s' w' → Lex ks xs (figures N ks s' w')
      go s' w' (inl h) = o.4 s' w' h
      go s' w' (inr h) = absurd (p s' w' h)
  optimal_best ks P Q (some xs) (some ys) o p = optimal_both ks P Q xs ys (precedes ks xs ys) refl o p (figures_test ks P Q xs ys o p (precedes ks xs ys) refl)

  -- an answer extended by an edge is the answer of the extended walks
  pub optimal_through : (ks : List ℕ) → T (in_order ks) → (i : ℕ) (Q : WalkSet) (a : Option (List ℕ)) → Optimal N ks Q a
      → Optimal N ks (Then i Q) (through ks (N.edge i) a)
  optimal_through ks t i Q none o = λ s w h. o s h.0 h.2
  optimal_through ks t i Q (some xs) o = (
    o.0,
    i ∷ o.1,
    (o.1, refl, o.2),
    sym (extend_figures N ks i o.0 o.1) ∙ ap (extend_all ks (N.edge i)) o.3,
    λ s w h. rw h.1 (rw (← (extend_figures N ks i s h.0)) (lex_ext ks t (N.edge i) xs _ (o.4 s h.0 h.2))),
  )

  -- From the meaning to `Optimal`: there is a walk that all keys keep, its figures are those listed, and none of the set is better.
  listed_kept : (ks : List ℕ) (P : WalkSet) (xs : List ℕ) → Listed N ks P xs → (s : ℕ) × (w : List ℕ) × P s w × (figures N ks s w ≡ xs)
      × Kept N ks P s w
  listed_kept [] P [] l = (l.0, l.1, l.2, refl, l.2)
  listed_kept [] P (x ∷ xs) l = absurd l
  listed_kept (k ∷ ks) P [] l = absurd l
  listed_kept (k ∷ ks) P (x ∷ xs) l =
      let r = listed_kept ks (Keep N k P) xs l.1 in
      (r.0, r.1, r.2.0, cc (l.0 r.0 r.1 r.2, r.3), r.4)

  kept_from : (ks : List ℕ) (P : WalkSet) (s : ℕ) (w : List ℕ) → Kept N ks P s w → P s w
  kept_from [] P s w h = h
  kept_from (k ∷ ks) P s w h = (kept_from ks (Keep N k P) s w h).0

  kept_best : (ks : List ℕ) (P : WalkSet) (s : ℕ) (w : List ℕ) → Kept N ks P s w → (s' : ℕ) (w' : List ℕ) → P s' w'
      → Lex ks (figures N ks s w) (figures N ks s' w')
  kept_best [] P s w h s' w' p = tt
  kept_best (k ∷ ks) P s w h s' w' p = go (kept_best ks (Keep N k P) s w h s' w') (kept_from ks (Keep N k P) s w h)
    where
      go : (Keep N k P s' w' → Lex ks (figures N ks s w) (figures N ks s' w')) → Keep N k P s w
          → Better (kept k) (figure N k s w) (figure N k s' w')
          ⊎ ((figure N k s w ≡ figure N k s' w') × Lex ks (figures N ks s w) (figures N ks s' w'))
      go f g = at (better_or_equal (kept k) (figure N k s w) (figure N k s' w') (g.1 s' w' p))
        where
          at : Better (kept k) (figure N k s w) (figure N k s' w') ⊎ (figure N k s w ≡ figure N k s' w')
              → Better (kept k) (figure N k s w) (figure N k s' w')
              ⊎ ((figure N k s w ≡ figure N k s' w') × Lex ks (figures N ks s w) (figures N ks s' w'))
          at (inl b) = inl b
          at (inr e) = inr (e, f (p, λ s'' w'' q. subst (λ (x : ℕ). Good (kept k) x (figure N k s'' w'')) e (g.1 s'' w'' q)))

  -- the figures that the meaning lists are the best
  pub figures_optimal : (ks : List ℕ) (P : WalkSet) (a : Option (List ℕ)) → Figures N ks P a → Optimal N ks P a
  figures_optimal ks P none f = f
  figures_optimal ks P (some xs) f =
      let r = listed_kept ks P xs f in
      (r.0, r.1, r.2, r.3, λ s w p. rw (← r.3) (kept_best ks P r.0 r.1 r.4 s w p))

  -- what an order of lists says of their first figures, and of the rest where the first are equally good
  head_good : (k : ℕ) (ks : List ℕ) (x y : ℕ) (xs ys : List ℕ) → Better (kept k) x y ⊎ ((x ≡ y) × Lex ks xs ys) → Good (kept k) x y
  head_good k ks x y xs ys (inl b) = good_of_better (kept k) x y b
  head_good k ks x y xs ys (inr e) = good_of_eq (kept k) x y e.0

  tail_lex : (k : ℕ) (ks : List ℕ) (x y : ℕ) (xs ys : List ℕ) → Good (kept k) y x → Better (kept k) x y ⊎ ((x ≡ y) × Lex ks xs ys)
      → Lex ks xs ys
  tail_lex k ks x y xs ys g (inl b) = absurd (better_not_good (kept k) x y b g)
  tail_lex k ks x y xs ys g (inr e) = e.1

  -- back: a walk that is at least as good as each has the figures that the meaning lists
  listed_of : (ks : List ℕ) (P : WalkSet) (s : ℕ) (w : List ℕ) → P s w
      → ((s' : ℕ) (w' : List ℕ) → P s' w' → Lex ks (figures N ks s w) (figures N ks s' w'))
      → Listed N ks P (figures N ks s w)
  listed_of [] P s w p f = (s, w, p)
  listed_of (k ∷ ks) P s w p f = (same, listed_of ks (Keep N k P) s w keep tail)
    where
      keep : Keep N k P s w
      keep = (p, λ s' w' p'. head_good k ks _ _ _ _ (f s' w' p'))

      same : (s' : ℕ) (w' : List ℕ) → Keep N k P s' w' → figure N k s' w' ≡ figure N k s w
      same s' w' q = good_anti (kept k) (figure N k s' w') (figure N k s w) (q.1 s w p) (keep.1 s' w' q.0)

      tail : (s' : ℕ) (w' : List ℕ) → Keep N k P s' w' → Lex ks (figures N ks s w) (figures N ks s' w')
      tail s' w' q = tail_lex k ks (figure N k s w) (figure N k s' w') (figures N ks s w) (figures N ks s' w') (q.1 s w p) (f s' w' q.0)

  -- and the best are those that the meaning lists
  pub optimal_figures : (ks : List ℕ) (P : WalkSet) (a : Option (List ℕ)) → Optimal N ks P a → Figures N ks P a
  optimal_figures ks P none o = o
  optimal_figures ks P (some xs) o = subst (λ (zs : List ℕ). Listed N ks P zs) o.3
      (listed_of ks P o.0 o.1 o.2 (λ s' w' p. rw o.3 (o.4 s' w' p)))

  -- THE MEANING DETERMINES THE FIGURES
  pub figures_unique : (ks : List ℕ) (P : WalkSet) (a b : Option (List ℕ)) → Figures N ks P a → Figures N ks P b → a ≡ b
  figures_unique ks P a b f g = optimal_unique ks P a b (figures_optimal ks P a f) (figures_optimal ks P b g)
