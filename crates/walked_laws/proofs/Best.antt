-- Of listed walks, those with the best figure in a key are the walks that the meaning keeps, key by key. Assumes nothing.
use Prim.Native.Nat.{ℕ, zero, suc}
use mathlib.Core.Path.{◌≡◌, refl, sym, ap, ◌∙◌, subst}
use mathlib.Core.Logic.{◌⊎◌, inl, inr}
use mathlib.Core.Bool.{Bool, true, false, cond}
use mathlib.Core.List.{List, [], ◌∷◌, foldl}
use mathlib.Core.Option.{some}
use native.Mathlib.Omega.{arith}
use borrow.Author.Tests.{eq-eqb, eqb-true, ltb-false, ltb-true}
use lib.Dec.{T, eqb, leb, leb→le}
use Rattle.value.specs.declared.Value.{Value}
use Rattle.value.specs.declared.Value.TheVariants.{Absent, Number}
use Rattle.walks.specs.Keys.{Good, all_known, kept, known, key_row}
use Rattle.walks.specs.Meaning.{Figures, Keep, Listed}
use Rattle.walks.specs.Walks.{Network, WalkSet, figure}
use Rattle.walks.proofs.Keys.{good_anti, good_refl, good_trans}
use Rattle.walks.proofs.Pigeons.{In}
use Rattle.walks.proofs.Tests.{and_left, and_right}
use Rattle.walked.specs.declared.Walk.{Walk}
use Rattle.walked.specs.Walked.{beats, best, better, figure_of, figures, put_first, sift}
use Rattle.walked.proofs.Laws.{figures_first, figures_none}

-- the six keys
pub by_key : (F : ℕ → Type 0) → F 1 → F 2 → F 3 → F 4 → F 5 → F 6 → (k : ℕ) → T (known k) → F k
by_key F a b c d e f zero h = absurd h
by_key F a b c d e f (suc zero) h = a
by_key F a b c d e f (suc (suc zero)) h = b
by_key F a b c d e f (suc (suc (suc zero))) h = c
by_key F a b c d e f (suc (suc (suc (suc zero)))) h = d
by_key F a b c d e f (suc (suc (suc (suc (suc zero))))) h = e
by_key F a b c d e f (suc (suc (suc (suc (suc (suc zero)))))) h = f
by_key F a b c d e f (suc (suc (suc (suc (suc (suc (suc k))))))) h =
    let m = suc (suc (suc (suc (suc (suc (suc k)))))) in
    absurd (omega (arith, leb→le m 6 (and_right (leb 1 m) (leb m 6) h)))

beats_true : (k : ℕ) → T (known k) → (x y : ℕ) → beats k x y ≡ true → Good (kept k) x y
unfolding beats key_row
beats_true = by_key (λ k. (x y : ℕ) → beats k x y ≡ true → Good (kept k) x y)
    (λ x y e. omega (arith, ltb-true x y e))
    (λ x y e. omega (arith, ltb-true x y e))
    (λ x y e. omega (arith, ltb-true x y e))
    (λ x y e. omega (arith, ltb-true y x e))
    (λ x y e. omega (arith, ltb-true y x e))
    (λ x y e. omega (arith, ltb-true x y e))

beats_false : (k : ℕ) → T (known k) → (x y : ℕ) → beats k x y ≡ false → Good (kept k) y x
unfolding beats key_row
beats_false = by_key (λ k. (x y : ℕ) → beats k x y ≡ false → Good (kept k) y x)
    (λ x y e. ltb-false x y e)
    (λ x y e. ltb-false x y e)
    (λ x y e. ltb-false x y e)
    (λ x y e. ltb-false y x e)
    (λ x y e. ltb-false y x e)
    (λ x y e. ltb-false x y e)

-- b is the figure of one of the walks; it is at least as good as that of each
abbrev Attained : ℕ → ℕ → List Walk → Type 0
Attained k b ws = (x : Walk) × In x ws × (figure_of k x ≡ b)

abbrev Leading : ℕ → ℕ → List Walk → Type 0
Leading k b ws = (x : Walk) → In x ws → Good (kept k) b (figure_of k x)

-- what is found is the best of y and the walks
abbrev Held : ℕ → ℕ → List Walk → Value → Type 0
Held k y ws v = (b : ℕ) × (v ≡ Number b) × Good (kept k) b y × ((b ≡ y) ⊎ Attained k b ws) × Leading k b ws

abbrev Best : ℕ → List Walk → Value → Type 0
Best k ws Absent = (x : Walk) → In x ws → ⊥
Best k ws (Number b) = Attained k b ws × Leading k b ws

module _ (k : ℕ) where
  abbrev after : Value → List Walk → Value
  after = foldl (λ found w. better k found (figure_of k w))

  held_new : (y : ℕ) (x : Walk) (ws : List Walk) (v : Value) → Good (kept k) (figure_of k x) y → Held k (figure_of k x) ws v → Held k y (x ∷ ws) v
  held_new y x ws v g r = (r.0, r.1, good_trans (kept k) r.0 (figure_of k x) y r.2 g, inr (at r.3), each)
    where
      at : (r.0 ≡ figure_of k x) ⊎ Attained k r.0 ws → Attained k r.0 (x ∷ ws)
      at (inl e) = (x, inl refl, sym e)
      at (inr a) = (a.0, inr a.1, a.2)

      each : (z : Walk) → In z (x ∷ ws) → Good (kept k) r.0 (figure_of k z)
      each z (inl e) = rw e r.2
      each z (inr i) = r.4 z i

  held_old : (y : ℕ) (x : Walk) (ws : List Walk) (v : Value) → Good (kept k) y (figure_of k x) → Held k y ws v → Held k y (x ∷ ws) v
  held_old y x ws v g r = (r.0, r.1, r.2, at r.3, each)
    where
      at : (r.0 ≡ y) ⊎ Attained k r.0 ws → (r.0 ≡ y) ⊎ Attained k r.0 (x ∷ ws)
      at (inl e) = inl e
      at (inr a) = inr (a.0, inr a.1, a.2)

      each : (z : Walk) → In z (x ∷ ws) → Good (kept k) r.0 (figure_of k z)
      each z (inl e) = rw e (good_trans (kept k) r.0 y (figure_of k x) r.2 g)
      each z (inr i) = r.4 z i

  module _ (h : T (known k)) where
    held : (y : ℕ) (ws : List Walk) → Held k y ws (after (Number y) ws)
    unfolding better
    held y [] = (y, refl, good_refl (kept k) y, inl refl, λ x i. absurd i)
    held y (x ∷ ws) = go (beats k (figure_of k x) y) refl (held (figure_of k x) ws) (held y ws)
      where
        go : (b : Bool) → beats k (figure_of k x) y ≡ b → Held k (figure_of k x) ws (after (Number (figure_of k x)) ws)
            → Held k y ws (after (Number y) ws)
            → Held k y (x ∷ ws) (after (cond (beats k (figure_of k x) y) (Number (figure_of k x)) (Number y)) ws)
        go true e f g = rw e (held_new y x ws (after (Number (figure_of k x)) ws) (beats_true k h (figure_of k x) y e) f)
        go false e f g = rw e (held_old y x ws (after (Number y) ws) (beats_false k h (figure_of k x) y e) g)

    best_is : (ws : List Walk) → Best k ws (best k ws)
    unfolding better
    best_is [] = λ x i. i
    best_is (x ∷ ws) =
        let r = held_new (figure_of k x) x ws (after (Number (figure_of k x)) ws) (good_refl (kept k) (figure_of k x)) (held (figure_of k x) ws) in
        subst (Best k (x ∷ ws)) (sym r.1) (at r.0 r.3, r.4)
      where
        at : (b : ℕ) → (b ≡ figure_of k x) ⊎ Attained k b (x ∷ ws) → Attained k b (x ∷ ws)
        at b (inl e) = (x, inl refl, sym e)
        at b (inr a) = a

-- a walk that `sift` keeps is in the list and passes the test
pub in_sift : (p : Walk → Bool) (ws : List Walk) (x : Walk) → In x (sift p ws) → In x ws × (p x ≡ true)
in_sift p [] x i = absurd i
in_sift p (w ∷ ws) x i = go (p w) refl i (in_sift p ws x)
  where
    go : (b : Bool) → p w ≡ b → In x (cond b (w ∷ sift p ws) (sift p ws)) → (In x (sift p ws) → In x ws × (p x ≡ true)) → In x (w ∷ ws)
        × (p x ≡ true)
    go true e (inl q) f = (inl q, ap p q ∙ e)
    go true e (inr j) f = (inr (f j).0, (f j).1)
    go false e j f = (inr (f j).0, (f j).1)

-- and one in the list that passes it is kept
pub sift_in : (p : Walk → Bool) (ws : List Walk) (x : Walk) → In x ws → p x ≡ true → In x (sift p ws)
sift_in p [] x i e = absurd i
sift_in p (w ∷ ws) x (inl q) e = let t : p w ≡ true = sym (ap p q) ∙ e in rw t (inl q)
sift_in p (w ∷ ws) x (inr j) e = go (p w) (sift_in p ws x j e)
  where
    go : (b : Bool) → In x (sift p ws) → In x (cond b (w ∷ sift p ws) (sift p ws))
    go true i = inr i
    go false i = i

-- a listed walk and a walk of the graph have the same figures
abbrev pub Like : Network → Walk → ℕ → List ℕ → Type 0
Like N x s w = (k : ℕ) → T (known k) → figure_of k x ≡ figure N k s w

-- the list shows the set: each listed walk is like one of the set, and each of the set like a listed one
pub record Shown (N : Network) (ws : List Walk) (P : WalkSet) : Type 0 where
  pub sound : (x : Walk) → In x ws → (s : ℕ) × (w : List ℕ) × P s w × Like N x s w
  pub full : (s : ℕ) (w : List ℕ) → P s w → (x : Walk) × In x ws × Like N x s w

module _ (N : Network) where
  -- to keep the best of a list is to keep the best of the set
  module _ (k : ℕ) (h : T (known k)) (ws : List Walk) (P : WalkSet) (r : Shown N ws P) (b : ℕ) (a : Attained k b ws) (g : Leading k b ws) where
    kept_is : (s : ℕ) (w : List ℕ) → Keep N k P s w → figure N k s w ≡ b
    kept_is s w q =
        let y = r.full s w q.0 in
        let z = r.sound a.0 a.1 in
        good_anti (kept k) (figure N k s w) b
        (subst (λ (t : ℕ). Good (kept k) (figure N k s w) t) (sym (z.3 k h) ∙ a.2) (q.1 z.0 z.1 z.2))
        (subst (λ (t : ℕ). Good (kept k) b t) (y.2 k h) (g y.0 y.1))

    shown_kept : Shown N (sift (λ x. eqb (figure_of k x) b) ws) (Keep N k P)
    shown_kept = record { sound = from; full = to }
      where
        from : (x : Walk) → In x (sift (λ x. eqb (figure_of k x) b) ws) → (s : ℕ) × (w : List ℕ) × Keep N k P s w × Like N x s w
        from x i =
            let j = in_sift (λ x. eqb (figure_of k x) b) ws x i in
            let z = r.sound x j.0 in
            let e : b ≡ figure N k z.0 z.1 = sym (eqb-true (figure_of k x) b j.1) ∙ z.3 k h in (
              z.0,
              z.1,
              (
                z.2,
                λ s w q.
                    let y = r.full s w q in
                    subst (λ (t : ℕ). Good (kept k) t (figure N k s w)) e (subst (λ (t : ℕ). Good (kept k) b t) (y.2 k h) (g y.0 y.1)),
              ),
              z.3,
            )

        to : (s : ℕ) (w : List ℕ) → Keep N k P s w → (x : Walk) × In x (sift (λ x. eqb (figure_of k x) b) ws) × Like N x s w
        to s w q =
            let y = r.full s w q.0 in
            (y.0, sift_in (λ x. eqb (figure_of k x) b) ws y.0 y.1 (eq-eqb (figure_of k y.0) b (y.2 k h ∙ kept_is s w q)), y.2)

  -- where there is a walk
  listed : (ks : List ℕ) → T (all_known ks) → (ws : List Walk) (P : WalkSet) → Shown N ws P → (x : Walk) → In x ws
      → (xs : List ℕ) × (figures ks ws ≡ some xs) × Listed N ks P xs
  unfolding figures
  listed [] h ws P r x i = let z = r.sound x i in ([], refl, (z.0, z.1, z.2))
  listed (k ∷ ks) h ws P r x i =
      go (best k ws) refl (best_is k (and_left (known k) (all_known ks) h) ws)
      (λ b. listed ks (and_right (known k) (all_known ks) h) (sift (λ w. eqb (figure_of k w) b) ws) (Keep N k P))
    where
      go : (v : Value) → best k ws ≡ v → Best k ws v
          → ((b : ℕ) → Shown N (sift (λ w. eqb (figure_of k w) b) ws) (Keep N k P) → (y : Walk) → In y (sift (λ w. eqb (figure_of k w) b) ws)
          → (xs : List ℕ) × (figures ks (sift (λ w. eqb (figure_of k w) b) ws) ≡ some xs) × Listed N ks (Keep N k P) xs)
          → (xs : List ℕ) × (figures (k ∷ ks) ws ≡ some xs) × Listed N (k ∷ ks) P xs
      go Absent e t f = absurd (t x i)
      go (Number b) e t f =
          let hk = and_left (known k) (all_known ks) h in
          let a = t.0 in
          let q = f b (shown_kept k hk ws P r b a t.1) a.0
          (sift_in (λ w. eqb (figure_of k w) b) ws a.0 a.1 (eq-eqb (figure_of k a.0) b a.2)) in
          (b ∷ q.0, figures_first k ks ws b e ∙ ap (put_first b) q.1, (kept_is k hk ws P r b a t.1, q.2))

  -- THE FIGURES OF A LIST ARE THOSE OF THE SET THAT IT SHOWS
  pub figures_shown : (k : ℕ) (ks : List ℕ) → T (all_known (k ∷ ks)) → (ws : List Walk) (P : WalkSet) → Shown N ws P
      → Figures N (k ∷ ks) P (figures (k ∷ ks) ws)
  figures_shown k ks h ws P r = go (best k ws) refl (best_is k (and_left (known k) (all_known ks) h) ws)
    where
      go : (v : Value) → best k ws ≡ v → Best k ws v → Figures N (k ∷ ks) P (figures (k ∷ ks) ws)
      go Absent e t = subst (Figures N (k ∷ ks) P) (sym (figures_none k ks ws e)) (λ s w p. let y = r.full s w p in t y.0 y.1)
      go (Number b) e t =
          let q = listed (k ∷ ks) h ws P r t.0.0 t.0.1 in
          subst (Figures N (k ∷ ks) P) (sym q.1) q.2
