-- Every walk is matched by a short one. `erase`: a walk that visits no vertex twice, at least as good by every key but the least bottleneck. `short`: a walk
-- of fewer than 2n edges, at least as good by every key: the parts before and after the narrowest edge are shortened each by itself. Assumes nothing.
use Prim.Native.Nat.{ℕ, suc, ◌*◌, ◌≤◌, ◌<◌, min}
use mathlib.Core.Path.{◌≡◌, refl, sym, ap, subst}
use mathlib.Core.Logic.{inl, inr}
use mathlib.Core.List.{List, [], ◌∷◌, ◌++◌}
use native.Mathlib.Omega.{arith}
use native.Mathlib.Decide.{dec_le}
use lib.Dec.{T}
use lib.ListN.{length, length-append}
use Rattle.walks.specs.declared.Extreme.{Extreme}
use Rattle.walks.specs.declared.Extreme.TheVariants.{Greatest}
use Rattle.walks.specs.declared.Measure.{Measure}
use Rattle.walks.specs.declared.Measure.TheVariants.{Bottleneck}
use Rattle.walks.specs.Keys.{Good, kept}
use Rattle.walks.specs.Walks.{Fits, Leads, Network, along, base, extend, figure}
use Rattle.walks.proofs.Keys.{each_key, extend_good, extend_worse, good_refl, good_trans, worsening}
use Rattle.walks.proofs.Pigeons.{Distinct, In, in_dec, pigeons}

module _ (N : Network) where
  -- the vertices of a walk, the last first
  abbrev visits : ℕ → List ℕ → List ℕ
  visits s [] = s ∷ []
  visits s (i ∷ w) = (N.edge i).to ∷ visits s w

  -- w is at least as good as w', from any figure on, by every key but the least bottleneck
  abbrev Matches : List ℕ → List ℕ → Type 0
  Matches w w' = (m : Measure) (d : Extreme) → T (worsening m d) → (x : ℕ) → Good d (along N m x w) (along N m x w')

  -- a longer walk keeps the order of values; it betters none but the least bottleneck; and goes part by part
  along_good : (d : Extreme) (k : Measure) (w : List ℕ) (x y : ℕ) → Good d x y → Good d (along N k x w) (along N k y w)
  along_good d k [] x y p = p
  along_good d k (i ∷ w) x y p = extend_good d k (N.edge i) (along N k x w) (along N k y w) (along_good d k w x y p)

  along_worse : (m : Measure) (d : Extreme) → T (worsening m d) → (w : List ℕ) (x : ℕ) → Good d x (along N m x w)
  along_worse m d t [] x = good_refl d x
  along_worse m d t (i ∷ w) x =
      good_trans d x (along N m x w) (along N m x (i ∷ w)) (along_worse m d t w x) (extend_worse m d t (N.edge i) (along N m x w))

  along_append : (k : Measure) (q p : List ℕ) (x : ℕ) → along N k x (q ++ p) ≡ along N k (along N k x p) q
  along_append k [] p x = refl
  along_append k (i ∷ q) p x = ap (extend k (N.edge i)) (along_append k q p x)

  -- two walks, one after the other
  join : (q p : List ℕ) (s u v : ℕ) → Leads N s p u → Leads N u q v → Leads N s (q ++ p) v
  join [] p s u v h e = subst (Leads N s p) e h
  join (i ∷ q) p s u v h g = (g.0, g.1, g.2, join q p s u (N.edge i).from h g.3)

  -- back to the vertex v, which the walk w has visited
  Back : ℕ → ℕ → List ℕ → Type 0
  Back s v w = (p : List ℕ) × Leads N s p v × Distinct (visits s p) × Matches p w

  back : (w : List ℕ) (s u v : ℕ) → Leads N s w u → Distinct (visits s w) → In v (visits s w) → Back s v w
  unfolding Back
  back [] s u v h d (inl e) = ([], sym e, d, λ m d t x. good_refl d x)
  back [] s u v h d (inr i) = absurd i
  back (i ∷ w) s u v h d (inl e) = (i ∷ w, (h.0, h.1, sym e, h.3), d, λ m d t x. good_refl d _)
  back (i ∷ w) s u v h d (inr m) =
      let b = back w s (N.edge i).from v h.3 d.1 m in
      (b.0, b.1, b.2, λ m d t x. good_trans d _ _ _ (b.3 m d t x) (extend_worse m d t (N.edge i) (along N m x w)))

  matches_ext : (i : ℕ) (w' w : List ℕ) → Matches w' w → Matches (i ∷ w') (i ∷ w)
  matches_ext i w' w f m d t x = extend_good d m (N.edge i) (along N m x w') (along N m x w) (f m d t x)

  -- one more edge: to a new vertex, or back to one that was visited
  erase_step : (i : ℕ) (w : List ℕ) (s v : ℕ) → Leads N s (i ∷ w) v → Back s (N.edge i).from w → Back s v (i ∷ w)
  unfolding Back
  erase_step i w s v h b = go (in_dec (N.edge i).to (visits s b.0))
    where
      go : Dec (In (N.edge i).to (visits s b.0)) → Back s v (i ∷ w)
      go (no n) = (i ∷ b.0, (h.0, h.1, h.2, b.1), (n, b.2), matches_ext i b.0 w b.3)
      go (yes m) =
          let c = back b.0 s (N.edge i).from (N.edge i).to b.1 b.2 m in (
            c.0,
            subst (Leads N s c.0) h.2 c.1,
            c.2,
            λ m d t x.
                good_trans d _ _ _ (c.3 m d t x) (good_trans d _ _ _ (extend_worse m d t (N.edge i) (along N m x b.0))
                (matches_ext i b.0 w b.3 m d t x)),
          )

  distinct_one : (s : ℕ) → Distinct (s ∷ [])
  distinct_one s = (λ h. h, tt)

  erase : (w : List ℕ) (s v : ℕ) → Leads N s w v → Back s v w
  unfolding Back
  erase [] s v h = ([], h, distinct_one s, λ m d t x. good_refl d x)
  erase (i ∷ w) s v h = erase_step i w s v h (erase w s (N.edge i).from h.3)

  length_visits : (s : ℕ) (w : List ℕ) → length (visits s w) ≡ suc (length w)
  length_visits s [] = refl
  length_visits s (i ∷ w) = ap suc (length_visits s w)

  -- the narrowest edge of a walk that has one
  Narrowest : ℕ → ℕ → List ℕ → Type 0
  Narrowest s v w =
      (q : List ℕ)
      × (e : ℕ)
      × (p : List ℕ)
      × (w ≡ q ++ (e ∷ p))
      × Leads N s (e ∷ p) (N.edge e).to
      × Leads N (N.edge e).to q v
      × ((x : ℕ) → min x (N.edge e).capacity ≤ along N Bottleneck x w)

  narrower : (i : ℕ) (w : List ℕ) (s v : ℕ) → Leads N s (i ∷ w) v → (n : Narrowest s (N.edge i).from w) → Narrowest s v (i ∷ w)
  unfolding Narrowest
  narrower i w s v h n = go (dec_le (N.edge i).capacity (N.edge n.1).capacity)
    where
      go : Dec ((N.edge i).capacity ≤ (N.edge n.1).capacity) → Narrowest s v (i ∷ w)
      go (yes l) = ([], i, w, refl, (h.0, h.1, refl, h.3), h.2, λ x. omega (arith, n.6 x))
      go (no l) = (
        i ∷ n.0,
        n.1,
        n.2,
        ap {B = List ℕ} (λ t. i ∷ t) n.3,
        n.4,
        (h.0, h.1, h.2, n.5),
        λ x. omega (arith, n.6 x),
      )

  narrowest : (w : List ℕ) (i s v : ℕ) → Leads N s (i ∷ w) v → Narrowest s v (i ∷ w)
  unfolding Narrowest
  narrowest [] i s v h = ([], i, [], refl, (h.0, h.1, refl, h.3), h.2, λ x. omega arith)
  narrowest (j ∷ w) i s v h = narrower i (j ∷ w) s v h (narrowest w j s (N.edge i).from h.3)

  module _ (fits : Fits N) where
    visits_fit : (w : List ℕ) (s v : ℕ) → s < N.vertices → Leads N s w v → (x : ℕ) → In x (visits s w) → x < N.vertices
    visits_fit [] s v l h x (inl e) = omega arith
    visits_fit [] s v l h x (inr i) = absurd i
    visits_fit (i ∷ w) s v l h x (inl e) = omega (arith, fits.to_fits i h.0 h.1)
    visits_fit (i ∷ w) s v l h x (inr m) = visits_fit w s (N.edge i).from l h.3 x m

    -- by every key but the least bottleneck, fewer than n edges do
    simple : (w : List ℕ) (s v : ℕ) → s < N.vertices → Leads N s w v → (p : List ℕ) × Leads N s p v × (length p < N.vertices) × Matches p w
    unfolding Back
    simple w s v l h =
        let b = erase w s v h in
        (b.0, b.1, omega (arith, pigeons N.vertices (visits s b.0) b.2 (visits_fit b.0 s v l b.1), length_visits s b.0), b.3)

    -- by every key fewer than 2n do
    abbrev pub Short : ℕ → ℕ → List ℕ → Type 0
    Short s v w = (p : List ℕ) × Leads N s p v × (length p < 2 * N.vertices) × ((k : ℕ) → Good (kept k) (figure N k s p) (figure N k s w))

    module _ (q p q' p' : List ℕ) (e : ℕ) (mq : Matches q' q) (mp : Matches p' p) where
      -- both parts matched: the whole is
      both_match : Matches (q' ++ (e ∷ p')) (q ++ (e ∷ p))
      both_match m d t x =
          rw (along_append m q' (e ∷ p') x, along_append m q (e ∷ p) x)
          (good_trans d _ (along N m (along N m x (e ∷ p')) q) _ (mq m d t (along N m x (e ∷ p')))
          (along_good d m q _ _ (matches_ext e p' p mp m d t x)))

    -- a walk over e is no wider than e
    over : (q p : List ℕ) (e x : ℕ) → along N Bottleneck x (q ++ (e ∷ p)) ≤ min x (N.edge e).capacity
    over q p e x =
        rw (along_append Bottleneck q (e ∷ p) x)
        (omega (arith, along_worse Bottleneck Greatest tt q (along N Bottleneck x (e ∷ p)), along_worse Bottleneck Greatest tt p x))

    short_parts : (w : List ℕ) (s v : ℕ) → s < N.vertices → Narrowest s v w → Short s v w
    unfolding Narrowest
    short_parts w s v l n =
        let a = simple n.2 s (N.edge n.1).from l n.4.3 in
        let b = simple n.0 (N.edge n.1).to v (fits.to_fits n.1 n.4.0 n.4.1) n.5 in (
          b.0 ++ (n.1 ∷ a.0),
          join b.0 (n.1 ∷ a.0) s (N.edge n.1).to v (n.4.0, n.4.1, refl, a.1) b.1,
          omega (arith, length-append b.0 (n.1 ∷ a.0), a.2, b.2),
          each_key (λ m d. Good d (along N m (base m s) (b.0 ++ (n.1 ∷ a.0))) (along N m (base m s) w))
              (λ m d t. rw n.3 (both_match n.0 n.2 b.0 a.0 n.1 b.3 a.3 m d t (base m s)))
              (omega (arith, over b.0 a.0 n.1 65535, n.6 65535)),
        )

    -- A WALK OF FEWER THAN 2n EDGES THAT IS AT LEAST AS GOOD BY EVERY KEY
    pub short : (w : List ℕ) (s v : ℕ) → s < N.vertices → Leads N s w v → Short s v w
    short [] s v l h = ([], h, omega arith, λ k. good_refl (kept k) _)
    short (i ∷ w) s v l h = short_parts (i ∷ w) s v l (narrowest w i s v h)
