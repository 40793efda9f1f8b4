-- `walks` lists the walks of a graph, each as often as there are rows to walk, and no others. Assumes nothing.
use Prim.Native.Nat.{ℕ, zero, suc, ◌+◌, ◌*◌, ◌/◌, ◌<◌, ◌≤◌, min, suc-le-suc}
use mathlib.Core.Path.{◌≡◌, refl, sym, ap, ◌∙◌, subst}
use mathlib.Core.Logic.{◌⊎◌, inl, inr}
use mathlib.Core.Bool.{Bool, true, false, cond, ◌||◌}
use mathlib.Core.List.{List, [], ◌∷◌, ◌++◌}
use native.Mathlib.Omega.{arith}
use native.Mathlib.Decide.{ℕ_discrete}
use native.Mathlib.Nat.{not-suc-le-zero, le_of_suc-le-suc}
use borrow.Author.Tests.{eq-eqb, eqb-true}
use lib.Dec.{T, eqb}
use lib.ListN.{length, get_or}
use Rattle.walks.specs.declared.Measure.TheVariants.{Edges, Weight, Source, Bottleneck}
use Rattle.walks.specs.Keys.{key_row}
use Rattle.walks.specs.Walks.{Edge, Leads, Network, Within, along, edge, figure}
use Rattle.walks.proofs.Pigeons.{In}
use Rattle.walks.proofs.Tests.{T_of}
use Rattle.walked.specs.declared.Walk.{Walk}
use Rattle.walked.specs.Walked.{among, figure_of, longer, may_start, sift, standing, walks, with_edge}
use Rattle.walked_laws.proofs.Best.{Like, Shown, by_key, in_sift, sift_in}

in_append : (a b : List Walk) (x : Walk) → In x (a ++ b) → In x a ⊎ In x b
in_append [] b x i = inr i
in_append (y ∷ a) b x (inl e) = inl (inl e)
in_append (y ∷ a) b x (inr i) = go (in_append a b x i)
  where
    go : In x a ⊎ In x b → In x (y ∷ a) ⊎ In x b
    go (inl j) = inl (inr j)
    go (inr j) = inr j

in_left : (a b : List Walk) (x : Walk) → In x a → In x (a ++ b)
in_left [] b x i = absurd i
in_left (y ∷ a) b x (inl e) = inl e
in_left (y ∷ a) b x (inr i) = inr (in_left a b x i)

in_right : (a b : List Walk) (x : Walk) → In x b → In x (a ++ b)
in_right [] b x i = i
in_right (y ∷ a) b x i = inr (in_right a b x i)

-- a walk with the edge of row i before it; with several, the last first
abbrev via : List ℕ → ℕ → Walk → Walk
via rows i w = longer w (get_or rows (4 * i) 0) (get_or rows (4 * i + 2) 0) (get_or rows (4 * i + 3) 0)

abbrev back : List ℕ → Walk → List ℕ → Walk
back rows w [] = w
back rows w (i ∷ p) = back rows (via rows i w) p

-- a network whose edges are the rows, all of them usable
pub record Rows (N : Network) (rows : List ℕ) : Type 0 where
  pub count : N.edges ≡ length rows / 4
  pub at : (i : ℕ) → i < N.edges → N.edge i
      ≡ edge (get_or rows (4 * i) 0) (get_or rows (4 * i + 1) 0) (get_or rows (4 * i + 2) 0) (get_or rows (4 * i + 3) 0)
  pub usable : (i : ℕ) → T (N.usable i)

module _ (rows : List ℕ) (more : Walk → List Walk) (w x : Walk) where
  edge_sound : (m : ℕ) → In x (with_edge rows more w m)
      → (i : ℕ) × (i < m) × (get_or rows (4 * i + 1) 0 ≡ w.source) × In x (more (via rows i w))
  unfolding with_edge
  edge_sound zero h = absurd h
  edge_sound (suc m) h = go (eqb (get_or rows (4 * m + 1) 0) w.source) refl (in_append (with_edge rows more w m) _ x h) (edge_sound m)
    where
      go : (b : Bool) → eqb (get_or rows (4 * m + 1) 0) w.source ≡ b → In x (with_edge rows more w m) ⊎ In x (cond b (more (via rows m w)) [])
          → (In x (with_edge rows more w m) → (i : ℕ) × (i < m) × (get_or rows (4 * i + 1) 0 ≡ w.source) × In x (more (via rows i w)))
          → (i : ℕ) × (i < suc m) × (get_or rows (4 * i + 1) 0 ≡ w.source) × In x (more (via rows i w))
      go b e (inl j) f = let q = f j in let l : q.0 < suc m = omega (arith, q.1) in (q.0, l, q.2, q.3)
      go true e (inr j) f = (m, omega arith, eqb-true (get_or rows (4 * m + 1) 0) w.source e, j)
      go false e (inr j) f = absurd j

  edge_full : (m i : ℕ) → i < m → get_or rows (4 * i + 1) 0 ≡ w.source → In x (more (via rows i w)) → In x (with_edge rows more w m)
  unfolding with_edge
  edge_full zero i h e j = absurd (not-suc-le-zero h)
  edge_full (suc m) i h e j = go (ℕ_discrete i m) (λ l. edge_full m i l e j)
    where
      last : (b : Bool) → b ≡ true → In x (more (via rows m w)) → In x (cond b (more (via rows m w)) [])
      last true q j = j
      last false q j = absurd (subst T (sym q) tt)

      go : Dec (i ≡ m) → (i < m → In x (with_edge rows more w m))
          → In x (with_edge rows more w m ++ cond (eqb (get_or rows (4 * m + 1) 0) w.source) (more (via rows m w)) [])
      go (yes q) f =
          in_right (with_edge rows more w m) _ x
          (last (eqb (get_or rows (4 * m + 1) 0) w.source)
          (eq-eqb (get_or rows (4 * m + 1) 0) w.source (subst (λ (t : ℕ). get_or rows (4 * t + 1) 0 ≡ w.source) q e))
          (subst (λ (t : ℕ). In x (more (via rows t w))) q j))
      go (no q) f = in_left (with_edge rows more w m) _ x (f (omega arith))

module _ (N : Network) (rows : List ℕ) (R : Rows N rows) where
  walks_sound : (left : ℕ) (w x : Walk) → In x (walks rows left w)
      → (p : List ℕ) × Leads N x.source p w.source × (length p ≤ left) × (x ≡ back rows w p)
  unfolding walks
  walks_sound zero w x (inl e) = ([], ap (λ (y : Walk). y.source) e, omega arith, e)
  walks_sound zero w x (inr j) = absurd j
  walks_sound (suc left) w x (inl e) = ([], ap (λ (y : Walk). y.source) e, omega arith, e)
  walks_sound (suc left) w x (inr j) =
      let q = edge_sound rows (walks rows left) w x (length rows / 4) j in
      let z = walks_sound left (via rows q.0 w) x q.3 in
      let l : q.0 < N.edges = omega (arith, q.1, R.count) in
      let d = R.at q.0 l in (
        q.0 ∷ z.0,
        (
          l,
          R.usable q.0,
          ap (λ (e : Edge). e.to) d ∙ q.2,
          subst (λ (t : ℕ). Leads N x.source z.0 t) (sym (ap (λ (e : Edge). e.from) d)) z.1,
        ),
        suc-le-suc z.2,
        z.3,
      )

  walks_full : (left : ℕ) (w : Walk) (p : List ℕ) (s : ℕ) → Leads N s p w.source → length p ≤ left
      → In (back rows w p) (walks rows left w) × ((back rows w p).source ≡ s)
  unfolding walks
  walks_full zero w [] s l h = (inl refl, sym l)
  walks_full (suc left) w [] s l h = (inl refl, sym l)
  walks_full zero w (i ∷ p) s l h = absurd (not-suc-le-zero h)
  walks_full (suc left) w (i ∷ p) s l h =
      let d = R.at i l.0 in
      let q = walks_full left (via rows i w) p s (subst (λ (t : ℕ). Leads N s p t) (ap (λ (e : Edge). e.from) d) l.3) (le_of_suc-le-suc h) in
      let m : i < length rows / 4 = omega (arith, l.0, R.count) in
      (inr (edge_full rows (walks rows left) w (back rows (via rows i w) p) (length rows / 4) i m (sym (ap (λ (e : Edge). e.to) d) ∙ l.2) q.0), q.1)

  -- the figures of a walk from its end backwards
  back_edges : (w : Walk) (p : List ℕ) → (back rows w p).edges ≡ w.edges + along N Edges 0 p
  back_edges w [] = omega arith
  back_edges w (i ∷ p) = omega (arith, back_edges (via rows i w) p)

  back_weight : (w : Walk) (p : List ℕ) (s v : ℕ) → Leads N s p v → (back rows w p).weight ≡ w.weight + along N Weight 0 p
  back_weight w [] s v l = omega arith
  back_weight w (i ∷ p) s v l = omega (arith, back_weight (via rows i w) p s _ l.3, ap (λ (e : Edge). e.weight) (R.at i l.0))

  back_capacity : (w : Walk) (p : List ℕ) (s v : ℕ) → Leads N s p v → w.capacity ≤ 65535
      → (back rows w p).capacity ≡ min w.capacity (along N Bottleneck 65535 p)
  back_capacity w [] s v l h = omega arith
  back_capacity w (i ∷ p) s v l h =
      omega (arith, back_capacity (via rows i w) p s _ l.3 (omega arith), ap (λ (e : Edge). e.capacity) (R.at i l.0))

  along_source : (s : ℕ) (p : List ℕ) → s ≡ along N Source s p
  along_source s [] = refl
  along_source s (i ∷ p) = along_source s p

  like : (v : ℕ) (p : List ℕ) (s : ℕ) → Leads N s p v → Like N (back rows (standing v) p) s p
  unfolding figure_of key_row
  like v p s l =
      by_key (λ k. figure_of k (back rows (standing v) p) ≡ figure N k s p)
      (omega (arith, back_edges (standing v) p))
      (omega (arith, back_weight (standing v) p s v l))
      (e ∙ along_source s p)
      (e ∙ along_source s p)
      size
      size
    where
      e : (back rows (standing v) p).source ≡ s
      e = (walks_full (length p) (standing v) p s l (omega arith)).1

      narrow : (q : List ℕ) → along N Bottleneck 65535 q ≤ 65535
      narrow [] = omega arith
      narrow (i ∷ q) = omega (arith, narrow q)

      size : (back rows (standing v) p).capacity ≡ along N Bottleneck 65535 p
      size = omega (arith, back_capacity (standing v) p s v l (omega arith), narrow p)

  -- THE WALKS LISTED, that may start where they do, show the walks of at most r edges
  pub shown : (sources : List ℕ) (v r : ℕ) → ((s : ℕ) (p : List ℕ) → Leads N s p v → N.source s ≡ (eqb (length sources) 0 || among sources s))
      → Shown N (sift (may_start sources) (walks rows r (standing v))) (Within N r v)
  shown sources v r starts = record { sound = from; full = to }
    where
      T_true : (b : Bool) → T b → b ≡ true
      T_true true t = refl
      T_true false t = absurd t

      from : (x : Walk) → In x (sift (may_start sources) (walks rows r (standing v))) → (s : ℕ) × (w : List ℕ) × Within N r v s w × Like N x s w
      from x i =
          let j = in_sift (may_start sources) (walks rows r (standing v)) x i in
          let q = walks_sound r (standing v) x j.0 in (
            x.source,
            q.0,
            (T_of (starts x.source q.0 q.1 ∙ j.1), q.1, q.2),
            λ k h. ap (figure_of k) q.3 ∙ like v q.0 x.source q.1 k h,
          )

      to : (s : ℕ) (w : List ℕ) → Within N r v s w → (x : Walk) × In x (sift (may_start sources) (walks rows r (standing v))) × Like N x s w
      to s w h =
          let q = walks_full r (standing v) w s h.1 h.2 in
          let x = back rows (standing v) w in
          let m : may_start sources x ≡ true = ap (λ (t : ℕ). eqb (length sources) 0 || among sources t) q.1 ∙ sym (starts s w h.1)
          ∙ T_true (N.source s) h.0 in
          (x, sift_in (may_start sources) (walks rows r (standing v)) x q.0 m, like v w s h.1)
