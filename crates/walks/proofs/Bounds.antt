-- How large the figures are, so that a program can hold them in its numbers. Assumes nothing.
use Prim.Native.Nat.{ℕ, suc, ◌+◌, ◌*◌, ◌≤◌, ◌<◌, max}
use mathlib.Core.Path.{◌≡◌, refl, ap, subst}
use mathlib.Core.List.{List, [], ◌∷◌}
use mathlib.Core.Option.{Option, none, some}
use native.Mathlib.Omega.{arith}
use lib.Dec.{T}
use lib.ListN.{length}
use Rattle.value.proofs.Held.{Held}
use Rattle.walks.specs.declared.Measure.{Measure}
use Rattle.walks.specs.declared.Measure.TheVariants.{Bottleneck, Edges, Source, Weight}
use Rattle.walks.specs.Keys.{in_order, measure}
use Rattle.walks.specs.Lists.{All}
use Rattle.walks.specs.Meaning.{last, value}
use Rattle.walks.specs.Rounds.{state}
use Rattle.walks.specs.Walks.{Fits, Leads, Network, Within, along, base, figures}
use Rattle.walks.proofs.Optimal.{Optimal}
use Rattle.walks.proofs.Rounds.{state_optimal}

module _ (N : Network) where
  -- the value of a walk by each measure, from x on
  edges_is : (x : ℕ) (w : List ℕ) → along N Edges x w ≡ x + length w
  edges_is x [] = omega arith
  edges_is x (i ∷ w) = omega (arith, edges_is x w)

  source_is : (x : ℕ) (w : List ℕ) → along N Source x w ≡ x
  source_is x [] = refl
  source_is x (i ∷ w) = source_is x w

  bottleneck_le : (x : ℕ) (w : List ℕ) → along N Bottleneck x w ≤ x
  bottleneck_le x [] = omega arith
  bottleneck_le x (i ∷ w) = omega (arith, bottleneck_le x w)

  weight_le : (c : ℕ) → ((i : ℕ) → i < N.edges → (N.edge i).weight ≤ c) → (w : List ℕ) (x s v : ℕ) → Leads N s w v
      → along N Weight x w ≤ x + length w * c
  weight_le c f [] x s v h = omega arith
  weight_le c f (i ∷ w) x s v h = omega (arith, weight_le c f w x s (N.edge i).from h.3, f i h.0)

  -- the figures of a state are those of a walk
  state_walk : (ks : List ℕ) → T (in_order ks) → (r v : ℕ) (xs : List ℕ) → state N ks r v ≡ some xs
      → (s : ℕ) × (w : List ℕ) × Within N r v s w × (figures N ks s w ≡ xs)
  state_walk ks ok r v xs e =
      let o = subst (Optimal N ks (Within N r v)) e (state_optimal N ks ok r v) in
      (o.0, o.1, o.2, o.3)

  figures_length : (ks : List ℕ) (s : ℕ) (w : List ℕ) → length (figures N ks s w) ≡ length ks
  figures_length [] s w = refl
  figures_length (k ∷ ks) s w = ap suc (figures_length ks s w)

  -- a figure for each key
  pub state_length : (ks : List ℕ) → T (in_order ks) → (r v : ℕ) (xs : List ℕ) → state N ks r v ≡ some xs → length xs ≡ length ks
  state_length ks ok r v xs e = let x = state_walk ks ok r v xs e in rw (← x.3) (figures_length ks x.0 x.1)

-- after r rounds no figure is above 65,535 × r, or 65,535 for r = 0, on at most 65,536 vertices and with weights of at most 65,535
module _ (N : Network) (fits : Fits N) (few : N.vertices ≤ 65536) (light : (i : ℕ) → i < N.edges → (N.edge i).weight ≤ 65535) where
  figure_bound : (m : Measure) (r s : ℕ) (w : List ℕ) (v : ℕ) → Within N r v s w → along N m (base m s) w ≤ 65535 * max 1 r
  figure_bound Edges r s w v p = omega (arith, edges_is N 0 w, p.2)
  figure_bound Weight r s w v p = omega (arith, weight_le N 65535 light w 0 s v p.1, p.2)
  figure_bound Source r s w v p = omega (arith, source_is N s w, fits.source_fits s p.0)
  figure_bound Bottleneck r s w v p = omega (arith, bottleneck_le N 65535 w)

  figures_bound : (ks : List ℕ) (r s : ℕ) (w : List ℕ) (v : ℕ) → Within N r v s w → All (λ x. x ≤ 65535 * max 1 r) (figures N ks s w)
  figures_bound [] r s w v p = tt
  figures_bound (k ∷ ks) r s w v p = (figure_bound (measure k) r s w v p, figures_bound ks r s w v p)

  pub state_bound : (ks : List ℕ) → T (in_order ks) → (r v : ℕ) (xs : List ℕ) → state N ks r v ≡ some xs → All (λ x. x ≤ 65535 * max 1 r) xs
  state_bound ks ok r v xs e =
      let x = state_walk N ks ok r v xs e in
      subst (All (λ y. y ≤ 65535 * max 1 r)) x.3 (figures_bound ks r x.0 x.1 v x.2)

  last_bound : (b : ℕ) (xs : List ℕ) → All (λ x. x ≤ b) xs → last xs ≤ b
  last_bound b [] h = omega arith
  last_bound b (x ∷ []) h = h.0
  last_bound b (x ∷ (y ∷ xs)) h = last_bound b (y ∷ xs) h.1

  -- so a value is a machine number for any 16-bit number of rounds
  pub value_held : (ks : List ℕ) → T (in_order ks) → (r v : ℕ) → r < 65536 → Held (value (state N ks r v))
  value_held ks ok r v h = go (state N ks r v) refl
    where
      go : (o : Option (List ℕ)) → state N ks r v ≡ o → Held (value o)
      go none e = tt
      go (some xs) e = omega (arith, last_bound (65535 * max 1 r) xs (state_bound ks ok r v xs e))
