-- After 2n - 1 rounds, and after any more, the state is the figures over all walks: fewer than 2n edges match every walk. Assumes nothing.
use Prim.Native.Nat.{ℕ, suc, ◌*◌, ◌≤◌}
use mathlib.Core.Path.{◌≡◌}
use mathlib.Core.List.{List}
use native.Mathlib.Omega.{arith}
use lib.Dec.{T}
use Rattle.walks.specs.Keys.{in_order}
use Rattle.walks.specs.Meaning.{Figures}
use Rattle.walks.specs.Rounds.{state}
use Rattle.walks.specs.Walks.{AllTo, Fits, Network, Within, figures}
use Rattle.walks.proofs.Optimal.{Optimal, optimal_figures, optimal_larger, optimal_unique}
use Rattle.walks.proofs.Order.{Lex, lex_each}
use Rattle.walks.proofs.Quiet.{Quiet}
use Rattle.walks.proofs.Rounds.{state_optimal}
use Rattle.walks.proofs.Short.{short}

module _ (N : Network) (ks : List ℕ) (ok : T (in_order ks)) (fits : Fits N) where
  -- from round 2n - 1 on a vertex holds the best over all walks, as figures (`settled_figures`), and no round changes it (`settled_quiet`)
  settled_optimal : (r : ℕ) → 2 * N.vertices ≤ suc r → (v : ℕ) → Optimal N ks (AllTo N v) (state N ks r v)
  settled_optimal r h v =
      optimal_larger N ks (Within N r v) (AllTo N v) (state N ks r v) (state_optimal N ks ok r v) (λ s w p. (p.0, p.1)) matched
    where
      matched : (s : ℕ) (w : List ℕ) → AllTo N v s w → (s' : ℕ) × (w' : List ℕ) × Within N r v s' w'
          × Lex ks (figures N ks s' w') (figures N ks s w)
      matched s w p =
          let c = short N fits w s v (fits.source_fits s p.0) p.1 in
          (s, c.0, (p.0, c.1, omega (arith, c.2)), lex_each N ks s c.0 s w c.3)

  pub settled_figures : (r : ℕ) → 2 * N.vertices ≤ suc r → (v : ℕ) → Figures N ks (AllTo N v) (state N ks r v)
  settled_figures r h v = optimal_figures N ks (AllTo N v) (state N ks r v) (settled_optimal r h v)

  settled_same : (r r' : ℕ) → 2 * N.vertices ≤ suc r → 2 * N.vertices ≤ suc r' → (v : ℕ) → state N ks r v ≡ state N ks r' v
  settled_same r r' h h' v = optimal_unique N ks (AllTo N v) (state N ks r v) (state N ks r' v) (settled_optimal r h v) (settled_optimal r' h' v)

  pub settled_quiet : (r : ℕ) → 2 * N.vertices ≤ suc r → Quiet N ks r
  settled_quiet r h v l = settled_same (suc r) r (omega arith) h v
