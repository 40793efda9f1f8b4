-- FIGURES OF WALKS OF AT MOST r EDGES, by their size.
use Rattle.std.specs.Prelude.{ℕ, ◌*◌, ◌≤◌, ◌≡◌, List, map}
use Rattle.std.proofs.Math.Option.{Option, none, some}
use Rattle.walks.specs.declared.Measure.{Measure}
use Rattle.walks.specs.declared.Measure.TheVariants.{Edges, Weight, Source, Bottleneck}
use Rattle.walks.specs.Keys.{measure}

-- the largest figure of a walk of r edges, with weights of at most 65,535 and 256 vertices
abbrev pub most : ℕ → Measure → ℕ
most r Edges = r
most r Weight = 65535 * r
most r Source = 255
most r Bottleneck = 65535

-- xs are figures of the keys of such a walk
pub record Figures (r : ℕ) (ks xs : List ℕ) : Type 0 where
  pub of : ℕ → ℕ
  pub listed : xs ≡ map of ks
  pub bound : (k : ℕ) → of k ≤ most r (measure k)

abbrev pub Held : ℕ → List ℕ → Option (List ℕ) → Type 0
Held r ks none = Unit {0}
Held r ks (some xs) = Figures r ks xs
