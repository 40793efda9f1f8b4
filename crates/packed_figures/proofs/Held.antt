-- FIGURES OF WALKS OF AT MOST r EDGES, and that they have room in a word for r up to 1,023. Assumes nothing.
use Prim.Native.Nat.{ℕ, suc, ◌^◌, ◌≤◌, ◌<◌}
use mathlib.Core.Path.{ap, ◌∙◌}
use mathlib.Core.Bool.{Bool, true, false, cond}
use mathlib.Core.List.{List}
use mathlib.Core.Option.{Option, none, some}
use native.Mathlib.Omega.{arith}
use Rattle.walks.specs.declared.Measure.{Measure}
use Rattle.walks.specs.declared.Measure.TheVariants.{Edges, Weight, Source, Bottleneck}
use Rattle.walks.specs.Keys.{measure}
use Rattle.walks.specs.Rounds.{bases, best, extend_all, precedes, through}
use Rattle.walks.specs.Walks.{Edge, base, extend}
use Rattle.packed_figures.specs.Held.{Held, most}
use Rattle.packed_figures.specs.Packed.{Packs, width}
use Rattle.packed_figures.proofs.Extension.{bases_map, extend_map}

-- of more edges; of one more edge; of none
most_later : (r q : ℕ) → r ≤ q → (m : Measure) → most r m ≤ most q m
most_later r q h Edges = h
most_later r q h Weight = omega arith
most_later r q h Source = omega arith
most_later r q h Bottleneck = omega arith

most_extend : (r : ℕ) (e : Edge) → e.weight ≤ 65535 → (m : Measure) (x : ℕ) → x ≤ most r m → extend m e x ≤ most (suc r) m
most_extend r e h Edges x l = omega arith
most_extend r e h Weight x l = omega arith
most_extend r e h Source x l = l
most_extend r e h Bottleneck x l = omega arith

most_base : (v : ℕ) → v < 256 → (m : Measure) → base m v ≤ most 0 m
most_base v h Edges = omega arith
most_base v h Weight = omega arith
most_base v h Source = omega arith
most_base v h Bottleneck = omega arith

most_room : (r : ℕ) → r ≤ 1023 → (m : Measure) → most r m < 2 ^ width m
most_room r h Edges = omega arith
most_room r h Weight = omega arith
most_room r h Source = omega arith
most_room r h Bottleneck = omega arith

module _ (ks : List ℕ) where
  pub held_later : (r q : ℕ) → r ≤ q → (o : Option (List ℕ)) → Held r ks o → Held q ks o
  held_later r q h none f = tt
  held_later r q h (some xs) f = record { of = f.of; listed = f.listed; bound = λ k. omega (arith, f.bound k, most_later r q h (measure k)) }

  pub held_base : (v : ℕ) → v < 256 → Held 0 ks (some (bases ks v))
  held_base v h = record { of = λ k. base (measure k) v; listed = bases_map v ks; bound = λ k. most_base v h (measure k) }

  pub held_through : (r : ℕ) (e : Edge) → e.weight ≤ 65535 → (o : Option (List ℕ)) → Held r ks o → Held (suc r) ks (through ks e o)
  held_through r e h none f = tt
  held_through r e h (some xs) f = record {
    of = λ k. extend (measure k) e (f.of k);
    listed = ap (extend_all ks e) f.listed ∙ extend_map e f.of ks;
    bound = λ k. most_extend r e h (measure k) (f.of k) (f.bound k);
  }

  pub held_best : (r : ℕ) (o p : Option (List ℕ)) → Held r ks o → Held r ks p → Held r ks (best ks o p)
  unfolding best
  held_best r none p f g = g
  held_best r (some xs) none f g = f
  held_best r (some xs) (some ys) f g = go (precedes ks xs ys)
    where
      go : (b : Bool) → Held r ks (cond b (some xs) (some ys))
      go true = f
      go false = g

  -- they have room
  pub held_packs : (r : ℕ) → r ≤ 1023 → (o : Option (List ℕ)) → Held r ks o → Packs ks o
  held_packs r h none f = tt
  held_packs r h (some xs) f = record { of = f.of; listed = f.listed; small = λ k. omega (arith, f.bound k, most_room r h (measure k)) }
