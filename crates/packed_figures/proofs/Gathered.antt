-- A ROUND ON WORDS, edge by edge, is the round on figures, from any state of figures of walks of fewer than 1,023 edges. Assumes nothing.
use Prim.Native.Nat.{ℕ, zero, suc, ◌≤◌, ◌<◌, min}
use mathlib.Core.Path.{◌≡◌, sym, ap, ap₂, ◌∙◌}
use mathlib.Core.Bool.{Bool, true, false, ◌&&◌}
use mathlib.Core.List.{List}
use native.Mathlib.Omega.{arith}
use lib.Dec.{T, eqb}
use Rattle.walks.specs.Keys.{legal_keys}
use Rattle.walks.specs.Rounds.{State, best, brings, gather, through}
use Rattle.walks.specs.Walks.{Edge, Network}
use Rattle.packed_figures.specs.declared.PathConstants.{PathConstants}
use Rattle.packed_figures.specs.Packed.{Packs, absent, constants, word_of}
use Rattle.packed_figures.specs.Steps.{brought, gathered}
use Rattle.packed_figures.specs.Held.{Held}
use Rattle.packed_figures.proofs.Held.{held_best, held_later, held_packs, held_through}
use Rattle.packed_figures.proofs.Options.{best_none, word_brought, word_most}

module _ (edge : ℕ → Edge) (c : PathConstants) where
  module _ (live : ℕ → Bool) (W : ℕ → ℕ) (v : ℕ) (most : W v ≤ absent) where
    -- NO WORD IS ABOVE `absent`
    pub gathered_below : (m : ℕ) → gathered edge c live W v m ≤ absent
    unfolding gathered
    gathered_below zero = most
    gathered_below (suc i) = omega (arith, gathered_below i)

    -- an edge that fails the test brings nothing
    pub gathered_keep : (i : ℕ) → (live i && eqb (edge i).to v) ≡ false → gathered edge c live W v (suc i) ≡ gathered edge c live W v i
    unfolding gathered
    gathered_keep i e =
        ap (λ (b : Bool). min (gathered edge c live W v i) (brought b c (edge i) W)) e ∙ omega (arith, gathered_below i)

module _
    (N : Network) (ks : List ℕ) (ok : T (legal_keys ks)) (light : (i : ℕ) → i < N.edges → (N.edge i).weight ≤ 65535)
    (inside : (i : ℕ) → i < N.edges → (N.edge i).from < N.vertices) (edge : ℕ → Edge) (edges : (i : ℕ) → i < N.edges → edge i ≡ N.edge i)
    (S : State) (r : ℕ) (early : r < 1023) (held : (u : ℕ) → u < N.vertices → Held r ks (S u))
    (W : ℕ → ℕ) (agrees : (u : ℕ) → u < N.vertices → W u ≡ word_of ks (S u)) (live : ℕ → Bool) (v : ℕ) (vertex : v < N.vertices) where
  -- what an edge brings
  brings_held : (i : ℕ) → i < N.edges → (b : Bool) → Held (suc r) ks (brings b ks (N.edge i) S)
  brings_held i l true = held_through ks r (N.edge i) (light i l) (S (N.edge i).from) (held (N.edge i).from (inside i l))
  brings_held i l false = tt

  -- THE FIGURES HAVE ONE EDGE MORE
  pub gathered_held : (m : ℕ) → m ≤ N.edges → Held (suc r) ks (gather N ks live S v m)
  unfolding gather
  gathered_held zero l = held_later ks r (suc r) (omega arith) (S v) (held v vertex)
  gathered_held (suc i) l = held_best ks (suc r) _ _ (gathered_held i (omega arith)) (brings_held i l (live i && eqb (N.edge i).to v))

  packs : (u : ℕ) → u < N.vertices → Packs ks (S u)
  packs u h = held_packs ks r (omega arith) (S u) (held u h)

  gathered_packs : (m : ℕ) → m ≤ N.edges → Packs ks (gather N ks live S v m)
  gathered_packs m l = held_packs ks (suc r) (omega arith) (gather N ks live S v m) (gathered_held m l)

  -- one edge
  brought_is : (i : ℕ) → i < N.edges → (b : Bool) → word_of ks (best ks (gather N ks live S v i) (brings b ks (N.edge i) S))
      ≡ min (word_of ks (gather N ks live S v i)) (brought b (constants ks) (N.edge i) W)
  brought_is i l true =
      let e = N.edge i in
      rw (agrees e.from (inside i l))
      (word_brought ks ok e (gather N ks live S v i) (S e.from) (gathered_packs i (omega arith)) (packs e.from (inside i l))
      (held_packs ks (suc r) (omega arith) (through ks e (S e.from)) (brings_held i l true)))
  brought_is i l false = ap (word_of ks) (best_none ks _) ∙ omega (arith, word_most ks ok (gather N ks live S v i) (gathered_packs i (omega arith)))

  -- THE WORD IS THAT OF THE FIGURES
  pub gathered_is : (m : ℕ) → m ≤ N.edges → gathered edge (constants ks) live W v m ≡ word_of ks (gather N ks live S v m)
  unfolding gathered gather
  gathered_is zero l = agrees v vertex
  gathered_is (suc i) l =
      ap₂ min (gathered_is i (omega arith)) (ap (λ (e : Edge). brought (live i && eqb e.to v) (constants ks) e W) (edges i l))
      ∙ sym (brought_is i l (live i && eqb (N.edge i).to v))
