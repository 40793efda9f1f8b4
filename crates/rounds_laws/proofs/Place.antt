-- EACH PUSH ROUND LEAVES EVERY PLACE what Definition 3 says (`push_place`), and its former value where no predecessor changed (`push_still`): of the code's own
-- table, from what `push_round` ensures. Assumes nothing.
use Prim.Native.Nat.{ℕ, zero, suc, ◌≤◌, ◌<◌}
use mathlib.Core.Path.{◌≡◌, refl, sym, ap, ◌∙◌}
use mathlib.Core.Bool.{Bool, true, false, cond, not, ◌&&◌, false≢true}
use mathlib.Core.List.{List, [], ◌∷◌, ◌++◌}
use mathlib.Core.Option.{Option, none, some}
use native.Mathlib.Omega.{arith}
use borrow.Author.Tests.{eqb-true}
use lib.Dec.{T, eqb}
use Rattle.walks.specs.Rounds.{State, best, brings, gather, initial, reached, same, through}
use Rattle.walks.specs.Walks.{Graph, Network}
use Rattle.walks.proofs.Same.{same_of}
use Rattle.meaning.specs.Limits.{GraphFits}
use Rattle.meaning.specs.Query.{PathReduction, network_of}
use Rattle.table.specs.Table.{changed_in, figures_in}
use Rattle.rounds.specs.Run.{Begun, PushRound, Round}
use Rattle.rounds_laws.specs.Place.{changed_into, place, reduced_into}

module _ (N : Network) (ks : List ℕ) (S : State) (changed : ℕ → Bool) (v : ℕ) where
  abbrev live : ℕ → Bool
  live i = N.usable i && changed (N.edge i).from

  best_none : (o : Option (List ℕ)) → best ks o none ≡ o
  unfolding best
  best_none none = refl
  best_none (some xs) = refl

  -- one edge behind the others
  one_behind : (b : Bool) (i : ℕ) (is : List ℕ) (o : Option (List ℕ))
      → reduced_into N ks S o (is ++ cond b (i ∷ []) []) ≡ best ks (reduced_into N ks S o is) (brings b ks (N.edge i) S)
  one_behind true i [] o = refl
  one_behind false i [] o = sym (best_none o)
  one_behind b i (k ∷ is) o = one_behind b i is (best ks o (through ks (N.edge k) (S (N.edge k).from)))

  -- over all edges by number, or over the changed predecessors alone
  pub gather_place : (m : ℕ)
      → gather N ks (λ i. N.usable i && changed (N.edge i).from) S v m ≡ reduced_into N ks S (S v) (changed_into N changed v m)
  unfolding gather changed_into
  gather_place zero = refl
  gather_place (suc i) =
      ap (λ (o : Option (List ℕ)). best ks o (brings (live i && eqb (N.edge i).to v) ks (N.edge i) S)) (gather_place i)
      ∙ sym (one_behind (live i && eqb (N.edge i).to v) i (changed_into N changed v i) (S v))

  -- where none changed there are none
  pub into_none : ((i : ℕ) → i < N.edges → (N.edge i).to ≡ v → changed (N.edge i).from ≡ false) → (m : ℕ) → m ≤ N.edges
      → changed_into N changed v m ≡ []
  unfolding changed_into
  into_none h zero l = refl
  into_none h (suc i) l =
      rw (into_none h i (omega arith), out (N.usable i) (changed (N.edge i).from) (eqb (N.edge i).to v) (λ e. h i l (eqb-true (N.edge i).to v e))) refl
    where
      out : (a b d : Bool) → (d ≡ true → b ≡ false) → (a && b && d) ≡ false
      out true true true f = absurd (false≢true (sym (f refl)))
      out true true false f = refl
      out true false d f = refl
      out false b d f = refl

module _ (g : Graph) (c : PathReduction) (j : ℕ) where
  abbrev N : Network
  N = network_of g c

  module _ (r : ℕ) (old new : List ℕ) (says : Bool) (x : PushRound g c r j old new says) (v : ℕ) (inside : v < g.vertices) where
    -- EACH ROUND LEAVES EVERY PLACE exactly the reduction over its changed predecessors into its former value
    pub push_place : figures_in c new j v ≡ place (network_of g c) c.keys (figures_in c old j) (changed_in r old j) v
    push_place = x.figures v inside ∙ gather_place N c.keys (figures_in c old j) (changed_in r old j) v N.edges

    -- AND ITS FORMER VALUE where no predecessor is marked
    push_unmarked : ((i : ℕ) → i < N.edges → (N.edge i).to ≡ v → changed_in r old j (N.edge i).from ≡ false) → figures_in c new j v
        ≡ figures_in c old j v
    push_unmarked h =
        push_place
        ∙ ap (reduced_into N c.keys (figures_in c old j) (figures_in c old j v))
        (into_none N c.keys (figures_in c old j) (changed_in r old j) v h N.edges (omega arith))

  -- A PATH REDUCTION THAT RESTS is left as it is: where no vertex is marked, so does the definition leave every place
  pub place_rests : GraphFits g → (r : ℕ) (l : List ℕ) → ((u : ℕ) → u < g.vertices → changed_in r l j u ≡ false) → (v : ℕ)
      → place (network_of g c) c.keys (figures_in c l j) (changed_in r l j) v ≡ figures_in c l j v
  place_rests fits r l quiet v =
      ap (reduced_into N c.keys (figures_in c l j) (figures_in c l j v))
      (into_none N c.keys (figures_in c l j) (changed_in r l j) v (λ i h e. quiet (N.edge i).from (fits.ends_fit i h).0) N.edges (omega arith))

  true_not : (b : Bool) → T b → not b ≡ false
  true_not true t = refl
  true_not false t = absurd t

  module _ (fits : GraphFits g) (old new : List ℕ) (says : Bool) (v : ℕ) (inside : v < g.vertices) where
    -- where no predecessor changed in the round before, by whatever way that round was done
    pub push_still : (r : ℕ) (older : List ℕ) (next : State) (said : Bool) → Round g c r j next older old said → PushRound g c (suc r) j old new says
        → ((i : ℕ) → i < (network_of g c).edges → ((network_of g c).edge i).to ≡ v
        → figures_in c old j ((network_of g c).edge i).from ≡ figures_in c older j ((network_of g c).edge i).from)
        → figures_in c new j v ≡ figures_in c old j v
    push_still r older next said y x h =
        push_unmarked (suc r) old new says x v inside
        (λ i l e.
        let u = (N.edge i).from in
        y.marks u (fits.ends_fit i l).0 ∙ true_not (same (figures_in c old j u) (figures_in c older j u)) (same_of _ _ (h i l e)))

    -- round 1: where none has a start value
    pub push_still_first : (before : List ℕ) → Begun g c j before old → PushRound g c 0 j old new says
        → ((i : ℕ) → i < (network_of g c).edges → ((network_of g c).edge i).to ≡ v → (network_of g c).source ((network_of g c).edge i).from
        ≡ false)
        → figures_in c new j v ≡ figures_in c old j v
    push_still_first before y x h =
        push_unmarked 0 old new says x v inside
        (λ i l e.
        let k = (fits.ends_fit i l).0 in
        y.marks (N.edge i).from k ∙ ap reached (y.figures (N.edge i).from k)
        ∙ ap (λ (b : Bool). reached (initial b c.keys (N.edge i).from)) (h i l e))
