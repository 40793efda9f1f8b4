-- AFTER EACH ROUND, by pull and by push, the table shows figures over walks of one edge more: from what the round functions in code ensure
-- (`pull_round`, `push_round`, `initialize_at`). Assumes nothing.
use Prim.Native.Nat.{ℕ, suc, ◌<◌}
use mathlib.Core.Path.{◌≡◌, sym, ap, ◌∙◌, subst}
use mathlib.Core.Bool.{Bool}
use mathlib.Core.List.{List}
use lib.Dec.{T}
use Rattle.walks.specs.Keys.{in_order}
use Rattle.walks.specs.Meaning.{Figures}
use Rattle.walks.specs.Rounds.{Marked, marked, state}
use Rattle.walks.specs.Walks.{Fits, Graph, Network, Within}
use Rattle.walks.proofs.Optimal.{figures_unique}
use Rattle.walks.proofs.Push.{marked_is}
use Rattle.walks.proofs.Rounds.{state_figures}
use Rattle.walks.proofs.Steps.{pull_steps, push_steps}
use Rattle.meaning.specs.Limits.{GraphFits, PathFits}
use Rattle.meaning.specs.Query.{PathReduction, network_of}
use Rattle.meaning.proofs.Rounds.{network_fits, path_in_order}
use Rattle.table.specs.Table.{changed_in, figures_in}
use Rattle.rounds.specs.Run.{Begun, PullRound, PushRound}

module _ (g : Graph) (fits : GraphFits g) (c : PathReduction) (legal : PathFits g.vertices c) (j : ℕ) where
  abbrev N : Network
  N = network_of g c

  ordered : T (in_order c.keys)
  ordered = path_in_order g.vertices c legal

  network : Fits N
  network = network_fits g fits c legal

  -- the table shows, at each vertex, its figures over walks of at most r edges
  abbrev pub Over : ℕ → List ℕ → Type 0
  Over r l = (v : ℕ) → v < g.vertices → Figures (network_of g c) c.keys (Within (network_of g c) r v) (figures_in c l j v)

  over_state : (r : ℕ) (l : List ℕ) → ((v : ℕ) → v < g.vertices → figures_in c l j v ≡ state N c.keys r v) → Over r l
  over_state r l e v h = subst (Figures N c.keys (Within N r v)) (sym (e v h)) (state_figures N c.keys ordered r v)

  state_over : (r : ℕ) (l : List ℕ) → Over r l → (v : ℕ) → v < g.vertices → figures_in c l j v ≡ state N c.keys r v
  state_over r l o v h =
      figures_unique N c.keys (Within N r v) (figures_in c l j v) (state N c.keys r v) (o v h) (state_figures N c.keys ordered r v)

  -- BEFORE ANY ROUND: over the empty walks
  pub initial_value : (old new : List ℕ) → Begun g c j old new → (v : ℕ) → v < g.vertices
      → Figures (network_of g c) c.keys (Within (network_of g c) 0 v) (figures_in c new j v)
  unfolding state
  initial_value old new b = over_state 0 new b.figures

  module _ (r : ℕ) (old new : List ℕ) (says : Bool)
      (before : (v : ℕ) → v < g.vertices → Figures (network_of g c) c.keys (Within (network_of g c) r v) (figures_in c old j v)) where
    -- A ROUND BY PULL, whatever the marks are
    pub pull_round_value : PullRound g c r j old new says
        → (v : ℕ) → v < g.vertices → Figures (network_of g c) c.keys (Within (network_of g c) (suc r) v) (figures_in c new j v)
    pull_round_value x =
        over_state (suc r) new (λ v h. x.figures v h ∙ pull_steps N c.keys network r (figures_in c old j) (state_over r old before) v h)

    -- A ROUND BY PUSH, where the vertices marked are those that round r changed
    pub push_round_value : ((u : ℕ) → u < g.vertices → changed_in r old j u ≡ (marked (network_of g c) c.keys r).changed u)
        → PushRound g c r j old new says
        → (v : ℕ) → v < g.vertices → Figures (network_of g c) c.keys (Within (network_of g c) (suc r) v) (figures_in c new j v)
    push_round_value m x =
        over_state (suc r) new
        (λ v h.
        x.figures v h
        ∙ push_steps N c.keys network r (figures_in c old j) (state_over r old before) ordered (changed_in r old j)
        (λ u k. m u k ∙ ap (λ (p : Marked). p.changed u) (marked_is N c.keys ordered r)) v h)
