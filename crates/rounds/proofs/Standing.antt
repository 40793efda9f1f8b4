-- A PATH REDUCTION AFTER r ROUNDS, and its next round by pull and by push, or at rest. Assumes nothing.
use Prim.Native.Nat.{ℕ, zero, suc, ◌+◌, ◌*◌, ◌≤◌, ◌<◌}
use mathlib.Core.Path.{◌≡◌, refl, sym, ap, ap₂, ◌∙◌}
use mathlib.Core.Bool.{Bool, true, false, not, ◌&&◌, ◌||◌, false≢true}
use mathlib.Core.List.{List}
use mathlib.Core.Option.{Option}
use native.Mathlib.Omega.{arith}
use native.Mathlib.Decide.{dec_le}
use lib.ListN.{length}
use Rattle.walks.specs.Rounds.{Marked, State, gather, marked, reached, same, state, unchanged}
use Rattle.walks.specs.Walks.{Graph, Network}
use Rattle.walks.proofs.Bound.{settled_quiet}
use Rattle.walks.proofs.Push.{fresh, marked_is}
use Rattle.walks.proofs.Same.{same_of, unchanged_of}
use Rattle.walks.proofs.Steps.{gather_live, pull_steps, push_steps}
use Rattle.meaning.specs.Query.{PathReduction, network_of}
use Rattle.meaning.specs.Run.{pull}
use Rattle.wire.specs.Wire.{at16}
use Rattle.graph.specs.Graph.{graph_of}
use Rattle.incoming.proofs.Gathered.{gather_kept}
use Rattle.packed_path.specs.declared.PackedPath.{PackedPath}
use Rattle.packed_path.specs.Packed.{path_of}
use Rattle.packed_figures.specs.Packed.{figures_of}
use Rattle.packed_figures.proofs.Held.{held_later}
use Rattle.table.specs.Table.{Cell, Idle, Sound, any_vertex, cell_in, changed_in, figures_in}
use Rattle.rounds.specs.Run.{Advanced, Begun, PullRound, PushRound, Round, Stands, pulled, pushed_from}
use Rattle.rounds.proofs.Given.{Given, T_true, graph_legal, path_network, path_ordered}

-- a sound table stays so with a later round
sound_later : (n : ℕ) (c : PathReduction) (r : ℕ) (l : List ℕ) (j : ℕ) → Sound n c r l j → Sound n c (suc r) l j
sound_later n c r l j x = record {
  long = x.long;
  idle = x.idle;
  words = λ v k.
      let w = x.words v k in
      record { figures = w.figures; held = held_later c.keys r (suc r) (omega arith) w.figures w.held; packs = w.packs; packed = w.packed };
}

-- a vertex changed: not all are as they were
pub not_both : (a b : Bool) → not a || not b ≡ not (a && b)
not_both true b = refl
not_both false b = refl

any_changed : (S : ℕ → State) (r n : ℕ) → any_vertex n (λ v. not (same (S (suc r) v) (S r v))) ≡ not (unchanged S r n)
any_changed S r zero = refl
any_changed S r (suc n) =
    ap (λ (b : Bool). not (same (S (suc r) n) (S r n)) || b) (any_changed S r n)
    ∙ not_both (same (S (suc r) n) (S r n)) (unchanged S r n)

-- two tests that agree at the vertices
any_same : (n : ℕ) (f g : ℕ → Bool) → ((v : ℕ) → v < n → f v ≡ g v) → any_vertex n f ≡ any_vertex n g
any_same zero f g h = refl
any_same (suc n) f g h = rw (h n (omega arith), any_same n f g (λ v k. h v (omega arith))) refl

-- what another's round leaves
pub stands_kept : (g : Graph) (c : PathReduction) (r j : ℕ) (l l' : List ℕ) → 32 + 9 * g.vertices ≤ length l' → Idle g.vertices l'
    → ((v : ℕ) → v < g.vertices → cell_in l' j v ≡ cell_in l j v) → Stands g c r j l → Stands g c r j l'
unfolding figures_in changed_in
stands_kept g c r j l l' long idle same x = record {
  figures = λ v k. ap (λ (z : Cell). figures_of c.keys z.word) (same v k) ∙ x.figures v k;
  marks = λ v k. ap (λ (z : Cell). z.changed) (same v k) ∙ x.marks v k;
  sound = record { long = long; idle = idle; words = λ v k. rw (same v k) (x.sound.words v k) };
}

module _ (s : List ℕ) (path : PackedPath) (g : Given s path) (j : ℕ) where
  abbrev c : PathReduction
  c = path_of path

  abbrev G : Graph
  G = graph_of s

  abbrev N : Network
  N = network_of G c

  abbrev n : ℕ
  n = at16 s 5

  marked_now : (r v : ℕ) → (marked N c.keys r).changed v ≡ fresh N c.keys r v
  marked_now r v = ap (λ (p : Marked). p.changed v) (marked_is N c.keys (path_ordered s path g) r)

  fresh_now : (r v : ℕ) → fresh N c.keys (suc r) v ≡ not (same (pull G c (suc r) v) (pull G c r v))
  unfolding fresh
  fresh_now r v = refl

  -- before any round
  pub begun_stands : (l l' : List ℕ) → Begun (graph_of s) (path_of path) j l l' → Stands (graph_of s) (path_of path) 0 j l'
  unfolding state marked
  begun_stands l l' x = record { figures = x.figures; marks = λ v k. x.marks v k ∙ ap reached (x.figures v k); sound = x.sound }

  module _ (r : ℕ) (l : List ℕ) (x : Stands (graph_of s) (path_of path) r j l) where
    -- THE NEXT STATE, of a round that leaves it
    module _ (next : State) (theory : (v : ℕ) → v < at16 s 5 → next v ≡ pull (graph_of s) (path_of path) (suc r) v) (l' : List ℕ) (b : Bool)
        (y : Round (graph_of s) (path_of path) r j next l l' b) where
      shown : (v : ℕ) → v < n → figures_in c l' j v ≡ pull G c (suc r) v
      shown v k = y.figures v k ∙ theory v k

      changes : (v : ℕ) → v < n → changed_in (suc r) l' j v ≡ not (same (pull G c (suc r) v) (pull G c r v))
      changes v k = y.marks v k ∙ ap₂ (λ (o p : Option (List ℕ)). not (same o p)) (shown v k) (x.figures v k)

      next_stands : Stands G c (suc r) j l'
      next_stands = record {
        figures = shown;
        marks = λ v k. changes v k ∙ sym (fresh_now r v) ∙ sym (marked_now (suc r) v);
        sound = y.sound;
      }

      next_changed : b ≡ not (unchanged (pull G c) r n)
      next_changed =
          y.moves
          ∙ any_same n (changed_in (suc r) l' j) (λ v. not (same (pull G c (suc r) v) (pull G c r v))) changes
          ∙ any_changed (pull G c) r n

    abbrev S : State
    S = figures_in c l j

    -- BY PULL
    pub pull_stands : (l' : List ℕ) (b : Bool)
        → PullRound (graph_of s) (path_of path) r j l l' b → Advanced (graph_of s) (path_of path) r j l l' b
    pull_stands l' b y =
        let t = pull_steps N c.keys (path_network s path g) r S x.figures in
        (next_stands (pulled N c.keys S) t l' b y, next_changed (pulled N c.keys S) t l' b y, y.others)

    -- BY PUSH
    pub push_stands : (l' : List ℕ) (b : Bool)
        → PushRound (graph_of s) (path_of path) r j l l' b → Advanced (graph_of s) (path_of path) r j l l' b
    push_stands l' b y =
        let t =
        push_steps N c.keys (path_network s path g) r S x.figures (path_ordered s path g) (changed_in r l j)
        (λ u k. x.marks u k ∙ marked_now r u) in (
          next_stands (pushed_from N c.keys S (changed_in r l j)) t l' b y,
          next_changed (pushed_from N c.keys S (changed_in r l j)) t l' b y,
          y.others,
        )

    -- ---- AT REST: where no vertex is marked, a round changes nothing
    module _ (none : (v : ℕ) → v < at16 s 5 → changed_in r l j v ≡ false) where
      nothing : (v m : ℕ) → gather N c.keys (λ i. false) S v m ≡ S v
      unfolding gather
      nothing v zero = refl
      nothing v (suc i) = gather_kept N c.keys (λ i. false) S v i refl ∙ nothing v i

      same_state : (v : ℕ) → v < n → pull G c (suc r) v ≡ pull G c r v
      same_state v h =
          sym (push_steps N c.keys (path_network s path g) r S x.figures (path_ordered s path g) (λ u. false)
          (λ u k. sym (none u k) ∙ x.marks u k ∙ marked_now r u) v h)
          ∙ gather_live N c.keys (λ i. N.usable i && false) (λ i. false) S v N.edges (λ i k. refl)
          ∙ nothing v N.edges
          ∙ x.figures v h

      pub rests : Advanced (graph_of s) (path_of path) r j l l false
      unfolding changed_in
      rests = (
        record {
          figures = λ v h. x.figures v h ∙ sym (same_state v h);
          marks = λ v h.
              none v h
              ∙ sym (ap not (T_true (same (pull G c (suc r) v) (pull G c r v)) (same_of (pull G c (suc r) v) (pull G c r v) (same_state v h))))
              ∙ sym (fresh_now r v)
              ∙ sym (marked_now (suc r) v);
          sound = sound_later n c r l j x.sound;
        },
        sym (ap not (T_true (unchanged (pull G c) r n) (unchanged_of (pull G c) r n same_state))),
        λ i h m v k. refl,
      )

    -- ---- where one is marked, few rounds are done: a figure has room in its word
    pub awake_early : (v : ℕ) → v < at16 s 5 → changed_in r l j v ≡ true → r < 1023
    awake_early v h e = go r (sym (marked_now r v) ∙ sym (x.marks v h) ∙ e)
      where
        go : (q : ℕ) → fresh N c.keys q v ≡ true → q < 1023
        go zero f = omega arith
        go (suc q) f = pick (dec_le (2 * n) (suc q))
          where
            pick : Dec (2 * n ≤ suc q) → suc q < 1023
            pick (yes k) =
                absurd (false≢true (sym (ap not (T_true (same (pull G c (suc q) v) (pull G c q v))
                (same_of (pull G c (suc q) v) (pull G c q v) (settled_quiet N c.keys (path_ordered s path g) (path_network s path g) q k v h))))
                ∙ sym (fresh_now q v) ∙ f))
            pick (no k) = omega (arith, (graph_legal s path g).few_vertices)
