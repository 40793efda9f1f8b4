-- A ROUND ON WORDS IS THE ROUND ON FIGURES, over what the table shows; and so are the initial values. Assumes nothing.
use Prim.Native.Nat.{ℕ, zero, suc, ◌+◌, ◌*◌, ◌≤◌, ◌<◌, min}
use mathlib.Core.Path.{◌≡◌, refl, sym, ap, ap₂, ◌∙◌, subst}
use mathlib.Core.Bool.{Bool, true, false, cond, not, ◌&&◌}
use mathlib.Core.List.{List, [], ◌∷◌}
use mathlib.Core.Option.{Option}
use native.Mathlib.Omega.{arith}
use borrow.Author.Tests.{lt-ltb}
use lib.Dec.{eqb}
use lib.ListN.{length}
use Rattle.walks.specs.Rounds.{State, gather, initial, reached, same}
use Rattle.walks.specs.Walks.{Edge, Graph, Network}
use Rattle.walks.proofs.Same.{same_of}
use Rattle.meaning.specs.Query.{PathReduction, network_of, starts}
use Rattle.wire.specs.Wire.{at16}
use Rattle.graph.specs.Graph.{edge_in, graph_of}
use Rattle.graph.proofs.Rows.{edge_there, edges_count}
use Rattle.incoming.proofs.Ends.{ends}
use Rattle.packed_path.specs.declared.PackedPath.{PackedPath}
use Rattle.packed_path.specs.Packed.{path_of, sources_of}
use Rattle.packed_path.specs.Steps.{begins}
use Rattle.packed_figures.specs.declared.PathConstants.{PathConstants}
use Rattle.packed_figures.specs.Held.{Held}
use Rattle.packed_figures.specs.Packed.{Packs, absent, along, constants, figures_of, word_of}
use Rattle.packed_figures.specs.Steps.{brought, gathered}
use Rattle.packed_figures.proofs.Gathered.{gathered_below, gathered_held, gathered_is}
use Rattle.packed_figures.proofs.Held.{held_base, held_packs}
use Rattle.packed_figures.proofs.Options.{along_absent, word_figures, word_initial, word_most, word_same}
use Rattle.vertex_set.specs.Sets.{member}
use Rattle.table.specs.Steps.{Began, Stepped, lends, moves, next_word, reduced_upto, started, touches, word_in}
use Rattle.table.specs.Table.{Cell, Idle, Others, Sound, cell, cell_in, changed_in, figures_in}
use Rattle.table.proofs.Cells.{cell_word}
use Rattle.rounds.specs.Run.{Begun, Round}
use Rattle.rounds.proofs.Given.{Given, T_true, graph_legal, path_legal}

module _ (s : List ℕ) (path : PackedPath) (g : Given s path) (j : ℕ) where
  abbrev c : PathReduction
  c = path_of path

  abbrev ks : List ℕ
  ks = (path_of path).keys

  abbrev G : Graph
  G = graph_of s

  abbrev N : Network
  N = network_of (graph_of s) (path_of path)

  abbrev n : ℕ
  n = at16 s 5

  abbrev K : PathConstants
  K = constants (path_of path).keys

  few : at16 s 5 ≤ 256
  few = (graph_legal s path g).few_vertices

  -- ---- a word that is that of figures which have room

  word_shows : (o : Option (List ℕ)) → Packs ks o → (l : List ℕ) (v : ℕ) → (cell_in l j v).word ≡ word_of ks o → figures_in c l j v ≡ o
  unfolding figures_in
  word_shows o p l v e = ap (figures_of ks) e ∙ word_figures ks (path_legal s path g) o p

  -- ---- INITIAL VALUES

  starts_is : (ss : List ℕ) (v : ℕ) → v < n → begins ss v ≡ starts n ss v
  starts_is [] v h = sym (lt-ltb v n h)
  starts_is (x ∷ ss) v h = refl

  module _ (old new : List ℕ) (long : 32 + 9 * at16 s 5 ≤ length old) (idle : Idle (at16 s 5) old)
      (y : Began (begins (sources_of path)) (constants (path_of path).keys) (at16 s 5) j old new) where
    abbrev start : ℕ → Bool
    start v = N.source v

    first : ℕ → Option (List ℕ)
    first v = initial (start v) ks v

    first_held : (v : ℕ) → v < n → Held 0 ks (initial (start v) ks v)
    first_held v h = go (start v)
      where
        go : (b : Bool) → Held 0 ks (initial b ks v)
        go true = held_base ks v (omega (arith, few))
        go false = tt

    first_packs : (v : ℕ) → v < n → Packs ks (initial (start v) ks v)
    first_packs v h = held_packs ks 0 (omega arith) (initial (start v) ks v) (first_held v h)

    begins_is : (v : ℕ) → v < n → begins (sources_of path) v ≡ start v
    unfolding path_of
    begins_is v h = starts_is (sources_of path) v h

    cell_is : (v : ℕ) → v < n → cell_in new j v ≡ cell (word_of ks (initial (start v) ks v)) (start v)
    cell_is v h =
        y.cells v h
        ∙ ap (λ (b : Bool). cell (started K b v) b) (begins_is v h)
        ∙ ap (λ (x : ℕ). cell x (start v)) (sym (word_initial ks (path_legal s path g) (start v) v))

    shown : (v : ℕ) → v < n → figures_in c new j v ≡ initial (start v) ks v
    shown v h = word_shows (initial (start v) ks v) (first_packs v h) new v (ap (λ (x : Cell). x.word) (cell_is v h))

    reached_is : (b : Bool) (v : ℕ) → b ≡ reached (initial b ks v)
    reached_is true v = refl
    reached_is false v = refl

    pub begins_at : Begun (graph_of s) (path_of path) j old new
    unfolding changed_in
    begins_at = record {
      figures = shown;
      marks = λ v h. ap (λ (x : Cell). x.changed) (cell_is v h) ∙ reached_is (start v) v ∙ ap reached (sym (shown v h));
      others = y.others (at16 s 5) few;
      sound = record {
        long = omega (arith, y.size);
        idle = λ u h. y.kept u ∙ idle u h;
        words = λ v h. record {
          figures = initial (start v) ks v;
          held = first_held v h;
          packs = first_packs v h;
          packed = ap (λ (x : Cell). x.word) (cell_is v h);
        };
      };
    }

  -- ---- A ROUND, of any sound table

  module _ (r : ℕ) (early : r < 1023) (old : List ℕ) (x : Sound (at16 s 5) (path_of path) r old j) where
    abbrev S : State
    S = figures_in (path_of path) old j

    abbrev W : ℕ → ℕ
    W = word_in old j

    S_is : (u : ℕ) → (h : u < n) → S u ≡ (x.words u h).figures
    S_is u h = word_shows (x.words u h).figures (x.words u h).packs old u (x.words u h).packed

    S_held : (u : ℕ) → u < n → Held r ks (S u)
    S_held u h = subst (Held r ks) (sym (S_is u h)) (x.words u h).held

    S_packs : (u : ℕ) → u < n → Packs ks (S u)
    S_packs u h = subst (Packs ks) (sym (S_is u h)) (x.words u h).packs

    agrees : (u : ℕ) → u < n → W u ≡ word_of ks (S u)
    agrees u h = sym (cell_word old j u) ∙ (x.words u h).packed ∙ ap (word_of ks) (sym (S_is u h))

    -- a word is at most ABSENT
    pub words_most : (u : ℕ) → u < at16 s 5 → word_in old j u ≤ absent
    words_most u h = rw (agrees u h) (word_most ks (path_legal s path g) (S u) (S_packs u h))

    edge_is : (i : ℕ) → i < N.edges → edge_in s i ≡ N.edge i
    edge_is i h = sym (edge_there s i (omega (arith, edges_count s)))

    from_in : (i : ℕ) → i < N.edges → (N.edge i).from < n
    from_in i h = rw (sym (edge_is i h)) (ends s g.bytes g.accepted i (omega (arith, edges_count s))).0

    -- the table as a round takes it, with any marks: the words are those of `old`, and the start of an edge is marked where the edge passes the test `live`
    module _ (given : List ℕ) (words : (u : ℕ) → u < at16 s 5 → word_in given j u ≡ word_in old j u) (live : ℕ → Bool)
        (marks : (i : ℕ) → i < at16 s 7 → member given j (edge_in s i).from ≡ live i) where
      abbrev L : ℕ → ℕ
      L = lends (constants (path_of path).keys) j given

      abbrev next : State
      next v = gather (network_of (graph_of s) (path_of path)) (path_of path).keys live S v (network_of (graph_of s) (path_of path)).edges

      next_held : (v : ℕ) → v < n → Held (suc r) ks (next v)
      next_held v h =
          gathered_held N ks (path_legal s path g) (graph_legal s path g).weights from_in (edge_in s) edge_is S r early S_held W agrees live v h N.edges
          (omega arith)

      next_packs : (v : ℕ) → v < n → Packs ks (next v)
      next_packs v h = held_packs ks (suc r) (omega arith) (next v) (next_held v h)

      -- what an edge brings is what it brings where it passes
      lent_is : (v : ℕ) → v < n → (i : ℕ) → i ≤ at16 s 7 → reduced_upto s K L (W v) v i ≡ gathered (edge_in s) K live W v i
      unfolding reduced_upto gathered
      lent_is v h zero l = refl
      lent_is v h (suc i) l =
          rw (lent_is v h i (omega arith), marks i l, words e.from (ends s g.bytes g.accepted i l).0) (go (live i) (eqb e.to v))
        where
          e : Edge
          e = edge_in s i

          most : gathered (edge_in s) K live W v i ≤ absent
          most = gathered_below (edge_in s) K live W v (words_most v h) i

          go : (a b : Bool)
              → cond b (min (along K (cond a (W e.from + K.edges) absent) e.weight e.capacity) (gathered (edge_in s) K live W v i))
              (gathered (edge_in s) K live W v i)
              ≡ min (gathered (edge_in s) K live W v i) (brought (a && b) K e W)
          go true true = omega arith
          go true false = omega (arith, most)
          go false true = omega (arith, most, along_absent K absent e.weight e.capacity (omega arith))
          go false false = omega (arith, most)

      reduced_is : (v : ℕ) → v < n → next_word s K j L given v ≡ word_of ks (next v)
      reduced_is v h =
          ap (λ (y : ℕ). reduced_upto s K L y v (at16 s 7)) (words v h)
          ∙ lent_is v h (at16 s 7) (omega arith)
          ∙ ap (gathered (edge_in s) K live W v) (sym (edges_count s))
          ∙ gathered_is N ks (path_legal s path g) (graph_legal s path g).weights from_in (edge_in s) edge_is S r early S_held W agrees live v h N.edges
          (omega arith)

      -- where a vertex that is not walked would keep its figures
      module _ (successors : List ℕ) (others : Others (at16 s 5) j old given)
          (still : (v : ℕ) → v < at16 s 5 → touches (at16 s 5) j given successors v ≡ false → next v ≡ S v) (new : List ℕ) (says : Bool)
          (long : length given ≡ length old) (y : Stepped s (constants (path_of path).keys) j successors given new says) where
        abbrev walked : ℕ → Bool
        walked = touches (at16 s 5) j given successors

        word_is : (v : ℕ) → v < n → (cell_in new j v).word ≡ word_of ks (next v)
        word_is v h = ap (λ (z : Cell). z.word) (y.cells v h) ∙ go (walked v) refl
          where
            go : (b : Bool) → walked v ≡ b → cond b (next_word s K j L given v) (word_in given j v) ≡ word_of ks (next v)
            go true e = reduced_is v h
            go false e = words v h ∙ agrees v h ∙ ap (word_of ks) (sym (still v h e))

        shown_is : (v : ℕ) → v < n → figures_in c new j v ≡ next v
        shown_is v h = word_shows (next v) (next_packs v h) new v (word_is v h)

        mark_is : (v : ℕ) → v < n → (cell_in new j v).changed ≡ not (same (next v) (S v))
        mark_is v h = ap (λ (z : Cell). z.changed) (y.cells v h) ∙ go (walked v) refl
          where
            go : (b : Bool) → walked v ≡ b → (b && moves s K j L given v) ≡ not (same (next v) (S v))
            go true e =
                ap₂ (λ (a d : ℕ). not (eqb a d)) (reduced_is v h) (words v h ∙ agrees v h)
                ∙ ap not (word_same ks (path_legal s path g) (next v) (S v) (next_packs v h) (S_packs v h))
            go false e = sym (ap not (T_true (same (next v) (S v)) (same_of (next v) (S v) (still v h e))))

        pub round_at : Round (graph_of s) (path_of path) r j next old new says
        unfolding changed_in
        round_at = record {
          figures = shown_is;
          marks = λ v h. mark_is v h ∙ ap (λ (o : Option (List ℕ)). not (same o (S v))) (sym (shown_is v h));
          moves = y.stirs;
          others = λ i h m v k. y.others i h m v k ∙ others i h m v k;
          sound = record {
            long = omega (arith, y.size, long, x.long);
            idle = y.idle;
            words = λ v h. record { figures = next v; held = next_held v h; packs = next_packs v h; packed = word_is v h };
          };
        }
