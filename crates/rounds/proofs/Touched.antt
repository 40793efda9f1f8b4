-- A ROUND BY PUSH AND A ROUND BY PULL: what they walk and the words lent, and what they leave. Assumes nothing.
use Prim.Native.Nat.{ℕ, ◌+◌, ◌*◌, ◌≤◌, ◌<◌}
use mathlib.Core.Path.{◌≡◌, refl, sym, ap, ◌∙◌}
use mathlib.Core.Bool.{Bool, false, ◌&&◌}
use mathlib.Core.List.{List}
use native.Mathlib.Omega.{arith}
use borrow.Author.Tests.{eq-eqb, lt-ltb, ne_eqb}
use lib.ListN.{get_or, length}
use Rattle.walks.specs.Rounds.{gather}
use Rattle.walks.specs.Walks.{Edge, Network}
use Rattle.meaning.specs.Query.{PathReduction, network_of}
use Rattle.wire.specs.Wire.{at16}
use Rattle.graph.specs.Graph.{edge_in, graph_of}
use Rattle.graph.proofs.Rows.{edge_there, edges_count}
use Rattle.incoming.specs.Incoming.{Successors}
use Rattle.incoming.proofs.Ends.{ends}
use Rattle.incoming.proofs.Gathered.{gather_outside}
use Rattle.incoming.proofs.Threads.{leads_inside}
use Rattle.packed_path.specs.declared.PackedPath.{PackedPath}
use Rattle.packed_path.specs.Packed.{no_path, path_of}
use Rattle.packed_figures.specs.Packed.{constants}
use Rattle.packed_figures.proofs.Legal.{legal_sound}
use Rattle.vertex_set.specs.Sets.{filled, member}
use Rattle.vertex_set.proofs.Sets.{member_filled, replaced_length, replaced_other}
use Rattle.table.specs.Steps.{Quiet, Stepped, touches, word_in}
use Rattle.table.specs.Table.{Idle, Sound, changed_in, figures_in, path_at}
use Rattle.table.proofs.Cells.{cell_mark, cells_same, replaced_words}
use Rattle.table.proofs.Rounds.{Inside}
use Rattle.rounds.specs.Prepared.{graph_in, vertices_in}
use Rattle.rounds.specs.Run.{PullRound, PushRound, Round}
use Rattle.rounds.specs.Steps.{no_constants}
use Rattle.rounds.specs.declared.PreparedRun.{PreparedRun}
use Rattle.rounds.proofs.Given.{Given, given_at, graph_legal, path_legal}
use Rattle.rounds.proofs.Shown.{round_at, words_most}

module _ (s : List ℕ) (path : PackedPath) (g : Given s path) (j : ℕ) (slot : j < 8) (r : ℕ) (early : r < 1023) (old : List ℕ)
    (x : Sound (at16 s 5) (path_of path) r old j) (successors : List ℕ) (leads : Successors s 0 successors) where
  abbrev c : PathReduction
  c = path_of path

  abbrev N : Network
  N = network_of (graph_of s) (path_of path)

  few : at16 s 5 ≤ 256
  few = (graph_legal s path g).few_vertices

  from_in : (i : ℕ) → i < at16 s 7 → (edge_in s i).from < at16 s 5
  from_in i h = (ends s g.bytes g.accepted i h).0

  edge_is : (i : ℕ) → i < at16 s 7 → N.edge i ≡ edge_in s i
  edge_is i h = edge_there s i h

  -- what a round asks of the graph
  pub step_inside : Inside s successors
  step_inside = record {
    few_vertices = few;
    starts_inside = from_in;
    leads_inside = leads_inside s g.bytes g.accepted successors leads;
  }

  -- ---- WHERE THE TABLE IS GIVEN with some marks, by which the edges that pass the test `live` count

  pub record Given_table (given : List ℕ) (live : ℕ → Bool) : Type 0 where
    pub words : (i v : ℕ) → i < 8 → v < at16 s 5 → word_in given i v ≡ word_in old i v
    pub others : (i : ℕ) → i < 8 → (i ≡ j → ⊥) → (v : ℕ) → v < 256 → member given i v ≡ member old i v
    pub marks : (i : ℕ) → i < at16 s 7 → member given j (edge_in s i).from ≡ live i
    pub idle : Idle (at16 s 5) given
    pub size : length given ≡ length old

  module _ (given : List ℕ) (live : ℕ → Bool) (t : Given_table given live) where
    -- and of the table
    pub step_quiet : (work : List ℕ) → 8 ≤ length work → Quiet s (constants (path_of path).keys) j given work
    step_quiet work room = record {
      sound = legal_sound c.keys (path_legal s path g);
      slot = slot;
      table_fits = omega (arith, x.long, t.size);
      work_fits = room;
      idle = t.idle;
      words_most = λ u h. rw (t.words j u slot h) (words_most s path g j r early old x u h);
    }

    -- a vertex that is not walked keeps its figures
    still : (v : ℕ) → v < at16 s 5 → touches (at16 s 5) j given successors v ≡ false
        → gather N c.keys live (figures_in c old j) v N.edges ≡ figures_in c old j v
    still v h e =
        ap (gather N c.keys live (figures_in c old j) v) (edges_count s)
        ∙ gather_outside N c.keys live (figures_in c old j) v s (λ i l. ap (λ (d : Edge). d.to) (edge_is i l)) successors leads (member given j)
        (λ i l q. (t.marks i l ∙ q, from_in i l)) (omega (arith, few)) e

    pub step_round : (new : List ℕ) (says : Bool) → Stepped s (constants (path_of path).keys) j successors given new says
        → Round (graph_of s) (path_of path) r j (λ v. gather N c.keys live (figures_in c old j) v N.edges) old new says
    step_round new says y =
        round_at s path g j r early old x given (λ u h. t.words j u slot h) live t.marks successors
        (λ i h m v k. cells_same old given i v (t.words i v h k) (t.others i h m v (omega (arith, few)))) still new says t.size y

  -- ---- BY PUSH: with the marks that it has
  pub push_given : Given_table old (λ i. (network_of (graph_of s) (path_of path)).usable i
      && changed_in r old j ((network_of (graph_of s) (path_of path)).edge i).from)
  unfolding changed_in
  push_given = record {
    words = λ i v h k. refl;
    others = λ i h m v k. refl;
    marks = λ i h. sym (cell_mark old j (edge_in s i).from) ∙ ap (λ (e : Edge). changed_in r old j e.from) (sym (edge_is i h));
    idle = x.idle;
    size = refl;
  }

  -- ---- BY PULL: with all marked
  long : 4 * j + 4 ≤ length old
  long = omega (arith, x.long)

  pub pull_given : Given_table (filled old j (at16 s 5)) (network_of (graph_of s) (path_of path)).usable
  pull_given = record {
    words = λ i v h k. replaced_words old j _ i v slot;
    others = λ i h m v k. member_filled old j (at16 s 5) i v k long ∙ rw (ne_eqb i j m);
    marks = λ i h.
        let u : (edge_in s i).from < 256 = omega (arith, from_in i h, few) in
        member_filled old j (at16 s 5) j (edge_in s i).from u long ∙ rw (eq-eqb j j refl) (lt-ltb (edge_in s i).from (at16 s 5) (from_in i h));
    idle = λ u h. replaced_other old j _ (32 + 8 * at16 s 5 + u) (omega arith) ∙ x.idle u h;
    size = replaced_length old j _;
  }

-- ---- OF THE PATH REDUCTION j OF A PREPARED RUN: what a round asks, and what it leaves
module _ (x : PreparedRun) (j : ℕ) (h : j < x.paths) (r : ℕ) (early : r < 1023) (old : List ℕ)
    (sound : Sound (vertices_in x) (path_at x.table j) r old j) where
  abbrev bytes : List ℕ
  bytes = x.indexed.graph.bytes.now

  abbrev own : PackedPath
  own = get_or x.table j no_path

  given : Given bytes own
  given = given_at x j h

  slot_of : j < 8
  slot_of = omega (arith, h, x.few)

  pub push_asks : (work : List ℕ) → 8 ≤ length work → Quiet x.indexed.graph.bytes.now (get_or x.all j no_constants) j old work
  push_asks work room =
      rw (x.constants j h)
      (step_quiet bytes own given j slot_of r early old sound x.indexed.successors.now x.leads old _
      (push_given bytes own given j slot_of r early old sound x.indexed.successors.now x.leads) work room)

  pub push_leaves : (new : List ℕ) (says : Bool)
      → Stepped x.indexed.graph.bytes.now (get_or x.all j no_constants) j x.indexed.successors.now old new says
      → PushRound (graph_in x) (path_at x.table j) r j old new says
  push_leaves new says y =
      step_round bytes own given j slot_of r early old sound x.indexed.successors.now x.leads old _
      (push_given bytes own given j slot_of r early old sound x.indexed.successors.now x.leads) new says (rw (x.constants j h) at y)

  -- where all vertices are marked
  module _ (marked : List ℕ) (e : marked ≡ filled old j (vertices_in x)) where
    pub pull_asks : (work : List ℕ) → 8 ≤ length work → Quiet x.indexed.graph.bytes.now (get_or x.all j no_constants) j marked work
    pull_asks work room =
        rw (x.constants j h, e)
        (step_quiet bytes own given j slot_of r early old sound x.indexed.successors.now x.leads _ _
        (pull_given bytes own given j slot_of r early old sound x.indexed.successors.now x.leads) work room)

    pub pull_leaves : (new : List ℕ) (says : Bool)
        → Stepped x.indexed.graph.bytes.now (get_or x.all j no_constants) j x.indexed.successors.now marked new says
        → PullRound (graph_in x) (path_at x.table j) r j old new says
    pull_leaves new says y =
        step_round bytes own given j slot_of r early old sound x.indexed.successors.now x.leads _ _
        (pull_given bytes own given j slot_of r early old sound x.indexed.successors.now x.leads) new says
        (rw (x.constants j h, e) at y)
