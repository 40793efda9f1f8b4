-- THE ACCEPTED BYTES ARE EXACTLY THE ENCODINGS OF LEGAL GRAPHS, and writing what was read yields the bytes read. Assumes nothing.
use Prim.Native.Nat.{ℕ, zero, suc, ◌+◌, ◌*◌, ◌≤◌, ◌<◌, suc-le-suc}
use mathlib.Core.Path.{◌≡◌, refl, ap, ◌∙◌}
use mathlib.Core.Bool.{cond}
use mathlib.Core.List.{List, [], ◌∷◌, ◌++◌}
use native.Mathlib.Omega.{arith}
use native.Mathlib.Nat.{le_of_suc-le-suc}
use borrow.Author.Tests.{leb-false, eqb-false, le-ltb, lt-leb, eq-eqb, ne_eqb}
use lib.Dec.{leb, eqb}
use lib.ListN.{length, length-append}
use Rattle.meaning.specs.Limits.{GraphLegal}
use Rattle.walks.specs.Walks.{Edge, Graph, edge_at}
use Rattle.wire.specs.Header.{header_code, then}
use Rattle.wire.specs.Wire.{Bytes, at16, done, fitted, le16}
use Rattle.wire.proofs.Codes.{past, then_both, then_none, then_same}
use Rattle.wire.proofs.Header.{header_accepted}
use Rattle.graph.specs.Encode.{edges_bytes, encode, head_bytes, table_bytes, table_graph, write_reply}
use Rattle.graph.specs.Graph.{counts_code, edge_code, edges_code, edges_in, graph_code, graph_of, graph_reading, table_of}
use Rattle.graph.proofs.Accepted.{accepted, counts}
use Rattle.graph.proofs.Bytes.{EdgeFits, EdgesFit, bytes_of, edge_fits, edges_length, edges_read, word_back}
use Rattle.graph.proofs.Rows.{edge_there, edges_count}
use Rattle.graph.proofs.Table.{typed}

-- ---- an edge, and the edges in turn

-- an edge of a graph of n vertices, as `GraphLegal` has it
record EdgeLegal (n : ℕ) (e : Edge) : Type 0 where
  from : e.from < n
  to : e.to < n
  least : 1 ≤ e.capacity
  most : e.capacity ≤ 65534

-- one that is not refused is legal, and the other way round
edge_legal : (n : ℕ) (e : Edge) → EdgeFits e → edge_code n e ≡ 0 → EdgeLegal n e
unfolding edge_code
edge_legal n e f z =
    let a = past (leb n e.from) 6 _ z in
    let b = past (leb n e.to) 6 _ a.1 in
    let c = past (eqb e.capacity 0) 7 _ b.1 in
    let d = past (eqb e.capacity 65535) 7 _ c.1 in
    let some : e.capacity ≡ 0 → ⊥ = eqb-false _ _ c.0 in
    let fewer : e.capacity ≡ 65535 → ⊥ = eqb-false _ _ d.0 in
    record { from = leb-false _ _ a.0; to = leb-false _ _ b.0; least = omega arith; most = omega (arith, f.capacity) }

edge_accepted : (n : ℕ) (e : Edge) → EdgeLegal n e → edge_code n e ≡ 0
unfolding edge_code
edge_accepted n e l =
    let some : e.capacity ≡ 0 → ⊥ = λ z. omega (arith, l.least, z) in
    let fewer : e.capacity ≡ 65535 → ⊥ = λ z. omega (arith, l.most, z) in
    rw (lt-leb _ _ l.from, lt-leb _ _ l.to, ne_eqb _ _ some, ne_eqb _ _ fewer)

-- no edge is refused where the edges in turn are not, and the other way round
each_right : (n : ℕ) (es : List Edge) → edges_code n es ≡ 0 → (i : ℕ) → i < length es → edge_code n (edge_at es i) ≡ 0
unfolding edges_code
each_right n [] z i h = absurd (omega arith)
each_right n (e ∷ es) z zero h = (then_both (edge_code n e) (edges_code n es) z).0
each_right n (e ∷ es) z (suc i) h = each_right n es (then_both (edge_code n e) (edges_code n es) z).1 i (le_of_suc-le-suc h)

all_right : (n : ℕ) (es : List Edge) → ((i : ℕ) → i < length es → edge_code n (edge_at es i) ≡ 0) → edges_code n es ≡ 0
unfolding edges_code
all_right n [] f = refl
all_right n (e ∷ es) f = then_none (edge_code n e) (edges_code n es) (f 0 (omega arith)) ∙ all_right n es (λ i h. f (suc i) (suc-le-suc h))

-- ---- the typed form

-- of accepted bytes the reader gives the typed form of their graph
pub graph_read : (s : List ℕ) → graph_code s ≡ 0 → graph_reading s ≡ table_of (graph_of s)
graph_read s z = refl

-- which means that graph
pub table_read : (s : List ℕ) → graph_code s ≡ 0 → table_graph (graph_reading s) ≡ graph_of s
table_read s z = ap table_graph (graph_read s z) ∙ typed (graph_of s)

-- and has at most 1,024 rows
pub read_few : (s : List ℕ) → graph_code s ≡ 0 → (graph_reading s).count ≤ 1024
unfolding table_of
read_few s z = rw (edges_count s) (accepted s z).sizes.few_edges

-- the bytes of the typed form of a graph are the graph's
pub table_encoded : (g : Graph) → table_bytes (table_of g) ≡ encode g
unfolding table_bytes table_of
table_encoded g = ap (λ (h : Graph). head_bytes g.vertices (length g.edges) ++ edges_bytes h.edges) (typed g)

-- ---- what is judged of counts and edges that were written

-- counts within their bounds are not refused
counts_right : (n m : ℕ) → 0 < n → n ≤ 256 → m ≤ 1024 → counts_code n m ≡ 0
unfolding counts_code
counts_right n m some few less = rw (ne_eqb n 0 (λ z. omega arith), le-ltb _ _ few, le-ltb _ _ less)

-- WHAT IS JUDGED OF BYTES MADE OF COUNTS AND EDGES: the counts, then the edges in turn
pub judged_bytes : (n m : ℕ) (es : List Edge) → n < 65536 → m < 65536 → (m ≤ 1024 → m ≡ length es) → EdgesFit es →
    graph_code (head_bytes n m ++ edges_bytes es) ≡ then (counts_code n m) (edges_code n es)
unfolding graph_code
judged_bytes n m es hn hm same f =
    let s : List ℕ = head_bytes n m ++ edges_bytes es in
    let long : length s ≡ 9 + 8 * length es = length-append (head_bytes n m) (edges_bytes es) ∙ omega (arith, edges_length es) in
    let rest : counts_code n m ≡ 0 → then (cond (eqb (length s) (9 + 8 * m)) 0 6) (edges_code n (edges_in s)) ≡ edges_code n es = λ z.
    let e : m ≡ length es = same (counts n m z).few_edges in
    rw (eq-eqb (length s) (9 + 8 * m) (omega arith)) (ap (edges_code n) (edges_read n m es hm e f)) in
    then_none (header_code 0x4d 1 9 s) _ (header_accepted 0x4d 1 9 1 (le16 n ++ (le16 m ++ edges_bytes es)) (omega arith) (omega arith) (omega arith))
    ∙ rw (word_back n hn, word_back m hm) (then_same (counts_code n m) _ _ rest)

-- ---- legal graphs

-- each field of a legal graph is 16 bits wide
pub legal_fits : (g : Graph) → GraphLegal g → EdgesFit g.edges
legal_fits g l i h =
    let ends = l.fits.ends_fit i h in
    record {
      from = omega (arith, ends.0, l.few_vertices);
      to = omega (arith, ends.1, l.few_vertices);
      weight = omega (arith, l.weights i h);
      capacity = omega (arith, (l.capacities i h).1);
    }

-- THE READER ACCEPTS EVERY LEGAL GRAPH, and reads it back
pub read_complete : (g : Graph) → GraphLegal g →
    (graph_code (encode g) ≡ 0) × (graph_of (encode g) ≡ g) × (table_graph (graph_reading (encode g)) ≡ g)
read_complete g l =
    let m : ℕ = length g.edges in
    let hn : g.vertices < 65536 = omega (arith, l.few_vertices) in
    let hm : m < 65536 = omega (arith, l.few_edges) in
    let fit = legal_fits g l in
    let each : (i : ℕ) → i < m → edge_code g.vertices (edge_at g.edges i) ≡ 0 = λ i h.
    edge_accepted g.vertices _ (record {
      from = (l.fits.ends_fit i h).0;
      to = (l.fits.ends_fit i h).1;
      least = (l.capacities i h).0;
      most = (l.capacities i h).1;
    }) in
    let code : graph_code (encode g) ≡ 0 =
    judged_bytes g.vertices m g.edges hn hm (λ _. refl) fit
    ∙ then_none (counts_code g.vertices m) _ (counts_right g.vertices m l.fits.some_vertex l.few_vertices l.few_edges)
    ∙ all_right g.vertices g.edges each in
    let back : graph_of (encode g) ≡ g = rw (word_back g.vertices hn, edges_read g.vertices m g.edges hm refl fit) in
    (code, back, table_read (encode g) code ∙ back)

-- WHAT THE READER ACCEPTS IS THE ENCODING OF A LEGAL GRAPH
pub read_sound : (s : List ℕ) → Bytes s → graph_code s ≡ 0 →
    GraphLegal (graph_of s) × (encode (graph_of s) ≡ s) × (table_graph (graph_reading s) ≡ graph_of s)
read_sound s b z =
    let a = accepted s z in
    let n : ℕ = at16 s 5 in
    let es : List Edge = edges_in s in
    let fit : EdgesFit es = λ i h. rw (edge_there s i (omega (arith, edges_count s))) (edge_fits s b i) in
    let each : (i : ℕ) → i < length es → EdgeLegal n (edge_at es i) = λ i h. edge_legal n (edge_at es i) (fit i h) (each_right n es a.rows i h) in
    let legal : GraphLegal (graph_of s) = record {
      fits = record { some_vertex = a.sizes.some_vertex; ends_fit = λ i h. ((each i h).from, (each i h).to) };
      few_vertices = a.sizes.few_vertices;
      few_edges = omega (arith, edges_count s, a.sizes.few_edges);
      weights = λ i h. omega (arith, (fit i h).weight);
      capacities = λ i h. ((each i h).least, (each i h).most);
    } in
    (legal, rw (edges_count s) (bytes_of s b a), table_read s z)

-- WRITING WHAT WAS READ YIELDS THE BYTES READ
pub write_read : (s : List ℕ) → Bytes s → graph_code s ≡ 0 → (room : ℕ) → length s ≤ room → write_reply (graph_reading s) room
    ≡ done s
unfolding write_reply
write_read s b z room h =
    let back : table_bytes (graph_reading s) ≡ s = ap table_bytes (graph_read s z) ∙ table_encoded (graph_of s) ∙ (read_sound s b z).1 in
    rw (back, eq-eqb _ _ z, le-ltb _ _ h)

-- THE BYTES OF A LEGAL GRAPH ARE WRITTEN FROM ITS TYPED FORM, where they fit
pub write_legal : (g : Graph) → GraphLegal g → (room : ℕ) → write_reply (table_of g) room ≡ fitted (encode g) room
unfolding write_reply
write_legal g l room = rw (table_encoded g, eq-eqb _ _ (read_complete g l).0)
