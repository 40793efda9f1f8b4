-- The bytes of edges, and the edges of bytes: each way undoes the other. Assumes nothing.
use Prim.Native.Nat.{ℕ, zero, suc, ◌+◌, ◌*◌, ◌/◌, ◌%◌, ◌≤◌, ◌<◌, suc-le-suc}
use mathlib.Core.Path.{◌≡◌, refl, sym, ap, ◌∙◌}
use mathlib.Core.List.{List, [], ◌∷◌, ◌++◌, map, append_assoc}
use native.Mathlib.Numerals.{add-one}
use native.Mathlib.Omega.{arith}
use native.Mathlib.Nat.{add-zero, add_assoc}
use lib.ListN.{length, get_or, drop, take, length-append, length-map, drop_of_length-le}
use lib.Seq.{get_or-append-add, drop-cons, sets}
use Rattle.meaning.specs.Run.{tabulate}
use Rattle.meaning.proofs.Lists.{map_append}
use Rattle.walks.specs.Walks.{Edge, edge_at}
use Rattle.wire.specs.Header.{header_bytes}
use Rattle.wire.specs.Wire.{Bytes, at16, le16}
use Rattle.wire.proofs.Stores.{sets_more}
use Rattle.graph.specs.declared.EdgeRow.{EdgeRow}
use Rattle.graph.specs.Encode.{edge_bytes, edges_bytes, head_bytes, row_edge}
use Rattle.graph.specs.Graph.{blank_row, edge_in, edges_in}
use Rattle.graph.proofs.Accepted.{Accepted}

-- ---- 16 bits

-- a 16-bit number from its two bytes
pub word_back : (x : ℕ) → x < 65536 → x % 256 + 256 * (x / 256 % 256) ≡ x
word_back x h = omega arith

low : (a b : ℕ) → a < 256 → a ≡ (a + 256 * b) % 256
low a b h = omega arith

high : (a b : ℕ) → a < 256 → b < 256 → b ≡ (a + 256 * b) / 256 % 256
high a b h k = omega arith

-- each field is 16 bits wide
pub record EdgeFits (e : Edge) : Type 0 where
  pub from : e.from < 65536
  pub to : e.to < 65536
  pub weight : e.weight < 65536
  pub capacity : e.capacity < 65536

-- the same of all edges of a list
abbrev pub EdgesFit : List Edge → Type 0
EdgesFit es = (i : ℕ) → i < length es → EdgeFits (edge_at es i)

at16_fits : (s : List ℕ) → Bytes s → (a : ℕ) → at16 s a < 65536
at16_fits s b a = omega (arith, b a, b (a + 1))

-- so is each field of an edge read from bytes
pub edge_fits : (s : List ℕ) → Bytes s → (i : ℕ) → EdgeFits (edge_in s i)
edge_fits s b i = record { from = at16_fits s b _; to = at16_fits s b _; weight = at16_fits s b _; capacity = at16_fits s b _ }

-- ---- the edges of bytes, from the front

module _ (s : List ℕ) (b : Bytes s) where
  byte_at : (a c : ℕ) → a < length s → c ≡ a + 1 → drop a s ≡ get_or s a 0 ∷ drop c s
  byte_at a c h e = rw (e, add-one a) (drop-cons s a 0 h)

  word_at : (a c : ℕ) → a + 1 < length s → c ≡ a + 2 → drop a s ≡ le16 (at16 s a) ++ drop c s
  word_at a c h e =
      byte_at a (a + 1) (omega arith) refl
      ∙ ap (λ (l : List ℕ). get_or s a 0 ∷ l) (byte_at (a + 1) c h (omega arith))
      ∙ ap (λ (x : ℕ). x ∷ get_or s (a + 1) 0 ∷ drop c s) (low (get_or s a 0) (get_or s (a + 1) 0) (b a))
      ∙ ap (λ (x : ℕ). at16 s a % 256 ∷ x ∷ drop c s) (high (get_or s a 0) (get_or s (a + 1) 0) (b a) (b (a + 1)))

  edge_bytes_at : (i : ℕ) → 9 + 8 * i + 8 ≤ length s → drop (9 + 8 * i) s ≡ edge_bytes (edge_in s i) ++ drop (9 + 8 * suc i) s
  edge_bytes_at i h =
      let a : ℕ = 9 + 8 * i in
      word_at a (a + 2) (omega arith) refl
      ∙ ap (λ (l : List ℕ). le16 (at16 s a) ++ l) (word_at (a + 2) (a + 4) (omega arith) (omega arith)
      ∙ ap (λ (l : List ℕ). le16 (at16 s (a + 2)) ++ l) (word_at (a + 4) (a + 6) (omega arith) (omega arith)
      ∙ ap (λ (l : List ℕ). le16 (at16 s (a + 4)) ++ l) (word_at (a + 6) (9 + 8 * suc i) (omega arith) (omega arith))))

  edges_bytes_at : (k i : ℕ) → length s ≡ 9 + 8 * (i + k) → drop (9 + 8 * i) s ≡ edges_bytes (tabulate k i (edge_in s))
  unfolding edges_bytes
  edges_bytes_at zero i h = drop_of_length-le s {i = 9 + 8 * i} (omega arith)
  edges_bytes_at (suc k) i h =
      edge_bytes_at i (omega arith) ∙ ap (λ (l : List ℕ). edge_bytes (edge_in s i) ++ l) (edges_bytes_at k (suc i) (omega arith))

  head_bytes_at : 9 ≤ length s → s ≡ header_bytes 0x4d 1 ++ drop 5 s → s ≡ head_bytes (at16 s 5) (at16 s 7) ++ drop 9 s
  head_bytes_at h e =
      e
      ∙ ap (λ (l : List ℕ). header_bytes 0x4d 1 ++ l) (word_at 5 7 (omega arith) refl
      ∙ ap (λ (l : List ℕ). le16 (at16 s 5) ++ l) (word_at 7 9 (omega arith) refl))

  -- ACCEPTED BYTES ARE THOSE OF THEIR COUNTS AND EDGES
  pub bytes_of : Accepted s → head_bytes (at16 s 5) (at16 s 7) ++ edges_bytes (edges_in s) ≡ s
  unfolding edges_in
  bytes_of h =
      sym (head_bytes_at (omega (arith, h.exact)) h.header
      ∙ ap (λ (l : List ℕ). head_bytes (at16 s 5) (at16 s 7) ++ l) (edges_bytes_at (at16 s 7) 0 (omega (arith, h.exact))))

-- ---- the bytes of edges

-- eight bytes each
pub edges_length : (es : List Edge) → length (edges_bytes es) ≡ 8 * length es
unfolding edges_bytes
edges_length [] = refl
edges_length (e ∷ es) = length-append (edge_bytes e) (edges_bytes es) ∙ omega (arith, edges_length es)

-- the bytes of two lists are one behind the other
edges_append : (es fs : List Edge) → edges_bytes (es ++ fs) ≡ edges_bytes es ++ edges_bytes fs
unfolding edges_bytes
edges_append [] fs = refl
edges_append (e ∷ es) fs = rw (edges_append es fs) (sym (append_assoc (edge_bytes e) (edges_bytes es) (edges_bytes fs)))

-- row i stored behind those before it
pub row_more : (out : List ℕ) (rows : List EdgeRow) (i : ℕ) → i < length rows →
    sets (sets out 9 (edges_bytes (map row_edge (take i rows)))) (9 + 8 * i) (edge_bytes (row_edge (get_or rows i blank_row)))
    ≡ sets out 9 (edges_bytes (map row_edge (take (i + 1) rows)))
unfolding edges_bytes
row_more out rows i h =
    sets_more 8 (λ (l : List EdgeRow). edges_bytes (map row_edge l)) (λ l. edges_length (map row_edge l) ∙ rw (length-map l row_edge))
    (λ l k. ap edges_bytes (map_append row_edge l k) ∙ edges_append (map row_edge l) (map row_edge k)) out 9 rows i blank_row h

at16_after : (q ys : List ℕ) (a k : ℕ) → length q ≡ a → at16 (q ++ ys) (a + k) ≡ at16 ys k
at16_after q ys a k h =
    rw (← h, add_assoc (length q) k 1, get_or-append-add q ys k 0, get_or-append-add q ys (k + 1) 0)

-- an edge read where its bytes start
edge_back : (q ys : List ℕ) (e : Edge) (i : ℕ) → length q ≡ 9 + 8 * i → EdgeFits e → edge_in (q ++ (edge_bytes e ++ ys)) i ≡ e
edge_back q ys e i h f =
    let s : List ℕ = q ++ (edge_bytes e ++ ys) in
    let w0 : at16 s (9 + 8 * i) ≡ e.from =
    ap (at16 s) (sym (add-zero (9 + 8 * i))) ∙ at16_after q (edge_bytes e ++ ys) _ 0 h ∙ word_back e.from f.from in
    let w2 : at16 s (9 + 8 * i + 2) ≡ e.to = at16_after q (edge_bytes e ++ ys) _ 2 h ∙ word_back e.to f.to in
    let w4 : at16 s (9 + 8 * i + 4) ≡ e.weight = at16_after q (edge_bytes e ++ ys) _ 4 h ∙ word_back e.weight f.weight in
    let w6 : at16 s (9 + 8 * i + 6) ≡ e.capacity = at16_after q (edge_bytes e ++ ys) _ 6 h ∙ word_back e.capacity f.capacity in
    rw (w0, w2, w4, w6)

-- edges read from the front, behind i others
edges_back : (es : List Edge) (q : List ℕ) (i : ℕ) → length q ≡ 9 + 8 * i → EdgesFit es → tabulate (length es) i (edge_in (q ++ edges_bytes es))
    ≡ es
unfolding edges_bytes
edges_back [] q i h f = refl
edges_back (e ∷ es) q i h f =
    let longer : length (q ++ edge_bytes e) ≡ 9 + 8 * suc i = length-append q (edge_bytes e) ∙ omega arith in
    let rest = edges_back es (q ++ edge_bytes e) (suc i) longer (λ j l. f (suc j) (suc-le-suc l)) in
    rw (edge_back q (edges_bytes es) e i h (f 0 (omega arith)))
    (ap (λ (l : List Edge). e ∷ l) (rw (append_assoc q (edge_bytes e) (edges_bytes es)) at rest))

-- EDGES READ FROM THEIR BYTES, behind a header that counts them
pub edges_read : (n m : ℕ) (es : List Edge) → m < 65536 → m ≡ length es → EdgesFit es → edges_in (head_bytes n m ++ edges_bytes es) ≡ es
unfolding edges_in
edges_read n m es h e f = rw (word_back m h, e) (edges_back es (head_bytes n (length es)) 0 refl f)
