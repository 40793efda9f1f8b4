-- The terms of queries (document 01: place terms and result terms) and the expressions of plans are read exactly: the laws of `Shape`, for each byte that is
-- neither a literal's nor an operator's. Assumes nothing.
use Prim.Native.Nat.{ℕ, zero, suc, ◌+◌, ◌*◌, ◌≤◌, ◌<◌}
use mathlib.Core.Path.{◌≡◌, refl, sym, ap₂, ◌∙◌, subst}
use mathlib.Core.Bool.{Bool, true, false, cond}
use mathlib.Core.List.{List, [], ◌∷◌, ◌++◌}
use native.Mathlib.Omega.{arith}
use borrow.Author.Tests.{ltb-false, leb-false, eqb-true, eqb-false, le-ltb, lt-leb}
use lib.Dec.{leb, ltb, eqb}
use lib.ListN.{length, get_or, drop, length-append}
use Rattle.meaning.specs.Limits.{Every, PathFits, TermFits, depth, depth_of, size_of, terms}
use Rattle.meaning.specs.Plan.{Term, apply, leaf, literal}
use Rattle.meaning.specs.Query.{Kind, PathReduction, QueryTerm, VertexTerm, number, operator, over, over_where, path, path_set, paths}
use Rattle.meaning.specs.Query.{reduction_count, result, vertex}
use Rattle.wire.specs.Wire.{Bytes, le16}
use Rattle.progress.specs.Progress.{Scan}
use Rattle.fields.specs.Fields.{code_of}
use Rattle.packed_path.specs.declared.PackedPath.{PackedPath}
use Rattle.packed_path.specs.Packed.{packed}
use Rattle.path_fields.specs.Paths.{path_at, path_code, set_at, set_code}
use Rattle.terms.specs.Terms.{Step}
use Rattle.terms.specs.declared.TermKind.{TermKind}
use Rattle.terms.specs.declared.TermKind.TheVariants.{OfVertex, OfResult}
use Rattle.terms.specs.Terms.{advanced, alone, index_step, kept_path, leaf_step, literal_tag, path_step, read, reduce_step, refused_step, set_step}
use Rattle.terms.specs.Terms.{term_step}
use Rattle.progress.specs.Progress.{blank}
use Rattle.terms.proofs.Laws.{accepted_as}
use Rattle.term_text.specs.Text.{expression_bytes, index_tag, of_kind, path_bytes, query_bytes, set_bytes, start_of, starts_bytes}
use Rattle.wire.proofs.Past.{get_or_any}
use Rattle.term_text.proofs.Fields.{code_range, code_zero, drop_at, nth, present}
use Rattle.term_text.proofs.Paths.{OneFits, SetFits, path_accepted, path_count, path_found, path_numbered, set_accepted, set_count}
use Rattle.term_text.proofs.Paths.{set_found, set_keys, set_numbered}
use Rattle.term_text.proofs.Sources.{starts_size}
use Rattle.term_text.proofs.Shape.{After, Behind, Complete, Found, Piece, Sound, apply_complete, literal_complete, none_found}
use Rattle.term_text.proofs.Shape.{one_complete, one_found, term_found, two_complete, two_found}
use Rattle.term_text.proofs.Steps.{drop_on, read_by, step_is, stops, table_advanced, tag_there, there}
use Rattle.term_text.proofs.Table.{Table, kept_few, kept_room}

-- what the reader sees of a query's term
abbrev pub query_piece : (κ : Kind) → QueryTerm κ → Piece
query_piece κ t =
    record { bytes = query_bytes κ t; size = size_of t; deep = depth_of t; paths = paths t; count = reduction_count t; fine = TermFits 256 t }

-- nothing is asked of the state
abbrev pub Always : Scan → Type 0
Always w = Unit {0}

-- what the reader sees of a path reduction behind its byte
abbrev chain_piece : ℕ → (PathReduction → List ℕ) → (PathReduction → Type 0) → PathReduction → Piece
chain_piece tag text Fits c = record { bytes = tag ∷ text c; size = 1; deep = 1; paths = c ∷ []; count = 0; fine = Fits c }

-- A PATH REDUCTION is read by its step, which judges its fields, goes on behind them and keeps it: of each byte by that byte's own fields
module _ (s : List ℕ) (tag : ℕ) (step : Scan → Step) (code end : Scan → ℕ) (number : Scan → PackedPath)
    (is_leaf : (w : Scan) → leaf_step OfVertex tag s w ≡ step w)
    (made : (w : Scan) → step w ≡ cond (eqb (code w) 0) (alone (kept_path (advanced w (end w)) (number w))) (refused_step (code w)))
    (no_literal : eqb tag 0x11 ≡ false) (no_operator : eqb tag 0x12 ≡ false) (text : PathReduction → List ℕ) (Fits : PathReduction → Type 0)
    (legal : (c : PathReduction) → Fits c → PathFits 256 c)
    (accepts : (c : PathReduction) (w : Scan) (rest : List ℕ) → Fits c → drop (w.at + 1) s ≡ text c ++ rest
    → (code w ≡ 0) × (number w ≡ packed c) × (end w ≡ w.at + suc (length (text c)))) where
  chain_read : (d : ℕ) (w : Scan) → w.code ≡ 0 → w.at < length s → w.terms < 64 → get_or s w.at 0 ≡ tag
      → read OfVertex (suc d) s w ≡ cond (eqb (code w) 0) (kept_path (advanced w (end w)) (number w)) (blank (code w))
  unfolding literal_tag
  chain_read d w z h k first =
      go (eqb (code w) 0) (step_is s OfVertex d w h k ∙ rw (first, no_literal, no_operator) (is_leaf w) ∙ made w)
    where
      go : (b : Bool) → term_step OfVertex (suc d) s w ≡ cond b (alone (kept_path (advanced w (end w)) (number w))) (refused_step (code w))
          → read OfVertex (suc d) s w ≡ cond b (kept_path (advanced w (end w)) (number w)) (blank (code w))
      go true e = read_by s OfVertex d w z (alone (kept_path (advanced w (end w)) (number w))) e
      go false e = read_by s OfVertex d w z (refused_step (code w)) e

  chain_complete : (c : PathReduction) → Complete s Always OfVertex (chain_piece tag text Fits c)
  unfolding advanced
  chain_complete c zero w cs rest z t r e room = absurd (omega (arith, room.shallow))
  chain_complete c (suc d) w cs rest z t r e room =
      let i = there s w.at tag (text c ++ rest) e in
      let first = tag_there s w.at tag (text c ++ rest) e in
      let a = accepts c w rest room.fine (drop_on s w.at 1 (tag ∷ []) (text c ++ rest) e refl) in
      let w1 : Scan = advanced w (end w) in
      let reads : read OfVertex (suc d) s w ≡ kept_path w1 (packed c) =
      chain_read d w z i (omega (arith, room.terms)) first ∙ rw (a.0, a.1) refl in
      let p = kept_room w1 cs (table_advanced w cs (end w) t) c (legal c room.fine) room.paths in
      subst (λ (v : Scan). After w v cs (chain_piece tag text Fits c)) (sym reads)
      (record { code = p.code ∙ z; at = p.at ∙ a.2; terms = p.terms; reductions = omega (arith, p.reductions); table = p.table })

  chain_sound : ((w : Scan) → code w ≡ 0 → (c : PathReduction) × Fits c × ((rest : List ℕ) × (drop (w.at + 1) s ≡ text c ++ rest)))
      → (d : ℕ) (w : Scan) (cs : List PathReduction) → w.code ≡ 0 → Table w cs → w.at < length s → w.terms < 64
      → get_or s w.at 0 ≡ tag → (read OfVertex (suc d) s w).code ≡ 0 → Found s Always PathReduction (chain_piece tag text Fits) (suc d) w cs
  unfolding blank
  chain_sound finds d w cs z t h k first e = go (eqb (code w) 0) refl (chain_read d w z h k first)
    where
      go : (b : Bool) → eqb (code w) 0 ≡ b
          → read OfVertex (suc d) s w ≡ cond b (kept_path (advanced w (end w)) (number w)) (blank (code w))
          → Found s Always PathReduction (chain_piece tag text Fits) (suc d) w cs
      go false p q = absurd (eqb-false (code w) 0 p (accepted_as q e))
      go true p q =
          let f = finds w (eqb-true (code w) 0 p) in
          let c = f.0 in
          let a = accepts c w f.2.0 f.1 f.2.1 in
          let reads : read OfVertex (suc d) s w ≡ kept_path (advanced w (end w)) (packed f.0) = q ∙ rw a.1 refl in
          let few = kept_few (advanced w (end w)) cs (table_advanced w cs (end w) t) c (legal c f.1) (accepted_as reads e) in (
            c,
            f.2.0,
            drop_at s w.at h ∙ ap₂ (λ (x : ℕ) (l : List ℕ). x ∷ l) (get_or_any s w.at 256 0 h ∙ first) f.2.1,
            record { fine = f.1; shallow = omega arith; terms = omega arith; paths = few; reductions = omega (arith, t.few_reductions) },
          )

module _ (s : List ℕ) where
  -- with one start or from anywhere
  path_end : Scan → ℕ
  path_end w = w.at + 1 + 3 + get_or s (w.at + 1) 256

  path_made : (w : Scan)
      → path_step s w
      ≡ cond (eqb (path_code s (w.at + 1)) 0) (alone (kept_path (advanced w (path_end w)) (path_at s (w.at + 1)))) (refused_step (path_code s (w.at + 1)))
  unfolding path_step path_end
  path_made w = refl

  path_accepts : (c : PathReduction) (w : Scan) (rest : List ℕ) → OneFits c → drop (w.at + 1) s ≡ path_bytes c ++ rest
      → (path_code s (w.at + 1) ≡ 0) × (path_at s (w.at + 1) ≡ packed c) × (path_end w ≡ w.at + suc (length (path_bytes c)))
  unfolding path_end
  path_accepts c w rest f e = (
    path_accepted s c f (w.at + 1) rest e,
    path_numbered s c f (w.at + 1) rest e,
    omega (arith, path_count s c f (w.at + 1) rest e, length-append c.keys (le16 (start_of c.sources))),
  )

  path_complete : (c : PathReduction) → Complete s Always OfVertex (query_piece vertex (path c))
  unfolding leaf_step
  path_complete = chain_complete s 0x10 (path_step s) (λ w. path_code s (w.at + 1)) path_end (λ w. path_at s (w.at + 1)) (λ w. refl) path_made refl refl
      path_bytes OneFits (λ c f. f.0) path_accepts

  path_sound : Bytes s → (d : ℕ) (w : Scan) (cs : List PathReduction) → w.code ≡ 0 → Table w cs → w.at < length s → w.terms < 64
      → get_or s w.at 0 ≡ 0x10 → (read OfVertex (suc d) s w).code ≡ 0 → Found s Always VertexTerm (query_piece vertex) (suc d) w cs
  unfolding leaf_step
  path_sound bytes d w cs z t h k tag e =
      let f = chain_sound s 0x10 (path_step s) (λ w. path_code s (w.at + 1)) path_end (λ w. path_at s (w.at + 1)) (λ w. refl) path_made refl refl
      path_bytes OneFits (λ c f. f.0) path_accepts
      (λ w e. let f = path_found s bytes (w.at + 1) e in (f.0, f.1, (_, f.2))) d w cs z t h k tag e in
      (path f.0, f.1, f.2, f.3)

  -- with a set
  set_end : Scan → ℕ
  set_end w = let count = w.at + 1 + 1 + get_or s (w.at + 1) 256 in count + 1 + 2 * get_or s count 256

  set_made : (w : Scan)
      → set_step s w
      ≡ cond (eqb (set_code s (w.at + 1)) 0) (alone (kept_path (advanced w (set_end w)) (set_at s (w.at + 1)))) (refused_step (set_code s (w.at + 1)))
  unfolding set_step set_end
  set_made w = refl

  set_accepts : (c : PathReduction) (w : Scan) (rest : List ℕ) → SetFits c → drop (w.at + 1) s ≡ set_bytes c ++ rest
      → (set_code s (w.at + 1) ≡ 0) × (set_at s (w.at + 1) ≡ packed c) × (set_end w ≡ w.at + suc (length (set_bytes c)))
  unfolding set_end
  set_accepts c w rest f e = (
    set_accepted s c f (w.at + 1) rest e,
    set_numbered s c f (w.at + 1) rest e,
    rw (set_keys s c f (w.at + 1) rest e, set_count s c f (w.at + 1) rest e)
        (omega (arith, length-append c.keys (length c.sources ∷ starts_bytes c.sources), starts_size c.sources)),
  )

  set_complete : (c : PathReduction) → Complete s Always OfVertex (query_piece vertex (path_set c))
  unfolding leaf_step
  set_complete = chain_complete s 0x13 (set_step s) (λ w. set_code s (w.at + 1)) set_end (λ w. set_at s (w.at + 1)) (λ w. refl) set_made refl refl
      set_bytes SetFits (λ c f. f.0) set_accepts

  set_sound : Bytes s → (d : ℕ) (w : Scan) (cs : List PathReduction) → w.code ≡ 0 → Table w cs → w.at < length s → w.terms < 64
      → get_or s w.at 0 ≡ 0x13 → (read OfVertex (suc d) s w).code ≡ 0 → Found s Always VertexTerm (query_piece vertex) (suc d) w cs
  unfolding leaf_step
  set_sound bytes d w cs z t h k tag e =
      let f = chain_sound s 0x13 (set_step s) (λ w. set_code s (w.at + 1)) set_end (λ w. set_at s (w.at + 1)) (λ w. refl) set_made refl refl
      set_bytes SetFits (λ c f. f.0) set_accepts
      (λ w e. let f = set_found s bytes (w.at + 1) e in (f.0, f.1, (_, f.2))) d w cs z t h k tag e in
      (path_set f.0, f.1, f.2, f.3)

  -- A REDUCTION: the state behind its own two bytes
  unfoldable under : Scan → Scan
  under w = record { code = w.code; at = w.at + 1 + 1; terms = w.terms + 1; paths = w.paths; reductions = w.reductions + 1; table = w.table }

  under_behind : (w : Scan) (cs : List PathReduction) → w.code ≡ 0 → Table w cs → w.reductions < 8 → Behind s Always w (under w) cs 1
  unfolding under
  under_behind w cs z t h = record {
    code = z;
    at = omega arith;
    terms = refl;
    reductions = refl;
    table =
        record { legal = t.legal; count = t.count; few = t.few; rest = t.rest; holds = t.holds; size = t.size; few_reductions = omega arith };
    ready = tt;
  }

  -- behind each of its tags stand so many vertex terms
  module _ (tag follow : ℕ) (is_reduction : (w : Scan) → leaf_step OfResult tag s w ≡ reduce_step follow s w) (no_literal : eqb tag 0x21 ≡ false)
      (no_operator : eqb tag 0x22 ≡ false) (d : ℕ) (w : Scan) (z : w.code ≡ 0) (h : w.at < length s) (k : w.terms < 64)
      (first : get_or s w.at 0 ≡ tag) where
    reduce_is : term_step OfResult (suc d) s w ≡ reduce_step follow s w
    unfolding literal_tag
    reduce_is = step_is s OfResult d w h k ∙ rw (first, no_literal, no_operator) (is_reduction w)

    abbrev reduced_to : Scan → Type 0
    reduced_to v = reduce_step follow s w ≡ record { progress = v; follow = follow; inner = OfVertex }

    reduce_made : code_of (get_or s (w.at + 1) 256) 5 ≡ 0 → w.reductions < 8 → reduced_to (under w)
    unfolding reduce_step advanced under
    reduce_made c r = rw (c, lt-leb 8 w.reductions r) refl

    -- what is accepted has one of the five reductions, and is at most the eighth
    reduce_range : (read OfResult (suc d) s w).code ≡ 0 → (code_of (get_or s (w.at + 1) 256) 5 ≡ 0) × (w.reductions < 8)
    unfolding reduce_step
    reduce_range e = go (eqb (code_of (get_or s (w.at + 1) 256) 5) 0) (leb 8 w.reductions) refl refl
      where
        go : (x y : Bool) → eqb (code_of (get_or s (w.at + 1) 256) 5) 0 ≡ x → leb 8 w.reductions ≡ y
            → (code_of (get_or s (w.at + 1) 256) 5 ≡ 0) × (w.reductions < 8)
        go false y p q =
            absurd
            (stops s OfResult d w z (code_of (get_or s (w.at + 1) 256) 5) (eqb-false (code_of (get_or s (w.at + 1) 256) 5) 0 p) (reduce_is ∙ rw p refl) e)
        go true true p q = absurd (stops s OfResult d w z 14 (λ n. omega arith) (reduce_is ∙ rw (p, q) refl) e)
        go true false p q = (eqb-true (code_of (get_or s (w.at + 1) 256) 5) 0 p, leb-false 8 w.reductions q)

  over_reads : (d : ℕ) (w : Scan) → w.code ≡ 0 → w.at < length s → w.terms < 64 → get_or s w.at 0 ≡ 0x20
      → code_of (get_or s (w.at + 1) 256) 5 ≡ 0 → w.reductions < 8 → read OfResult (suc d) s w ≡ read OfVertex d s (under w)
  unfolding leaf_step
  over_reads d w z h k tag c r =
      read_by s OfResult d w z (record { progress = under w; follow = 1; inner = OfVertex })
      (reduce_is 0x20 1 (λ w. refl) refl refl d w z h k tag ∙ reduce_made 0x20 1 (λ w. refl) refl refl d w z h k tag c r)

  where_reads : (d : ℕ) (w : Scan) → w.code ≡ 0 → w.at < length s → w.terms < 64 → get_or s w.at 0 ≡ 0x23
      → code_of (get_or s (w.at + 1) 256) 5 ≡ 0 → w.reductions < 8
      → read OfResult (suc d) s w ≡ read OfVertex d s (read OfVertex d s (under w))
  unfolding leaf_step
  where_reads d w z h k tag c r =
      read_by s OfResult d w z (record { progress = under w; follow = 2; inner = OfVertex })
      (reduce_is 0x23 2 (λ w. refl) refl refl d w z h k tag ∙ reduce_made 0x23 2 (λ w. refl) refl refl d w z h k tag c r)

  over_complete : (o : ℕ) (t : VertexTerm) → Complete s Always OfVertex (query_piece vertex t)
      → Complete s Always OfResult (query_piece result (over o t))
  over_complete o t complete zero w cs rest z tb r e room = absurd (omega (arith, room.shallow))
  over_complete o t complete (suc d) w cs rest z tb r e room =
      let l : List ℕ = o ∷ (query_bytes vertex t ++ rest) in
      let i = there s w.at 0x20 l e in
      let b : get_or s (w.at + 1) 256 ≡ o = rw (nth s w.at 1 (w.at + 1) 256 refl, e) refl in
      let f = room.fine in
      let c : code_of (get_or s (w.at + 1) 256) 5 ≡ 0 = rw b (code_zero o 5 f.0 f.1 (omega arith)) in
      let fewer : w.reductions < 8 = omega (arith, room.reductions) in
      one_complete s Always OfResult OfVertex 0x20 5 1 suc (λ x. omega arith) d w (under w) cs (under_behind w cs z tb fewer)
      (over_reads d w z i (omega (arith, room.terms)) (tag_there s w.at 0x20 l e) c fewer) o (query_piece vertex t) complete rest e room

  where_complete : (o : ℕ) (c t : VertexTerm) → Complete s Always OfVertex (query_piece vertex c) → Complete s Always OfVertex (query_piece vertex t)
      → Complete s Always OfResult (query_piece result (over_where o c t))
  where_complete o u t first second zero w cs rest z tb r e room = absurd (omega (arith, room.shallow))
  where_complete o u t first second (suc d) w cs rest z tb r e room =
      let l : List ℕ = o ∷ ((query_bytes vertex u ++ query_bytes vertex t) ++ rest) in
      let i = there s w.at 0x23 l e in
      let b : get_or s (w.at + 1) 256 ≡ o = rw (nth s w.at 1 (w.at + 1) 256 refl, e) refl in
      let f = room.fine in
      let c : code_of (get_or s (w.at + 1) 256) 5 ≡ 0 = rw b (code_zero o 5 f.0 f.1 (omega arith)) in
      let fewer : w.reductions < 8 = omega (arith, room.reductions) in
      two_complete s Always OfResult OfVertex 0x23 5 1 (λ x y. suc (x + y)) (λ x y. omega arith) d w (under w) cs (under_behind w cs z tb fewer)
      (where_reads d w z i (omega (arith, room.terms)) (tag_there s w.at 0x23 l e) c fewer) o (query_piece vertex u) (query_piece vertex t) first second
      (λ w w' cs r b a. tt) rest e room

  -- THE BYTES OF A LEGAL TERM OF A QUERY ARE READ AS IT
  pub query_complete : (κ : Kind) (t : QueryTerm κ) → Complete s Always (of_kind κ) (query_piece κ t)
  query_complete κ (path c) = path_complete c
  query_complete κ (path_set c) = set_complete c
  query_complete κ (over o t) = over_complete o t (query_complete vertex t)
  query_complete κ (over_where o c t) = where_complete o c t (query_complete vertex c) (query_complete vertex t)
  query_complete κ (number x) = literal_complete s (of_kind κ) Always (λ w n r. tt) x
  query_complete κ (operator o t u) =
      apply_complete s (of_kind κ) Always (λ w n r. tt) o (query_piece κ t) (query_piece κ u) (query_complete κ t) (query_complete κ u)
      (λ w w' cs r b a. tt)

  -- what stands behind any other byte: a path reduction with one start or a set; a reduction without or with a condition
  vertex_leaf : Bytes s → (d : ℕ) (w : Scan) (cs : List PathReduction) → w.code ≡ 0 → Table w cs → w.at < length s → w.terms < 64
      → eqb (get_or s w.at 0) 0x11 ≡ false → eqb (get_or s w.at 0) 0x12 ≡ false → (read OfVertex (suc d) s w).code ≡ 0
      → Found s Always VertexTerm (query_piece vertex) (suc d) w cs
  unfolding leaf_step literal_tag
  vertex_leaf bytes d w cs z t h k p q e = go (eqb (get_or s w.at 0) 0x10) (eqb (get_or s w.at 0) 0x13) refl refl
    where
      go : (x y : Bool) → eqb (get_or s w.at 0) 0x10 ≡ x → eqb (get_or s w.at 0) 0x13 ≡ y
          → Found s Always VertexTerm (query_piece vertex) (suc d) w cs
      go true y x v = path_sound bytes d w cs z t h k (eqb-true (get_or s w.at 0) 0x10 x) e
      go false true x v = set_sound bytes d w cs z t h k (eqb-true (get_or s w.at 0) 0x13 v) e
      go false false x v = absurd (stops s OfVertex d w z 9 (λ n. omega arith) (step_is s OfVertex d w h k ∙ rw (p, q, x, v) refl) e)

  result_leaf : Bytes s → (d : ℕ) → Sound s Always OfVertex VertexTerm (query_piece vertex) d → (w : Scan) (cs : List PathReduction) → w.code
      ≡ 0
      → Table w cs → w.at < length s → w.terms < 64 → eqb (get_or s w.at 0) 0x21 ≡ false → eqb (get_or s w.at 0) 0x22 ≡ false
      → (read OfResult (suc d) s w).code ≡ 0 → Found s Always (QueryTerm result) (query_piece result) (suc d) w cs
  unfolding leaf_step literal_tag
  result_leaf bytes d sound w cs z t h k p q e = go (eqb (get_or s w.at 0) 0x20) (eqb (get_or s w.at 0) 0x23) refl refl
    where
      go : (x y : Bool) → eqb (get_or s w.at 0) 0x20 ≡ x → eqb (get_or s w.at 0) 0x23 ≡ y
          → Found s Always (QueryTerm result) (query_piece result) (suc d) w cs
      go true y x v =
          let tag = eqb-true (get_or s w.at 0) 0x20 x in
          let r = reduce_range 0x20 1 (λ w. refl) refl refl d w z h k tag e in
          let range = code_range (get_or s (w.at + 1) 256) 5 r.0 in
          let f = one_found s Always OfResult OfVertex 0x20 5 1 suc (λ x. omega arith) d w (under w) cs (under_behind w cs z t r.1)
          (over_reads d w z h k tag r.0 r.1) VertexTerm (query_piece vertex) sound h tag (present s (w.at + 1) range.0) range.1 range.2 e in
          (over (get_or s (w.at + 1) 256) f.0, f.1, f.2, f.3)
      go false true x v =
          let tag = eqb-true (get_or s w.at 0) 0x23 v in
          let r = reduce_range 0x23 2 (λ w. refl) refl refl d w z h k tag e in
          let range = code_range (get_or s (w.at + 1) 256) 5 r.0 in
          let f = two_found s Always OfResult OfVertex 0x23 5 1 (λ x y. suc (x + y)) (λ x y. omega arith) d w (under w) cs (under_behind w cs z t r.1)
          (where_reads d w z h k tag r.0 r.1) VertexTerm (query_piece vertex) (query_complete vertex) (λ t w w' cs r b a. tt) sound h tag
          (present s (w.at + 1) range.0) range.1 range.2 e in
          (over_where (get_or s (w.at + 1) 256) f.0 f.1, f.2, f.3, f.4)
      go false false x v = absurd (stops s OfResult d w z 9 (λ n. omega arith) (step_is s OfResult d w h k ∙ rw (p, q, x, v) refl) e)

  -- WHAT IS READ IS A LEGAL TERM OF A QUERY: by the depth, for both kinds
  pub query_sound : Bytes s → (d : ℕ) (κ : Kind) → Sound s Always (of_kind κ) (QueryTerm κ) (query_piece κ) d
  unfolding literal_tag
  query_sound bytes zero κ = none_found s (of_kind κ) Always (λ w n r. tt) (QueryTerm κ) (query_piece κ) (query_complete κ) (λ t w w' cs r b a. tt)
      (λ d w cs f. (number f.0, f.1, f.2, f.3)) (λ o d w cs f. (operator o f.0 f.1, f.2, f.3, f.4)) bytes
  query_sound bytes (suc d) vertex = term_found s OfVertex Always (λ w n r. tt) VertexTerm (query_piece vertex) (query_complete vertex)
      (λ t w w' cs r b a. tt)
      (λ d w cs f. (number f.0, f.1, f.2, f.3)) (λ o d w cs f. (operator o f.0 f.1, f.2, f.3, f.4)) bytes d
      (λ w cs z t r. vertex_leaf bytes d w cs z t) (query_sound bytes d vertex)
  query_sound bytes (suc d) result = term_found s OfResult Always (λ w n r. tt) (QueryTerm result) (query_piece result) (query_complete result)
      (λ t w w' cs r b a. tt) (λ d w cs f. (number f.0, f.1, f.2, f.3)) (λ o d w cs f. (operator o f.0 f.1, f.2, f.3, f.4)) bytes d
      (λ w cs z t r. result_leaf bytes d (query_sound bytes d vertex) w cs z t) (query_sound bytes d result)

-- what the reader sees of a plan's expression, whose indices stay below a count
abbrev pub expression_piece : TermKind → ℕ → Term ℕ → Piece
expression_piece m count t =
    record { bytes = expression_bytes m t; size = terms t; deep = depth t; paths = []; count = 0; fine = Every (λ i. i < count) t }

-- `held` is the count that the state holds
module _ (s : List ℕ) (m : TermKind) (count : ℕ) (few : count ≤ 256) (held : Scan → ℕ)
    (kept : (w w' : Scan) → w'.paths ≡ w.paths → w'.reductions ≡ w.reductions → held w' ≡ held w)
    (is_index : (w : Scan) → leaf_step m (index_tag m) s w ≡ index_step s w (held w))
    (no_other : (tag : ℕ) (w : Scan) → eqb tag (index_tag m) ≡ false → leaf_step m tag s w ≡ refused_step 9)
    (no_literal : eqb (index_tag m) (literal_tag m) ≡ false) (no_operator : eqb (index_tag m) (literal_tag m + 1) ≡ false) where
  abbrev pub Counts : Scan → Type 0
  Counts w = held w ≡ count

  counts_on : (w : Scan) (n : ℕ) → Counts w → Counts (advanced w n)
  unfolding advanced
  counts_on w n r = kept w (advanced w n) refl refl ∙ r

  counts_past : (t : Term ℕ) (w w' : Scan) (cs : List PathReduction) → Counts w → Table w cs → After w w' cs (expression_piece m count t)
      → Counts w'
  counts_past t w w' cs r b a = kept w w' (omega (arith, a.table.count, b.count)) (omega (arith, a.reductions)) ∙ r

  -- an index is read by its step
  index_is : (d : ℕ) (w : Scan) → w.at < length s → w.terms < 64 → get_or s w.at 0 ≡ index_tag m → term_step m (suc d) s w
      ≡ index_step s w (held w)
  index_is d w h k tag = step_is s m d w h k ∙ rw (tag, no_literal, no_operator) (is_index w)

  index_complete : (i : ℕ) → Complete s Counts m (expression_piece m count (leaf i))
  unfolding index_step advanced
  index_complete i zero w cs rest z t r p room = absurd (omega (arith, room.shallow))
  index_complete i (suc d) w cs rest z t r p room =
      let h = there s w.at (index_tag m) (i ∷ rest) p in
      let tag = tag_there s w.at (index_tag m) (i ∷ rest) p in
      let b : get_or s (w.at + 1) 256 ≡ i = rw (nth s w.at 1 (w.at + 1) 256 refl, p) refl in
      let below : i < count = room.fine in
      let made : index_step s w (held w) ≡ alone (advanced w (w.at + 1 + 1)) = rw (b, le-ltb 255 i (omega arith), r, lt-leb count i below) refl in
      let reads = read_by s m d w z (alone (advanced w (w.at + 1 + 1))) (index_is d w h (omega (arith, room.terms)) tag ∙ made) in
      subst (λ (v : Scan). After w v cs (expression_piece m count (leaf i))) (sym reads)
      (record { code = z; at = omega arith; terms = refl; reductions = omega arith; table = table_advanced w cs (w.at + 1 + 1) t })

  -- THE BYTES OF A LEGAL EXPRESSION ARE READ AS IT
  pub expression_complete : (t : Term ℕ) → Complete s Counts m (expression_piece m count t)
  expression_complete (leaf i) = index_complete i
  expression_complete (literal k) = literal_complete s m Counts counts_on k
  expression_complete (apply o t u) =
      apply_complete s m Counts counts_on o (expression_piece m count t) (expression_piece m count u) (expression_complete t) (expression_complete u)
      (counts_past t)

  index_sound : (d : ℕ) (w : Scan) (cs : List PathReduction) → w.code ≡ 0 → Table w cs → Counts w → w.at < length s → w.terms < 64
      → eqb (get_or s w.at 0) (literal_tag m) ≡ false → eqb (get_or s w.at 0) (literal_tag m + 1) ≡ false → (read m (suc d) s w).code ≡ 0
      → Found s Counts (Term ℕ) (expression_piece m count) (suc d) w cs
  unfolding index_step
  index_sound d w cs z t r h k x y e = first (eqb (get_or s w.at 0) (index_tag m)) refl
    where
      go : (tag : get_or s w.at 0 ≡ index_tag m) (x y : Bool) → ltb 255 (get_or s (w.at + 1) 256) ≡ x → leb (held w) (get_or s (w.at + 1) 256) ≡ y
          → Found s Counts (Term ℕ) (expression_piece m count) (suc d) w cs
      go tag true y p q = absurd (stops s m d w z 1 (λ n. omega arith) (index_is d w h k tag ∙ rw p refl) e)
      go tag false true p q = absurd (stops s m d w z 16 (λ n. omega arith) (index_is d w h k tag ∙ rw (p, q) refl) e)
      go tag false false p q =
          let here = present s (w.at + 1) (ltb-false 255 (get_or s (w.at + 1) 256) p) in (
            leaf (get_or s (w.at + 1) 256),
            drop (w.at + 1 + 1) s,
            drop_at s w.at h ∙ ap₂ (λ (x : ℕ) (l : List ℕ). x ∷ l) (get_or_any s w.at 256 0 h ∙ tag) (drop_at s (w.at + 1) here),
            record {
              fine = let l = leb-false (held w) (get_or s (w.at + 1) 256) q in omega arith;
              shallow = omega arith;
              terms = omega arith;
              paths = t.few;
              reductions = omega (arith, t.few_reductions);
            },
          )

      first : (b : Bool) → eqb (get_or s w.at 0) (index_tag m) ≡ b → Found s Counts (Term ℕ) (expression_piece m count) (suc d) w cs
      first true p =
          go (eqb-true (get_or s w.at 0) (index_tag m) p) (ltb 255 (get_or s (w.at + 1) 256)) (leb (held w) (get_or s (w.at + 1) 256)) refl refl
      first false p = absurd (stops s m d w z 9 (λ n. omega arith) (step_is s m d w h k ∙ rw (x, y) (no_other (get_or s w.at 0) w p)) e)

  -- WHAT IS READ IS A LEGAL EXPRESSION
  pub expression_sound : Bytes s → (d : ℕ) → Sound s Counts m (Term ℕ) (expression_piece m count) d
  expression_sound bytes zero = none_found s m Counts counts_on (Term ℕ) (expression_piece m count) expression_complete counts_past
      (λ d w cs f. (literal f.0, f.1, f.2, f.3)) (λ o d w cs f. (apply o f.0 f.1, f.2, f.3, f.4)) bytes
  expression_sound bytes (suc d) = term_found s m Counts counts_on (Term ℕ) (expression_piece m count) expression_complete counts_past
      (λ d w cs f. (literal f.0, f.1, f.2, f.3)) (λ o d w cs f. (apply o f.0 f.1, f.2, f.3, f.4)) bytes d (index_sound d)
      (expression_sound bytes d)
