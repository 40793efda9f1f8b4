-- THE READER OF QUERIES ACCEPTS WHAT DOCUMENT 01 LAYS DOWN, WITH REQUEST A OF DOCUMENT 02, AND THAT ONLY. Assumes nothing.
use Prim.Native.Nat.{ℕ, zero, suc, ◌+◌, ◌≤◌}
use mathlib.Core.Path.{◌≡◌, refl, sym, ap, ap₂, ◌∙◌, subst}
use mathlib.Core.Bool.{Bool, true, false, cond}
use mathlib.Core.List.{List, [], ◌∷◌, ◌++◌, append-nil}
use native.Mathlib.Omega.{arith}
use borrow.Author.Tests.{eqb-true, eqb-false, le-ltb}
use lib.Dec.{eqb}
use lib.ListN.{length, get_or, drop, length-append, length-drop}
use Rattle.meaning.specs.Limits.{QueryLegal, TermFits, TermsFit, depth_of, query_depth, query_reductions, query_terms, size_of}
use Rattle.meaning.specs.Plan.{put_all}
use Rattle.meaning.specs.Query.{Kind, PathReduction, Query, QueryTerm, each, paths, reduction_count, result, single, vertex, written_paths}
use Rattle.fields.specs.Fields.{opening_code}
use Rattle.fields.proofs.Opening.{opening_found}
use Rattle.progress.specs.Progress.{Scan}
use Rattle.terms.specs.declared.TermKind.{TermKind}
use Rattle.terms.specs.Terms.{read}
use Rattle.progress.specs.Progress.{blank, ended, started}
use Rattle.term_text.specs.Text.{of_kind, query_bytes}
use Rattle.term_text.proofs.Exact.{query_complete, query_sound}
use Rattle.term_text.proofs.Ends.{ended_code, ended_whole, no_rest, started_table}
use Rattle.term_text.proofs.Fields.{drop_at, present}
use Rattle.term_text.proofs.Table.{Table}
use Rattle.wire.specs.Header.{header_bytes, header_code}
use Rattle.wire.specs.Wire.{Bytes}
use Rattle.wire.proofs.Header.{header_accepted, header_one}
use Rattle.query.specs.Query.{encode, query_code, query_scan, term_kind}

-- what the reader knows of an accepted query: its table of different path reductions in order of first writing, its terms and its reductions
pub record Scanned (w : Scan) (q : Query) : Type 0 where
  pub accepted : w.code ≡ 0
  pub terms : w.terms ≡ query_terms q
  pub reductions : w.reductions ≡ query_reductions q
  pub table : Table w (put_all [] (written_paths q))

-- a whole text: header, kind, body
scan_is : (s : List ℕ) (kind : ℕ) → header_code 0x51 1 5 s ≡ 0 → get_or s 5 256 ≡ kind → kind ≤ 1 → query_scan s
    ≡ ended s (read (term_kind kind) 16 s (started 6))
unfolding query_scan
scan_is s kind h k l = rw (h, k, le-ltb 255 kind (omega arith), le-ltb 1 kind l) refl

-- the text from its parts
joined : (s : List ℕ) (kind : ℕ) (l rest : List ℕ) → get_or s 5 256 ≡ kind → kind ≤ 1 → header_code 0x51 1 5 s ≡ 0 → drop 6 s ≡ l ++ rest
    → length s ≤ 6 + length l
    → header_bytes 0x51 1 ++ (kind ∷ l) ≡ s
joined s kind l rest k h c d n =
    let p = present s 5 (omega arith) in
    let none : rest ≡ [] = no_rest rest (omega (arith, length-drop 6 s, ap length d, length-append l rest)) in
    sym (header_one 0x51 5 s c ∙ ap (λ (t : List ℕ). header_bytes 0x51 1 ++ t)
    (drop_at s 5 p ∙ ap₂ (λ (x : ℕ) (t : List ℕ). x ∷ t) k (d ∙ ap (λ (t : List ℕ). l ++ t) none ∙ append-nil l)))

-- BOTH KINDS ALIKE: the kind byte m, and the query that a term is
module _ (κ : Kind) (m : ℕ) (low : m ≤ 1) (kind : term_kind m ≡ of_kind κ) (of : QueryTerm κ → Query)
    (text : (t : QueryTerm κ) → encode (of t) ≡ header_bytes 0x51 1 ++ (m ∷ query_bytes κ t))
    (size : (t : QueryTerm κ) → query_terms (of t) ≡ size_of t) (deep : (t : QueryTerm κ) → query_depth (of t) ≡ depth_of t)
    (same : (t : QueryTerm κ) → written_paths (of t) ≡ paths t) (count : (t : QueryTerm κ) → query_reductions (of t) ≡ reduction_count t) where
  term_read : (t : QueryTerm κ) → TermFits 256 t → QueryLegal 256 (of t) → Scanned (query_scan (encode (of t))) (of t)
  unfolding started
  term_read t fine l =
      let s : List ℕ = header_bytes 0x51 1 ++ (m ∷ query_bytes κ t) in
      let put = ap (put_all []) (same t) in
      let a = query_complete s κ t 16 (started 6) [] [] refl (started_table 6) tt (sym (append-nil (query_bytes κ t)))
      (record {
        fine = fine;
        shallow = omega (arith, l.shallow, deep t);
        terms = omega (arith, l.few_terms, size t);
        paths = omega (arith, l.few_paths, ap length put);
        reductions = omega (arith, l.few_reductions, count t);
      }) in
      let whole =
      scan_is s m (header_accepted 0x51 1 5 1 (m ∷ query_bytes κ t) (omega arith) (omega arith) (omega arith)) refl low
      ∙ ap (λ (k : TermKind). ended s (read k 16 s (started 6))) kind
      ∙ ended_whole s (read (of_kind κ) 16 s (started 6)) (omega (arith, a.at)) in
      subst (λ (w : Scan). Scanned w (of t)) (sym (ap query_scan (text t) ∙ whole))
      (record {
        accepted = a.code;
        terms = omega (arith, a.terms, size t);
        reductions = omega (arith, a.reductions, count t);
        table = subst (Table (read (of_kind κ) 16 s (started 6))) (sym put) a.table;
      })

  term_found : (s : List ℕ) → Bytes s → ((t : QueryTerm κ) → TermFits 256 t → TermsFit 256 (of t)) → header_code 0x51 1 5 s ≡ 0
      → get_or s 5 256 ≡ m
      → (ended s (read (term_kind m) 16 s (started 6))).code ≡ 0 → (q : Query) × QueryLegal 256 q × (encode q ≡ s)
  unfolding started
  term_found s bytes legal h k e =
      let z = ended_code s (read (of_kind κ) 16 s (started 6)) (subst (λ (k : TermKind). (ended s (read k 16 s (started 6))).code ≡ 0) kind e) in
      let f = query_sound s bytes 16 κ (started 6) [] refl (started_table 6) tt z.0 in
      let t = f.0 in
      let room = f.3 in
      let a = query_complete s κ t 16 (started 6) [] f.1 refl (started_table 6) tt f.2 room in
      let put = ap (λ (l : List PathReduction). length (put_all [] l)) (same t) in (
        of t,
        record {
          legal = legal t room.fine;
          few_terms = omega (arith, room.terms, size t);
          shallow = omega (arith, room.shallow, deep t);
          few_paths = omega (arith, room.paths, put);
          few_reductions = omega (arith, room.reductions, count t);
        },
        text t ∙ joined s m (query_bytes κ t) f.1 k low h f.2 (omega (arith, z.1, a.at)),
      )

-- THE ENCODING OF EVERY LEGAL QUERY IS ACCEPTED AND READ AS IT
pub read_complete : (q : Query) → QueryLegal 256 q → Scanned (query_scan (encode q)) q
read_complete (each t) l =
    term_read vertex 0 (omega arith) refl each (λ t. refl) (λ t. refl) (λ t. refl) (λ t. refl) (λ t. refl) t l.legal l
read_complete (single t) l =
    term_read result 1 (omega arith) refl single (λ t. refl) (λ t. refl) (λ t. refl) (λ t. refl) (λ t. refl) t l.legal l

-- what an accepted text is: its header, a kind, a term and nothing after it
accepted_parts : (s : List ℕ) → query_code s ≡ 0
    → (header_code 0x51 1 5 s ≡ 0) × (get_or s 5 256 ≤ 1) × ((ended s (read (term_kind (get_or s 5 256)) 16 s (started 6))).code ≡ 0)
unfolding query_scan blank
accepted_parts s e = go (eqb (opening_code 0x51 1 s) 0) refl e
  where
    go : (a : Bool) → eqb (opening_code 0x51 1 s) 0 ≡ a
        → (cond a (ended s (read (term_kind (get_or s 5 256)) 16 s (started 6))) (blank (opening_code 0x51 1 s))).code ≡ 0
        → (header_code 0x51 1 5 s ≡ 0) × (get_or s 5 256 ≤ 1) × ((ended s (read (term_kind (get_or s 5 256)) 16 s (started 6))).code ≡ 0)
    go false p z = absurd (eqb-false (opening_code 0x51 1 s) 0 p z)
    go true p z = let f = opening_found 0x51 1 s (eqb-true (opening_code 0x51 1 s) 0 p) in (f.0, f.1, z)

-- ACCEPTED BYTES ARE THE ENCODING OF A LEGAL QUERY
pub read_sound : (s : List ℕ) → Bytes s → query_code s ≡ 0 → (q : Query) × QueryLegal 256 q × (encode q ≡ s)
read_sound s bytes e = by_kind (get_or s 5 256) refl (accepted_parts s e)
  where
    by_kind : (kind : ℕ) → get_or s 5 256 ≡ kind
        → (header_code 0x51 1 5 s ≡ 0) × (get_or s 5 256 ≤ 1) × ((ended s (read (term_kind (get_or s 5 256)) 16 s (started 6))).code ≡ 0)
        → (q : Query) × QueryLegal 256 q × (encode q ≡ s)
    by_kind zero k p =
        term_found vertex 0 (omega arith) refl each (λ t. refl) (λ t. refl) (λ t. refl) (λ t. refl) (λ t. refl) s bytes (λ t f. f) p.0 k
        (rw k at p.2)
    by_kind (suc zero) k p =
        term_found result 1 (omega arith) refl single (λ t. refl) (λ t. refl) (λ t. refl) (λ t. refl) (λ t. refl) s bytes (λ t f. f) p.0 k
        (rw k at p.2)
    by_kind (suc (suc n)) k p = absurd (omega (arith, p.1))
