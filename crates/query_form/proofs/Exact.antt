-- READING GIVES THE TYPED FORM OF A QUERY, AND WRITING IT GIVES ITS BYTES. Assumes nothing.
use Prim.Native.Nat.{ℕ, ◌+◌, ◌≤◌}
use mathlib.Core.Path.{◌≡◌, refl, sym, ap, ◌∙◌}
use mathlib.Core.Bool.{Bool, true, false}
use mathlib.Core.List.{List, [], ◌∷◌, ◌++◌, map, append-nil}
use native.Mathlib.Omega.{arith}
use borrow.Author.Tests.{eqb-true, le-ltb}
use lib.Dec.{eqb}
use lib.ListN.{length}
use Rattle.meaning.specs.Limits.{QueryLegal, query_reductions, query_terms}
use Rattle.meaning.specs.Plan.{put_all}
use Rattle.meaning.specs.Query.{Query, each, result, single, vertex, written_paths}
use Rattle.nodes.specs.declared.Term.{Term}
use Rattle.nodes.specs.Text.{nodes_text}
use Rattle.nodes.specs.Steps.{nodes_read}
use Rattle.nodes.specs.Tree.{query_nodes}
use Rattle.nodes.proofs.Exact.{query_size, query_written}
use Rattle.nodes.proofs.Held.{first_nodes, read_whole}
use Rattle.query.specs.Query.{encode, query_code, query_scan}
use Rattle.query.specs.Tree.{query_of}
use Rattle.query.proofs.Exact.{read_complete}
use Rattle.query.proofs.Tree.{query_back, query_read}
use Rattle.packed_path.specs.declared.PackedPath.{PackedPath}
use Rattle.packed_path.specs.Packed.{packed}
use Rattle.term_text.specs.Text.{query_bytes}
use Rattle.wire.specs.Header.{header_bytes}
use Rattle.wire.specs.Wire.{Bytes, done}
use Rattle.query_form.specs.declared.Reading.{Reading}
use Rattle.query_form.specs.Form.{form_bytes, form_of, query_judged, query_reading, write_reply}
use Rattle.query_form.specs.Steps.{form_after, judged_after, read_after}

-- the terms behind the six bytes
nodes_are : (q : Query) → QueryLegal 256 q → nodes_read (query_terms q) (encode q) 6 ≡ (form_of q).nodes
unfolding form_of
nodes_are (each t) l =
    read_whole (encode (each t)) 6 (6 + length (query_bytes vertex t)) (query_terms (each t)) (query_nodes vertex t) (omega (arith, l.few_terms))
    ((query_written vertex t l.legal).collects (encode (each t)) 6 0 [] (sym (append-nil (query_bytes vertex t))))
nodes_are (single t) l =
    read_whole (encode (single t)) 6 (6 + length (query_bytes result t)) (query_terms (single t)) (query_nodes result t) (omega (arith, l.few_terms))
    ((query_written result t l.legal).collects (encode (single t)) 6 0 [] (sym (append-nil (query_bytes result t))))

-- the form made of the bytes of a legal query is the query's
form_made : (q : Query) → QueryLegal 256 q → form_after (encode q) (query_terms q) ≡ form_of q
unfolding form_of form_after
form_made (each t) l = ap (λ (n : List Term). record { kind = 0; count = query_terms (each t); nodes = n }) (nodes_are (each t) l)
form_made (single t) l = ap (λ (n : List Term). record { kind = 1; count = query_terms (single t); nodes = n }) (nodes_are (single t) l)

-- what is read of a query: its typed form, and its different path reductions in order of first writing, by their numbers
pub record ReadAs (r : Reading) (q : Query) : Type 0 where
  pub form : r.form ≡ form_of q
  pub paths : r.paths ≡ length (put_all [] (written_paths q))
  pub rest : List PackedPath
  pub table : r.table ≡ map packed (put_all [] (written_paths q)) ++ rest
  pub reductions : r.reductions ≡ query_reductions q

-- what is made of accepted bytes: the typed form of the query that they write
pub reading_is : (s : List ℕ) → (query_reading s).form ≡ form_of (query_of s)
unfolding query_reading
reading_is s = refl

-- THE BYTES OF A LEGAL QUERY ARE ACCEPTED, AND READ AS ITS TYPED FORM
pub read_form : (q : Query) → QueryLegal 256 q → (query_code (encode q) ≡ 0) × ReadAs (query_reading (encode q)) q
unfolding query_reading
read_form q l =
    let a = read_complete q l in (
      a.accepted,
      record {
        form = ap form_of (query_back q l);
        paths = a.table.count;
        rest = a.table.rest;
        table = a.table.holds;
        reductions = a.reductions;
      },
    )

-- the program reads as is said, accepted bytes
pub read_steps_accepted : (s : List ℕ) → Bytes s → query_code s ≡ 0 → read_after s (query_scan s) ≡ query_reading s
unfolding read_after query_reading
read_steps_accepted s b z =
    let q = query_read s b z in
    let n = query_terms (query_of s) in
    let count : (query_scan s).terms ≡ n = ap (λ (t : List ℕ). (query_scan t).terms) (sym q.1) ∙ (read_complete (query_of s) q.0).terms in
    let made : form_after s n ≡ form_of (query_of s) = ap (λ (t : List ℕ). form_after t n) (sym q.1) ∙ form_made (query_of s) q.0 in
    rw (count, made) refl

-- THE PROGRAM READS AS IS SAID, all bytes
pub read_steps : (s : List ℕ) → Bytes s → judged_after s (query_scan s) ≡ query_judged s
unfolding judged_after query_judged
read_steps s b = go (eqb (query_code s) 0) refl
  where
    go : (t : Bool) → eqb (query_code s) 0 ≡ t → judged_after s (query_scan s) ≡ query_judged s
    go false e = rw e refl
    go true e = rw (e, read_steps_accepted s b (eqb-true (query_code s) 0 e)) refl

-- WRITTEN, THE TYPED FORM IS THE BYTES
pub write_form : (q : Query) → QueryLegal 256 q → form_bytes (form_of q) ≡ encode q
unfolding form_of form_bytes
write_form (each t) l =
    let list = first_nodes (query_terms (each t)) (query_nodes vertex t) (query_size vertex t) in
    ap (λ (b : List ℕ). header_bytes 0x51 1 ++ (0 ∷ b)) (ap nodes_text list ∙ (query_written vertex t l.legal).text)
write_form (single t) l =
    let list = first_nodes (query_terms (single t)) (query_nodes result t) (query_size result t) in
    ap (λ (b : List ℕ). header_bytes 0x51 1 ++ (1 ∷ b)) (ap nodes_text list ∙ (query_written result t l.legal).text)

-- WRITING WHAT WAS READ GIVES THE BYTES READ
pub write_read : (s : List ℕ) → Bytes s → query_code s ≡ 0 → (room : ℕ) → length s ≤ room → write_reply (query_reading s).form room
    ≡ done s
unfolding write_reply
write_read s b z room h =
    let q = query_read s b z in
    let e : form_bytes (query_reading s).form ≡ s = ap form_bytes (reading_is s) ∙ write_form (query_of s) q.0 ∙ q.1 in
    rw (e, z, le-ltb room (length s) h) refl
