-- THE REPLY TO A LEGAL QUERY IS THE ENCODING OF ITS FUSED TREE. Assumes nothing.
use Prim.Native.Nat.{ℕ, ◌≤◌, ◌<◌, min}
use mathlib.Core.Path.{◌≡◌, refl, sym, ap, ◌∙◌, subst}
use mathlib.Core.Bool.{Bool, true, false, cond}
use mathlib.Core.List.{List, [], ◌∷◌, ◌++◌, map, append-nil}
use native.Mathlib.Omega.{arith}
use borrow.Author.Tests.{eqb-true, le-ltb, ne_eqb}
use lib.Dec.{eqb, ltb}
use lib.ListN.{length, take, length-append, length-map}
use lib.Seq.{take_at}
use Rattle.meaning.specs.Limits.{PlanLegal, QueryLegal, query_reductions, query_terms}
use Rattle.meaning.specs.Plan.{Plan, entries, expression, final, fuse}
use Rattle.meaning.specs.Query.{Query, each, paths, result, single, vertex}
use Rattle.meaning.proofs.Limits.{entries_length, fuse_legal}
use Rattle.meaning.proofs.Paths.{put_all_has}
use Rattle.nodes.specs.declared.Term.{Term}
use Rattle.nodes.specs.declared.Term.TheVariants.{Entry}
use Rattle.nodes.specs.Tree.{entry_nodes, final_nodes, query_nodes}
use Rattle.nodes.proofs.Exact.{query_size}
use Rattle.nodes.proofs.Held.{first_nodes}
use Rattle.plan.specs.Plan.{plan_code}
use Rattle.plan.specs.Text as plan
use Rattle.plan.proofs.Exact as reader
use Rattle.plan.proofs.Longest.{plan_short}
use Rattle.plan_form.specs.declared.Form.{Form}
use Rattle.plan_form.specs.Form.{any_set, body_nodes, entries_nodes, form_bytes, held_code, write_reply}
use Rattle.plan_form.specs.Form as plan_form
use Rattle.plan_form.proofs.Exact.{body_size, few_entries, held_form, write_form}
use Rattle.plan_form.proofs.Written.{version_is}
use Rattle.query.specs.Query.{encode, query_code}
use Rattle.query.specs.Tree.{query_of}
use Rattle.query.proofs.Exact.{read_complete}
use Rattle.query.proofs.Tree.{query_back, query_read}
use Rattle.query_form.specs.declared.Form as query_form
use Rattle.query_form.specs.declared.Reading.{Reading}
use Rattle.query_form.specs.Form.{form_of, query_reading}
use Rattle.query_form.proofs.Exact.{ReadAs, read_form}
use Rattle.packed_path.specs.declared.PackedPath.{PackedPath}
use Rattle.packed_path.specs.Packed.{packed}
use Rattle.wire.specs.Wire.{Bytes, done, fitted, refused, reply_number}
use Rattle.fusion.specs.declared.Written.{Written}
use Rattle.fusion.specs.Fusion.{fuse_reply}
use Rattle.fusion.specs.Steps.{entries_of, entries_term, final_term, first_written, fused_form, put_part, steps_reply}
use Rattle.fusion.proofs.Fused.{result_entries, result_final, vertex_entry, vertex_final}
use Rattle.fusion.proofs.Selected.{Holds, holds_part, selected}

-- at most 64 terms and 8 entries
body_short : (n : ℕ) (p : Plan) → PlanLegal n p → length (body_nodes p.body) ≤ 72
body_short n p l = omega (arith, body_size p.body, l.few_terms, few_entries (length p.paths) p.body l.body_legal)

-- the two parts one behind the other
both_parts : (table : List PackedPath) (nodes : List Term) (d : Written) (l a b : List Term) → Holds d l → selected (entries_term table) 0 nodes ≡ a
    → selected final_term 0 nodes ≡ b
    → length (l ++ a ++ b) ≤ 72 → Holds (put_part final_term 0 (put_part (entries_term table) 0 d nodes) nodes) (l ++ a ++ b)
both_parts table nodes d l a b h p q r =
    let m = length-append l a in
    let n = length-append (l ++ a) b in
    let first = put_part (entries_term table) 0 d nodes in
    let one = subst (λ (x : List Term). Holds first (l ++ x)) p (holds_part (entries_term table) nodes 0 d l h (omega (arith, m, n, ap length p))) in
    subst (λ (x : List Term). Holds (put_part final_term 0 first nodes) (l ++ a ++ x)) q
    (holds_part final_term nodes 0 first (l ++ a) one (omega (arith, n, ap length q)))

-- a query's nodes and kind, the table of its path reductions, and the nodes that fusing makes of them
abbrev nodes_of : Query → List Term
nodes_of (each t) = query_nodes vertex t
nodes_of (single t) = query_nodes result t

abbrev query_kind : Query → ℕ
query_kind (each t) = 0
query_kind (single t) = 1

abbrev table_of : Query → List PackedPath → List PackedPath
table_of q rest = map packed (fuse q).paths ++ rest

abbrev both : List PackedPath → ℕ → List Term → Written
both table kind nodes = put_part final_term 0 (put_part (entries_term table) 0 (first_written kind) nodes) nodes

-- which are those of the fused plan
parts_held : (q : Query) → QueryLegal 256 q → (rest : List PackedPath)
    → Holds (both (table_of q rest) (query_kind q) (nodes_of q)) (body_nodes (fuse q).body)
unfolding first_written
parts_held (each t) h rest =
    let l = fuse_legal 256 (each t) h in
    let cs = (fuse (each t)).paths in
    let a = entry_nodes (expression cs t) in
    let s : Holds (first_written 0) (Entry 0 ∷ []) = record { list = refl; len = refl } in
    let e : (Entry 0 ∷ []) ++ a ++ [] ≡ Entry 0 ∷ a = append-nil (Entry 0 ∷ a) in
    subst (Holds (both (table_of (each t) rest) 0 (query_nodes vertex t))) e
    (both_parts (table_of (each t) rest) (query_nodes vertex t) (first_written 0) (Entry 0 ∷ []) a [] s
    (vertex_entry cs l.paths_legal rest 0 t h.legal (put_all_has [] (paths t))) (vertex_final 0 t)
    (omega (arith, ap length e, body_short 256 (fuse (each t)) l)))
parts_held (single t) h rest =
    let l = fuse_legal 256 (single t) h in
    let cs = (fuse (single t)).paths in
    let s : Holds (first_written 1) [] = record { list = refl; len = refl } in
    both_parts (table_of (single t) rest) (query_nodes result t) (first_written 1) [] (entries_nodes (entries cs t)) (final_nodes (final 0 t)) s
    (result_entries cs l.paths_legal rest 0 t h.legal (put_all_has [] (paths t)))
    (result_final 0 t) (body_short 256 (fuse (single t)) l)

-- the fields of the query's typed form
kind_read : (q : Query) → (form_of q).kind ≡ query_kind q
unfolding form_of
kind_read (each t) = refl
kind_read (single t) = refl

nodes_read : (q : Query) → take (form_of q).count (form_of q).nodes ≡ nodes_of q
unfolding form_of
nodes_read (each t) = first_nodes (query_terms (each t)) (query_nodes vertex t) (query_size vertex t)
nodes_read (single t) = first_nodes (query_terms (single t)) (query_nodes result t) (query_size result t)

-- kind and entry count are those of the fused plan
kind_fused : (q : Query) → query_kind q ≡ plan.kind_of (fuse q).body
kind_fused (each t) = refl
kind_fused (single t) = refl

entries_fused : (q : Query) → QueryLegal 256 q → (r : ℕ) → r ≡ query_reductions q → entries_of (query_kind q) r ≡ plan.entry_count (fuse q).body
unfolding entries_of
entries_fused (each t) h r e = refl
entries_fused (single t) h r e = omega (arith, h.few_reductions, entries_length (fuse (single t)).paths t)

-- WHAT IS MADE OF THE READING OF A LEGAL QUERY IS THE TYPED FORM OF ITS FUSED PLAN
fused_as : (q : Query) → QueryLegal 256 q → (r : Reading) → (a : ReadAs r q) → fused_form r ≡ plan_form.form_of (fuse q) a.rest
unfolding fused_form plan_form.form_of
fused_as q h r a =
    let kind : r.form.kind ≡ query_kind q = ap (λ (f : query_form.Form). f.kind) a.form ∙ kind_read q in
    let list : take r.form.count r.form.nodes ≡ nodes_of q =
    ap (λ (f : query_form.Form). take f.count f.nodes) a.form ∙ nodes_read q in
    let w : Holds (both r.table r.form.kind (take r.form.count r.form.nodes)) (body_nodes (fuse q).body) =
    rw (kind, list, a.table) (parts_held q h a.rest) in
    let same : r.form.kind ≡ plan.kind_of (fuse q).body = kind ∙ kind_fused q in
    let paths : min r.paths 8 ≡ length (fuse q).paths = omega (arith, a.paths, h.few_paths) in
    let entries = ap (λ (k : ℕ). entries_of k r.reductions) kind ∙ entries_fused q h r.reductions a.reductions in
    let count = w.len ∙ body_size (fuse q).body in
    let first : take r.paths r.table ≡ map packed (fuse q).paths =
    rw (a.table, a.paths) (take_at (map packed (fuse q).paths) a.rest (length (fuse q).paths) (length-map (fuse q).paths packed)) in
    let version : cond (any_set (take r.paths r.table)) 2 1 ≡ (fuse q).version = rw first (sym (version_is (fuse q).paths)) in
    λ i. record { version = version i; kind = same i; paths = paths i; table = a.table i; entries = entries i; count = count i; nodes = w.list i }

-- A FUSED PLAN IS ALWAYS ACCEPTED BY THE READER
pub fused_accepted : (q : Query) → QueryLegal 256 q → plan_code (plan.encode (fuse q)) ≡ 0
fused_accepted q h = (reader.read_complete (fuse q) (fuse_legal 256 q h)).accepted

-- the writer's reply to it is the encoding of the fused tree, or 15 where that does not fit
written : (q : Query) → QueryLegal 256 q → (room : ℕ) → write_reply (fused_form (query_reading (encode q))) room ≡ fitted (plan.encode (fuse q)) room
unfolding write_reply
written q h room =
    let a = (read_form q h).1 in
    let l = fuse_legal 256 q h in
    let f = fused_as q h (query_reading (encode q)) a in
    let e : form_bytes (fused_form (query_reading (encode q))) ≡ plan.encode (fuse q) = ap form_bytes f ∙ write_form (fuse q) l a.rest in
    let held = ap (λ (f : Form). held_code f.version (take f.paths f.table)) f ∙ held_form (fuse q) l a.rest in
    rw (held, e, fused_accepted q h) refl

-- THE PROGRAM FUSES AS IS SAID, all bytes
pub fuse_steps : (s : List ℕ) → Bytes s → (room : ℕ) → steps_reply s room ≡ fuse_reply s room
unfolding steps_reply fuse_reply
fuse_steps s b room = go (eqb (query_code s) 0) refl
  where
    go : (t : Bool) → eqb (query_code s) 0 ≡ t → steps_reply s room ≡ fuse_reply s room
    go false e = rw e refl
    go true e =
        let q = query_read s b (eqb-true (query_code s) 0 e) in
        rw e
        (subst (λ (t : List ℕ). write_reply (fused_form (query_reading t)) room ≡ fitted (plan.encode (fuse (query_of s))) room) q.1
        (written (query_of s) q.0 room))

-- THE REPLY TO A LEGAL QUERY IS THE ENCODING OF ITS FUSED TREE, or 15 where that does not fit
pub fuse_encodes : (q : Query) → QueryLegal 256 q → (room : ℕ) → fuse_reply (encode q) room ≡ fitted (plan.encode (fuse q)) room
unfolding fuse_reply
fuse_encodes q h room = rw (read_complete q h).accepted (ap (λ (x : Query). fitted (plan.encode (fuse x)) room) (query_back q h))

-- with room for 560 bytes nothing but the query is refused
pub fuse_fits : (q : Query) → QueryLegal 256 q → (room : ℕ) → 560 ≤ room → fuse_reply (encode q) room ≡ done (plan.encode (fuse q))
fuse_fits q h room r =
    fuse_encodes q h room ∙ rw (le-ltb room (length (plan.encode (fuse q))) (omega (arith, plan_short (fuse q) (fuse_legal 256 q h)))) refl

-- FOR ALL BYTES: a query that is refused is refused by its number ..
pub fuse_refused : (s : List ℕ) → (query_code s ≡ 0 → ⊥) → (room : ℕ) → fuse_reply s room ≡ refused (query_code s)
unfolding fuse_reply
fuse_refused s n room = rw (ne_eqb (query_code s) 0 n) refl

-- .. and one that is accepted is a legal query's, and the reply is the encoding of its fused tree: a legal plan that its reader accepts, of at most 560 bytes
pub record Fused (s : List ℕ) (room : ℕ) : Type 0 where
  pub legal : QueryLegal 256 (query_of s)
  pub read : encode (query_of s) ≡ s
  pub reply : fuse_reply s room ≡ fitted (plan.encode (fuse (query_of s))) room
  pub fused_legal : PlanLegal 256 (fuse (query_of s))
  pub accepted : plan_code (plan.encode (fuse (query_of s))) ≡ 0
  pub short : length (plan.encode (fuse (query_of s))) ≤ 560

pub fuse_sound : (s : List ℕ) → Bytes s → query_code s ≡ 0 → (room : ℕ) → Fused s room
unfolding fuse_reply
fuse_sound s b z room =
    let q = query_read s b z in
    let l = fuse_legal 256 (query_of s) q.0 in
    record {
      legal = q.0;
      read = q.1;
      reply = rw z refl;
      fused_legal = l;
      accepted = fused_accepted (query_of s) q.0;
      short = plan_short (fuse (query_of s)) l;
    }

-- WHATEVER BUFFER WAS LENT: where fusing answered, the query was accepted, and the reply is the encoding of its fused tree
pub fuse_answered : (s : List ℕ) (room : ℕ) → reply_number (fuse_reply s room) < 65536
    → (query_code s ≡ 0) × (fuse_reply s room ≡ done (plan.encode (fuse (query_of s))))
unfolding fuse_reply
fuse_answered s room h = go (eqb (query_code s) 0) (ltb room (length (plan.encode (fuse (query_of s))))) refl refl
  where
    go : (a b : Bool) → eqb (query_code s) 0 ≡ a → ltb room (length (plan.encode (fuse (query_of s)))) ≡ b
        → (query_code s ≡ 0) × (fuse_reply s room ≡ done (plan.encode (fuse (query_of s))))
    go false b p q = absurd (omega (arith, rw p at h))
    go true true p q = absurd (omega (arith, rw (p, q) at h))
    go true false p q = (eqb-true (query_code s) 0 p, rw (p, q) refl)
