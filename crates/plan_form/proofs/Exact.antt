-- READING GIVES THE TYPED FORM OF A PLAN, AND WRITING IT GIVES ITS BYTES. Assumes nothing.
use Prim.Native.Nat.{ℕ, suc, ◌+◌, ◌/◌, ◌%◌, ◌≤◌, min}
use mathlib.Core.Path.{◌≡◌, refl, sym, ap, ap₂, ◌∙◌, subst}
use mathlib.Core.Bool.{Bool, true, false, cond}
use mathlib.Core.List.{List, [], ◌∷◌, ◌++◌, map, append_assoc, append-nil}
use mathlib.Core.Option.{Option, none, some}
use native.Mathlib.Omega.{arith}
use borrow.Author.Tests.{le-leb, le-ltb, lt-ltb, eqb-true}
use lib.Dec.{eqb}
use lib.ListN.{length, drop, take, length-append, length-map}
use lib.Seq.{drop_at, take_at}
use Rattle.meaning.specs.Limits.{BodyLegal, EntryLegal, Expression, Optional, PlanLegal, condition_terms, entry_terms, plan_terms, terms}
use Rattle.meaning.specs.Plan.{Body, Plan, Term, VertexReduction, each_vertex, one_result}
use Rattle.meaning.specs.Query.{PathReduction}
use Rattle.nodes.specs.declared.Term.{Term as Node}
use Rattle.draft.specs.Texts.{texts}
use Rattle.nodes.specs.Text.{nodes_text, set_text, start_text}
use Rattle.nodes.specs.Nodes.{padded}
use Rattle.nodes.specs.Steps.{nodes_read, reduction_tag}
use Rattle.nodes.specs.Tree.{entry_nodes, final_nodes}
use Rattle.nodes.proofs.Exact.{entry_size, entry_written, final_size, final_written}
use Rattle.nodes.proofs.Fields.{entry_one, set_written, start_written}
use Rattle.nodes.proofs.Held.{first_nodes, read_whole}
use Rattle.nodes.proofs.Shape.{Written, both_written, more_written, none_written}
use Rattle.packed_path.specs.declared.PackedPath.{PackedPath}
use Rattle.packed_path.specs.Packed.{packed}
use Rattle.packed_path.proofs.Keys.{keys_digits}
use Rattle.plan.specs.Plan.{count_at, plan_code, plan_scan}
use Rattle.plan.specs.Text.{body_bytes, condition_bytes, encode, entries_bytes, entry_count, kind_of, listed_bytes, all_listed_bytes, reduction_byte}
use Rattle.plan.specs.Tree.{plan_of}
use Rattle.plan.proofs.Exact.{read_complete}
use Rattle.plan.proofs.ListedPaths.{Listed, all_listed}
use Rattle.plan.proofs.Tree.{body_there, plan_back, plan_read}
use Rattle.progress.specs.Progress.{Scan}
use Rattle.terms.specs.declared.TermKind.TheVariants.{OfEntry, OfFinal}
use Rattle.term_text.specs.Text.{expression_bytes, start_of, starts_bytes}
use Rattle.term_text.proofs.Steps.{drop_on}
use Rattle.term_text.proofs.Table.{Table}
use Rattle.walks.specs.Lists.{All}
use Rattle.wire.specs.Wire.{Bytes, done, le16}
use Rattle.plan_form.specs.declared.Form.{Form}
use Rattle.plan_form.specs.Form.{all_listed_text, body_nodes, condition_nodes, entries_nodes, form_bytes, form_of, held_code, listed_text}
use Rattle.plan_form.specs.Form.{plan_judged, plan_reading, write_reply}
use Rattle.plan_form.specs.Steps.{form_after, judged_after}
use Rattle.plan_form.proofs.Written.{held_legal}

-- the bytes behind the entry count
abbrev inner : Body → List ℕ
inner (each_vertex t) = 0 ∷ expression_bytes OfEntry t
inner (one_result es t) = entries_bytes es ++ expression_bytes OfFinal t

-- those of a plan's body are its entry count and these
body_is : (b : Body) → body_bytes b ≡ entry_count b ∷ inner b
body_is (each_vertex t) = refl
body_is (one_result es t) = refl

-- the same terms, their number and their bytes put otherwise
same_written : {n m : ℕ} {b c : List ℕ} {l : List Node} → n ≡ m → b ≡ c → Written n b l → Written m c l
same_written {n} {m} {b} {c} {l} p q w = subst (λ (k : ℕ). Written k c l) p (subst (λ (d : List ℕ). Written n d l) q w)

-- a reduction byte is an entry's, without a condition and with one
entry_byte : (r : ℕ) (c : Option (Term ℕ)) → r ≤ 5 → reduction_tag (reduction_byte r c) ≡ true
entry_byte r none h = rw (lt-ltb r 16 (omega arith)) refl
entry_byte r (some c) h = rw (le-ltb (128 + r) 16 (omega arith), le-leb 128 (128 + r) (omega arith)) refl

-- THE NODES AND THEIR BYTES: of a condition, of entries
module _ (count : ℕ) where
  condition_written : (c : Option (Term ℕ)) → Optional (Expression count) c → Written (condition_terms c) (condition_bytes c) (condition_nodes c)
  condition_written none f = none_written
  condition_written (some t) f = entry_written count t f.0

  entries_written : (es : List (VertexReduction ℕ)) → All (EntryLegal count) es
      → Written (entry_terms es + length es) (entries_bytes es) (entries_nodes es)
  entries_written [] f = none_written
  entries_written (e ∷ es) f =
      let g = f.0 in
      let c = e.condition in
      let r = reduction_byte e.reduction c in
      let terms_are : suc (condition_terms c + (terms e.body + (entry_terms es + length es)))
      ≡ condition_terms c + terms e.body + entry_terms es + suc (length es) = omega arith in
      same_written terms_are
      (ap (λ (l : List ℕ). r ∷ l) (sym (append_assoc (condition_bytes c) (expression_bytes OfEntry e.body) (entries_bytes es))))
      (more_written (entry_one r (entry_byte e.reduction c g.1))
      (both_written (condition_written c g.2) (both_written (entry_written count e.body g.3.0) (entries_written es f.1))))

  -- of a whole body
  body_written : (b : Body) → BodyLegal count b → Written (plan_terms b + entry_count b) (inner b) (body_nodes b)
  body_written (each_vertex t) l =
      same_written (let z : suc (terms t) ≡ terms t + 1 = omega arith in z) refl (more_written (entry_one 0 refl) (entry_written count t l.0))
  body_written (one_result es t) l =
      same_written (let z : entry_terms es + length es + terms t ≡ entry_terms es + terms t + length es = omega arith in z) refl
      (both_written (entries_written es l.1) (final_written (length es) t l.2.0))

-- where their bytes stand: behind the entry count
inner_there : (p : Plan) → PlanLegal 256 p → drop (count_at (encode p) + 1) (encode p) ≡ inner p.body
inner_there p legal =
    let s = encode p in
    let l = all_listed_bytes p.version p.paths in
    let d = drop_on s 7 (length l) l (body_bytes p.body) refl refl ∙ body_is p.body in
    ap (λ (i : ℕ). drop (i + 1) s) (body_there p legal) ∙ drop_on s (7 + length l) 1 (entry_count p.body ∷ []) (inner p.body) d refl

-- a legal plan has at most eight entries
pub few_entries : (count : ℕ) (b : Body) → BodyLegal count b → entry_count b ≤ 8
few_entries count (each_vertex t) l = omega arith
few_entries count (one_result es t) l = l.0

-- the nodes read from a legal plan's bytes are the plan's
nodes_are : (p : Plan) → PlanLegal 256 p
    → nodes_read (plan_terms p.body + entry_count p.body) (encode p) (count_at (encode p) + 1) ≡ padded (body_nodes p.body)
nodes_are p l =
    let s = encode p in
    let n = plan_terms p.body + entry_count p.body in
    let i = count_at s + 1 in
    let there = inner_there p l ∙ sym (append-nil (inner p.body)) in
    read_whole s i (i + length (inner p.body)) n (body_nodes p.body)
    (omega (arith, l.few_terms, few_entries (length p.paths) p.body l.body_legal))
    ((body_written (length p.paths) p.body l.body_legal).collects s i 0 [] there)

-- what the table holds behind the path reductions
abbrev behind : Scan → List PackedPath
behind w = drop w.paths w.table

table_is : (w : Scan) (cs : List PathReduction) → Table w cs → w.table ≡ map packed cs ++ behind w
table_is w cs t =
    let n : length (map packed cs) ≡ w.paths = length-map cs packed ∙ sym t.count in
    t.holds ∙ ap (λ (l : List PackedPath). map packed cs ++ l) (sym (ap (drop w.paths) t.holds ∙ drop_at (map packed cs) t.rest w.paths n))

-- the form made of the bytes of a legal plan is the plan's
form_made : (p : Plan) → PlanLegal 256 p → form_after (encode p) (plan_scan (encode p)) ≡ form_of p (behind (plan_scan (encode p)))
unfolding form_after form_of
form_made p l =
    let a = read_complete p l in
    let w = plan_scan (encode p) in
    let few = few_entries (length p.paths) p.body l.body_legal in
    let t : min w.terms 64 ≡ plan_terms p.body = omega (arith, a.terms, l.few_terms) in
    let r : min w.reductions 8 ≡ entry_count p.body = omega (arith, a.reductions, few) in
    let c : min w.paths 8 ≡ length p.paths = omega (arith, a.table.count, l.few_paths) in
    rw (t, r, c)
    (λ i. record {
      version = p.version;
      kind = kind_of p.body;
      paths = length p.paths;
      table = table_is w p.paths a.table i;
      entries = entry_count p.body;
      count = plan_terms p.body + entry_count p.body;
      nodes = nodes_are p l i;
    })

-- what is made of accepted bytes
reading_is : (s : List ℕ) → plan_reading s ≡ form_of (plan_of s) (behind (plan_scan s))
unfolding plan_reading
reading_is s = refl

-- THE BYTES OF A LEGAL PLAN ARE ACCEPTED, AND READ AS ITS TYPED FORM
pub read_form : (p : Plan) → PlanLegal 256 p → (plan_code (encode p) ≡ 0)
    × ((rest : List PackedPath) × (plan_reading (encode p) ≡ form_of p rest))
read_form p l =
    let s = encode p in
    let rest = behind (plan_scan s) in
    ((read_complete p l).accepted, (rest, reading_is s ∙ ap (λ (q : Plan). form_of q rest) (plan_back p l)))

-- the program reads as is said, accepted bytes
pub read_steps_accepted : (s : List ℕ) → Bytes s → plan_code s ≡ 0 → form_after s (plan_scan s) ≡ plan_reading s
unfolding plan_reading
read_steps_accepted s b z =
    let p = plan_read s b z in
    subst (λ (t : List ℕ). form_after t (plan_scan t) ≡ form_of (plan_of s) (behind (plan_scan t))) p.1 (form_made (plan_of s) p.0)

-- THE PROGRAM READS AS IS SAID, all bytes
pub read_steps : (s : List ℕ) → Bytes s → judged_after s (plan_scan s) ≡ plan_judged s
unfolding judged_after plan_judged
read_steps s b = go (eqb (plan_code s) 0) refl
  where
    go : (t : Bool) → eqb (plan_code s) 0 ≡ t → judged_after s (plan_scan s) ≡ plan_judged s
    go false e = rw e refl
    go true e = rw (e, read_steps_accepted s b (eqb-true (plan_code s) 0 e)) refl

-- a node for each term and each entry
condition_size : (c : Option (Term ℕ)) → length (condition_nodes c) ≡ condition_terms c
condition_size none = refl
condition_size (some t) = entry_size t

entries_size : (es : List (VertexReduction ℕ)) → length (entries_nodes es) ≡ entry_terms es + length es
entries_size [] = refl
entries_size (e ∷ es) = omega (
  arith,
  length-append (condition_nodes e.condition) (entry_nodes e.body ++ entries_nodes es),
  length-append (entry_nodes e.body) (entries_nodes es),
  condition_size e.condition,
  entry_size e.body,
  entries_size es,
)

-- of a whole body
pub body_size : (b : Body) → length (body_nodes b) ≡ plan_terms b + entry_count b
body_size (each_vertex t) = omega (arith, entry_size t)
body_size (one_result es t) = omega (arith, length-append (entries_nodes es) (final_nodes t), entries_size es, final_size t)

-- the text of the numbers of path reductions
module _ (version : ℕ) where
  row_written : (c : PathReduction) → Listed version c → listed_text version (packed c) ≡ listed_bytes version c
  unfolding listed_text
  row_written c f =
      let w = (packed c).keys in
      let d = keys_digits c.keys f.0.0 in
      let e : w / 65536 / 256 % 256 ≡ w / 16777216 % 256 = omega arith in
      let starts = go (eqb version 1) refl in
      rw (e, d.0, d.1, d.2, d.3, starts) refl
    where
      go : (b : Bool) → eqb version 1 ≡ b
          → cond b (start_text (packed c)) (set_text (packed c)) ≡ cond b (le16 (start_of c.sources)) (length c.sources ∷ starts_bytes c.sources)
      go true p = start_written (packed c).keys c.sources f.0.1.0 (f.1 (let v = eqb-true version 1 p in omega arith))
      go false p = set_written (packed c).keys c.sources f.0.1.0 f.0.1.2

  rows_written : (cs : List PathReduction) → All (Listed version) cs → all_listed_text version (map packed cs) ≡ all_listed_bytes version cs
  unfolding texts
  rows_written [] f = refl
  rows_written (c ∷ cs) f = ap₂ ◌++◌ (row_written c f.0) (rows_written cs f.1)

-- WRITTEN, THE TYPED FORM IS THE BYTES
pub write_form : (p : Plan) → PlanLegal 256 p → (rest : List PackedPath) → form_bytes (form_of p rest) ≡ encode p
unfolding form_bytes form_of
write_form p l rest =
    let n = length p.paths in
    let v = p.version in
    let rows : all_listed_text v (take n (map packed p.paths ++ rest)) ≡ all_listed_bytes v p.paths =
    ap (all_listed_text v) (take_at (map packed p.paths) rest n (length-map p.paths packed)) ∙ rows_written v p.paths (all_listed p l) in
    let count = plan_terms p.body + entry_count p.body in
    let list : nodes_text (take count (padded (body_nodes p.body))) ≡ inner p.body =
    ap nodes_text (first_nodes count (body_nodes p.body) (body_size p.body)) ∙ (body_written n p.body l.body_legal).text in
    rw (rows, list, body_is p.body) refl

-- and its version has bytes for it
pub held_form : (p : Plan) → PlanLegal 256 p → (rest : List PackedPath)
    → held_code (form_of p rest).version (take (form_of p rest).paths (form_of p rest).table) ≡ 0
unfolding form_of
held_form p l rest =
    ap (held_code p.version) (take_at (map packed p.paths) rest (length p.paths) (length-map p.paths packed)) ∙ held_legal p l

-- WRITING WHAT WAS READ GIVES THE BYTES READ
pub write_read : (s : List ℕ) → Bytes s → plan_code s ≡ 0 → (room : ℕ) → length s ≤ room → write_reply (plan_reading s) room ≡ done s
unfolding write_reply
write_read s b z room h =
    let p = plan_read s b z in
    let r = reading_is s in
    let e : form_bytes (plan_reading s) ≡ s = ap form_bytes r ∙ write_form (plan_of s) p.0 (behind (plan_scan s)) ∙ p.1 in
    let held = ap (λ (f : Form). held_code f.version (take f.paths f.table)) r ∙ held_form (plan_of s) p.0 (behind (plan_scan s)) in
    rw (held, e, z, le-ltb room (length s) h) refl
