-- THE ROWS OF A PLAN'S BODY, by the bytes of a legal plan, are the rows of its tree: `body_value`. Assumes nothing.
use Prim.Native.Nat.{ℕ, zero, suc, ◌+◌, ◌-◌, ◌≤◌, ◌<◌, min}
use mathlib.Core.Path.{◌≡◌, refl, sym, ap, ap₂, ◌∙◌}
use mathlib.Core.List.{List, [], ◌∷◌, ◌++◌, map, append_assoc, append-nil}
use mathlib.Core.Option.{Option, none, some}
use native.Mathlib.Omega.{arith}
use borrow.Author.Tests.{le-leb, lt-leb}
use lib.ListN.{length, get_or, drop, replicate, length-append, length-map, get_or-append, get_or-map}
use lib.Seq.{ext_get_or}
use Rattle.meaning.specs.Limits.{BodyLegal, EntryLegal, Expression, Optional, PlanLegal}
use Rattle.meaning.specs.Plan.{Body, Plan, Term, VertexReduction, each_vertex, one_result}
use Rattle.meaning.specs.Query.{PathReduction}
use Rattle.meaning.specs.Run.{at_vertices, body_rows, evaluate, picked, reduced, tabulate}
use Rattle.meaning.proofs.Lists.{tabulate_at, tabulate_length}
use Rattle.plan.proofs.ListedEntries.{reduction_read}
use Rattle.plan.proofs.ListedPaths.{Listed, all_listed, chains_there}
use Rattle.plan.specs.Plan.{count_at}
use Rattle.plan.specs.Text.{all_listed_bytes, body_bytes, condition_bytes, encode, entries_bytes, entry_bytes, reduction_byte}
use Rattle.terms.specs.declared.TermKind.TheVariants.{OfEntry, OfFinal}
use Rattle.term_text.specs.Text.{expression_bytes}
use Rattle.term_text.proofs.Steps.{drop_on, tag_there, there}
use Rattle.value.specs.declared.Row.{Row}
use Rattle.value.specs.declared.Value.{Value}
use Rattle.value.specs.declared.Value.TheVariants.{Absent}
use Rattle.value.specs.Steps.{all_where, where_counts}
use Rattle.value.specs.Value.{reduce, values}
use Rattle.value.proofs.Chosen.{left_out}
use Rattle.walks.specs.Lists.{All}
use Rattle.eval.specs.declared.Found.{Found}
use Rattle.eval.specs.Steps.{body_found, eight, entries_end, entry_end, entry_found, entry_rows, evaluated, expression_end}
use Rattle.eval.specs.Steps.{final_found, results, row}
use Rattle.eval.proofs.Laws.{row_value}
use Rattle.eval.proofs.Tree.{entry_value, evaluate_same, final_value}

-- eight rows hold the values
pub eight_holds : (vs : List Value) (i : ℕ) → i < length vs → get_or (values (eight vs)) i Absent ≡ get_or vs i Absent
eight_holds vs i h =
    row_value (eight vs) i
    ∙ ap (λ (r : Row). r.value)
    (get_or-append (map row vs) (replicate (8 - length vs) (row Absent)) (row Absent) i (omega (arith, length-map vs row))
    ∙ get_or-map row vs i Absent)

-- the values at the n vertices that F gives are those of G, as far as there are path reductions
abbrev pub Agrees : ℕ → ℕ → (ℕ → List Row) → (ℕ → List Value) → Type 0
Agrees n count F G = (v : ℕ) → v < n → (i : ℕ) → i < count → get_or (values (F v)) i Absent ≡ get_or (G v) i Absent

row_values : (f : ℕ → Value) (n i : ℕ) → values (tabulate n i (λ v. row (f v))) ≡ tabulate n i f
row_values f zero i = refl
row_values f (suc n) i = ap (λ (l : List Value). f i ∷ l) (row_values f n (suc i))

tabulate_same : (f g : ℕ → Value) (n : ℕ) → ((v : ℕ) → v < n → f v ≡ g v) → tabulate n zero f ≡ tabulate n zero g
tabulate_same f g n h =
    ext_get_or Absent (tabulate n zero f) (tabulate n zero g) (tabulate_length n zero f ∙ sym (tabulate_length n zero g))
    (λ i l. let b : i < n = omega (arith, tabulate_length n zero f) in tabulate_at n i f Absent b ∙ h i b ∙ sym (tabulate_at n i g Absent b))

-- AN ENTRY, of a reduction r, a condition or none, and an expression: its text, and what it is worth over the values of the path reductions
abbrev entry_text : ℕ → Option (Term ℕ) → Term ℕ → List ℕ
entry_text r o t = reduction_byte r o ∷ (condition_bytes o ++ expression_bytes OfEntry t)

abbrev worth_of : List Value → Option (Term ℕ) → Term ℕ → Value
worth_of vs none t = evaluate vs t
worth_of vs (some c) t = where_counts (evaluate vs c) (evaluate vs t)

-- where an expression of an entry ends
expression_ends : (count : ℕ) (s : List ℕ) (t : Term ℕ) → Expression count t → (at : ℕ) (rest : List ℕ)
    → drop at s ≡ expression_bytes OfEntry t ++ rest → expression_end s at ≡ at + length (expression_bytes OfEntry t)
unfolding expression_end
expression_ends count s t g at rest e = ap (λ (x : Found). x.next) (entry_value count s (eight []) t g at rest e)

module _ (count : ℕ) (s : List ℕ) (r : ℕ) (small : r ≤ 5) (at : ℕ) (rest : List ℕ) where
  -- where a condition and the value behind it stand
  behind_byte : (c t : Term ℕ) → drop at s ≡ entry_text r (some c) t ++ rest
      → let k = expression_bytes OfEntry c in
      let l = expression_bytes OfEntry t in
      (drop (at + 1) s ≡ k ++ (l ++ rest)) × (drop (at + 1 + length k) s ≡ l ++ rest)
  behind_byte c t e =
      let k = expression_bytes OfEntry c in
      let l = expression_bytes OfEntry t in
      let d = drop_on s at 1 ((128 + r) ∷ []) ((k ++ l) ++ rest) e refl ∙ append_assoc k l rest in
      (d, drop_on s (at + 1) (length k) k (l ++ rest) d refl)

  -- what it is worth where its text stands
  entry_value_at : (o : Option (Term ℕ)) (t : Term ℕ) → Optional (Expression count) o → Expression count t → drop at s ≡ entry_text r o t ++ rest
      → (rows : List Row) → entry_found s rows at ≡ worth_of (values rows) o t
  unfolding entry_found
  entry_value_at none t f g e rows =
      let l = expression_bytes OfEntry t in
      let d = drop_on s at 1 (r ∷ []) (l ++ rest) e refl in
      rw (lt-leb (length s) at (there s at r (l ++ rest) e), tag_there s at r (l ++ rest) e, lt-leb 128 r (omega arith))
      (ap (λ (x : Found). x.value) (entry_value count s rows t g (at + 1) rest d))
  entry_value_at (some c) t f g e rows =
      let k = expression_bytes OfEntry c in
      let l = expression_bytes OfEntry t in
      let d = behind_byte c t e in
      rw (
        lt-leb (length s) at (there s at (128 + r) ((k ++ l) ++ rest) e),
        tag_there s at (128 + r) ((k ++ l) ++ rest) e,
        le-leb 128 (128 + r) (omega arith),
        entry_value count s rows c f (at + 1) (l ++ rest) d.0,
        entry_value count s rows t g (at + 1 + length k) rest d.1,
      ) refl

  -- and where it ends
  entry_end_at : (o : Option (Term ℕ)) (t : Term ℕ) → Optional (Expression count) o → Expression count t → drop at s ≡ entry_text r o t ++ rest
      → entry_end s at ≡ at + length (entry_text r o t)
  unfolding entry_end
  entry_end_at none t f g e =
      let l = expression_bytes OfEntry t in
      let d = drop_on s at 1 (r ∷ []) (l ++ rest) e refl in
      rw (
        lt-leb (length s) at (there s at r (l ++ rest) e),
        tag_there s at r (l ++ rest) e,
        lt-leb 128 r (omega arith),
        expression_ends count s t g (at + 1) rest d,
      ) (omega arith)
  entry_end_at (some c) t f g e =
      let k = expression_bytes OfEntry c in
      let l = expression_bytes OfEntry t in
      let d = behind_byte c t e in
      rw (
        lt-leb (length s) at (there s at (128 + r) ((k ++ l) ++ rest) e),
        tag_there s at (128 + r) ((k ++ l) ++ rest) e,
        le-leb 128 (128 + r) (omega arith),
        expression_ends count s c f (at + 1) (l ++ rest) d.0,
        expression_ends count s t g (at + 1 + length k) rest d.1,
      ) (omega (arith, length-append k l))

-- two tables, value by value
where_table : (f g : ℕ → Value) (n i : ℕ) → tabulate n i (λ v. where_counts (f v) (g v)) ≡ all_where (tabulate n i f) (tabulate n i g)
where_table f g zero i = refl
where_table f g (suc n) i = ap (λ (l : List Value). where_counts (f i) (g i) ∷ l) (where_table f g n (suc i))

-- reduced over the vertices it is what the plan's tree has: values that do not count stay as absent ones
worth_reduced : (r n : ℕ) (G : ℕ → List Value) (o : Option (Term ℕ)) (t : Term ℕ)
    → reduce r (tabulate n zero (λ v. worth_of (G v) o t)) ≡ reduce r (picked G n o (at_vertices G n t))
worth_reduced r n G none t = refl
worth_reduced r n G (some c) t =
    ap (reduce r) (where_table (λ v. evaluate (G v) c) (λ v. evaluate (G v) t) n zero) ∙ left_out r (at_vertices G n c) (at_vertices G n t)

module _ (n count : ℕ) (F : ℕ → List Row) (G : ℕ → List Value) (agrees : Agrees n count F G) (s : List ℕ) where
  worth_same : (o : Option (Term ℕ)) (t : Term ℕ) → Optional (Expression count) o → Expression count t → (v : ℕ) → v < n
      → worth_of (values (F v)) o t ≡ worth_of (G v) o t
  worth_same none t f g v h = evaluate_same count (values (F v)) (G v) (agrees v h) t g.0
  worth_same (some c) t f g v h =
      ap₂ where_counts (evaluate_same count (values (F v)) (G v) (agrees v h) c f.0) (evaluate_same count (values (F v)) (G v) (agrees v h) t g.0)

  -- at the vertices in order
  entry_rows_value : (r : ℕ) → r ≤ 5 → (o : Option (Term ℕ)) (t : Term ℕ) → Optional (Expression count) o → Expression count t
      → (at : ℕ) (rest : List ℕ) → drop at s ≡ entry_text r o t ++ rest
      → values (entry_rows s at F n) ≡ tabulate n zero (λ v. worth_of (G v) o t)
  unfolding entry_rows
  entry_rows_value r small o t f g at rest e =
      row_values (λ v. entry_found s (F v) at) n zero
      ∙ tabulate_same (λ v. entry_found s (F v) at) (λ v. worth_of (G v) o t) n
      (λ v h. entry_value_at count s r small at rest o t f g e (F v) ∙ worth_same o t f g v h)

  -- THE ENTRIES, one after the other
  record Entries (es : List (VertexReduction ℕ)) (at : ℕ) : Type 0 where
    pub worth : results (length es) s at F n ≡ map (reduced G n) es
    pub end : entries_end (length es) s at ≡ at + length (entries_bytes es)

  entries_value : (es : List (VertexReduction ℕ)) → All (EntryLegal count) es → (at : ℕ) (rest : List ℕ) → drop at s ≡ entries_bytes es ++ rest
      → Entries es at
  unfolding results entries_end
  entries_value [] a at rest e = record { worth = refl; end = omega arith }
  entries_value (x ∷ es) a at rest e =
      let r = x.reduction in
      let o : Option (Term ℕ) = x.condition in
      let t : Term ℕ = x.body in
      let f = a.0 in
      let l : List ℕ = entry_bytes x in
      let e1 : drop at s ≡ l ++ (entries_bytes es ++ rest) = e ∙ append_assoc l (entries_bytes es) rest in
      let tag = tag_there s at (reduction_byte r o) _ e1 in
      let rows = entry_rows_value r f.1 o t f.2 f.3 at (entries_bytes es ++ rest) e1 in
      let next = entry_end_at count s r f.1 at (entries_bytes es ++ rest) o t f.2 f.3 e1 in
      let others = entries_value es a.1 (at + length l) rest (drop_on s at (length l) l (entries_bytes es ++ rest) e1 refl) in
      record {
        worth = rw (tag, reduction_read r o (omega (arith, f.1)), rows, worth_reduced r n G o t, next, others.worth) refl;
        end = ap (entries_end (length es) s) next ∙ others.end
            ∙ (let z : at + length l + length (entries_bytes es) ≡ at + length (l ++ entries_bytes es) =
            omega (arith, length-append l (entries_bytes es)) in z);
      }

module _ (n : ℕ) (F : ℕ → List Row) (G : ℕ → List Value) (version : ℕ) (cs : List PathReduction) (listed : All (Listed version) cs)
    (agrees : Agrees n (length cs) F G) where
  abbrev text : Body → List ℕ
  text b = encode (record { version = version; paths = cs; body = b })

  -- the entry count stands behind the path reductions
  count_is : (b : Body) → count_at (encode (record { version = version; paths = cs; body = b })) ≡ 7 + length (all_listed_bytes version cs)
  unfolding count_at
  count_is b = chains_there (text b) version cs listed 7 (body_bytes b) refl

  body_there : (b : Body) → drop (count_at (text b)) (encode (record { version = version; paths = cs; body = b })) ≡ body_bytes b
  body_there b =
      let l = all_listed_bytes version cs in
      ap (λ (i : ℕ). drop i (text b)) (count_is b) ∙ drop_on (text b) 7 (length l) l (body_bytes b) refl refl

  -- "Kind 0 has e = 1": the rows of the one entry
  each_value : (t : Term ℕ) → Expression (length cs) t
      → values (body_found (encode (record { version = version; paths = cs; body = each_vertex t })) F n) ≡ at_vertices G n t
  unfolding body_found
  each_value t legal =
      let s : List ℕ = text (each_vertex t) in
      let l : List ℕ = entry_text 0 none t in
      let at = count_at s in
      entry_rows_value n (length cs) F G agrees s 0 (omega arith) none t tt legal (at + 1) []
      (drop_on s at 1 (1 ∷ []) l (body_there (each_vertex t)) refl ∙ sym (append-nil l))

  -- kind 1: the final expression over the results of the entries; "e from 0 to 8" is not cut
  one_value : (es : List (VertexReduction ℕ)) (t : Term ℕ) → length es ≤ 8 → All (EntryLegal (length cs)) es → Expression (length es) t
      → values (body_found (encode (record { version = version; paths = cs; body = one_result es t })) F n)
      ≡ evaluate (map (reduced G n) es) t ∷ []
  unfolding body_found final_found
  one_value es t few a legal =
      let s : List ℕ = text (one_result es t) in
      let l : List ℕ = expression_bytes OfFinal t in
      let vs : List Value = map (reduced G n) es in
      let at = count_at s in
      let there = body_there (one_result es t) in
      let count : min (get_or s at 0) 8 ≡ length es = omega (arith, tag_there s at (length es) (entries_bytes es ++ l) there) in
      let d1 = drop_on s at 1 (length es ∷ []) (entries_bytes es ++ l) there refl in
      let E = entries_value n (length cs) F G agrees s es a (at + 1) l d1 in
      let d2 = drop_on s (at + 1) (length (entries_bytes es)) (entries_bytes es) l d1 refl ∙ sym (append-nil l) in
      let found = final_value (length es) s (eight vs) t legal (at + 1 + length (entries_bytes es)) [] d2 in
      let same = evaluate_same (length es) (values (eight vs)) vs (λ i h. eight_holds vs i (omega (arith, length-map es (reduced G n)))) t legal.0 in
      ap (λ (v : Value). v ∷ [])
      (ap (λ (e : ℕ). (evaluated 16 s (eight (results e s (at + 1) F n)) (entries_end e s (at + 1))).value) count
      ∙ ap₂ (λ (ws : List Value) (i : ℕ). (evaluated 16 s (eight ws) i).value) E.worth E.end
      ∙ ap (λ (f : Found). f.value) found
      ∙ same)

-- THE ROWS OF THE BODY: where F gives the values G of the plan's path reductions at each vertex
pub body_value : (p : Plan) → PlanLegal 256 p → (n : ℕ) (F : ℕ → List Row) (G : ℕ → List Value) → Agrees n (length p.paths) F G
    → values (body_found (encode p) F n) ≡ body_rows p.body G n
body_value p legal n F G agrees = go p.body legal.body_legal
  where
    go : (b : Body) → BodyLegal (length p.paths) b
        → values (body_found (encode (record { version = p.version; paths = p.paths; body = b })) F n) ≡ body_rows b G n
    go (each_vertex t) l = each_value n F G p.version p.paths (all_listed p legal) agrees t l
    go (one_result es t) l = one_value n F G p.version p.paths (all_listed p legal) agrees es t l.0 l.1 l.2
