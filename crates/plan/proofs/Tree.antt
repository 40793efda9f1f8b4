-- THE ENCODING OF A LEGAL PLAN GIVES BACK THE PLAN, AND ACCEPTED BYTES ARE THE ENCODING OF THE PLAN THAT THEY GIVE. Assumes nothing.
use Prim.Native.Nat.{ℕ, suc, ◌+◌, ◌-◌, ◌*◌, ◌≤◌, ◌<◌}
use mathlib.Core.Path.{◌≡◌, refl, sym, ap, ◌∙◌}
use mathlib.Core.Bool.{Bool, true, false, cond}
use mathlib.Core.List.{List, [], ◌∷◌, ◌++◌, append_assoc, append-nil}
use mathlib.Core.Option.{Option, none, some}
use native.Mathlib.Omega.{arith}
use borrow.Author.Tests.{eqb-true, le-leb, lt-leb}
use lib.Dec.{leb, eqb, leb→le}
use lib.ListN.{length, get_or, take, drop, length-append}
use Rattle.meaning.specs.Limits.{BodyLegal, EntryLegal, Expression, Optional, PlanLegal}
use Rattle.meaning.specs.Plan.{Body, Plan, Term, VertexReduction, each_vertex, one_result}
use Rattle.meaning.specs.Query.{PathReduction}
use Rattle.packed_path.proofs.Keys.{legal_parts}
use Rattle.terms.specs.Terms.{literal_tag}
use Rattle.terms.specs.declared.TermKind.TheVariants.{OfEntry, OfFinal}
use Rattle.term_text.specs.Text.{expression_bytes, start_of, starts_bytes}
use Rattle.term_text.specs.Tree.{Read, expression_of, one_start, starts_of}
use Rattle.term_text.proofs.Fields.{nth}
use Rattle.term_text.proofs.Sources.{Single, start_back, start_small, starts_back, starts_size}
use Rattle.term_text.proofs.Steps.{drop_on, tag_there}
use Rattle.term_text.proofs.Tree.{Back, expression_back, given, seen, several_back, whole}
use Rattle.wire.specs.Wire.{Bytes, at16, le16}
use Rattle.plan.specs.Plan.{count_at, plan_code}
use Rattle.plan.specs.Text.{all_listed_bytes, body_bytes, encode, entries_bytes, entry_bytes, kind_of, listed_bytes, listed_starts}
use Rattle.plan.specs.Tree.{body_of, entry_of, listed_path, plan_of}
use Rattle.plan.proofs.Exact.{read_complete, read_sound}
use Rattle.plan.proofs.ListedPaths.{Listed, all_listed, chains_there}

-- a path reduction: of its three key bytes as many are keys as it has, and its starts are read as its version has them
module _ (version : ℕ) (s : List ℕ) where
  path_by : (i : ℕ)
      → let keys = take (get_or s i 0) (drop (i + 1) s) in
      let k = get_or s (i + 4) 0 in
      listed_path version s i
      ≡ cond (eqb version 1) (whole (record { keys = keys; sources = one_start (at16 s (i + 4)) }) (i + 6))
      (whole (record { keys = keys; sources = starts_of k s (i + 5) }) (i + 5 + 2 * k))
  unfolding listed_path
  path_by i = go _ _ (eqb version 1)
    where
      go : (a b : Read PathReduction) (t : Bool) → elim t [ true ↦ a | false ↦ b ] ≡ cond t a b
      go a b true = refl
      go a b false = refl

  keys : (ks : List ℕ) → length ks ≤ 3 → (l : List ℕ) → take (length ks) (get_or ks 0 0 ∷ get_or ks 1 0 ∷ get_or ks 2 0 ∷ l) ≡ ks
  keys [] h l = refl
  keys (x ∷ []) h l = refl
  keys (x ∷ (y ∷ [])) h l = refl
  keys (x ∷ (y ∷ (z ∷ []))) h l = refl
  keys (x ∷ (y ∷ (z ∷ (w ∷ ks)))) h l = absurd (omega arith)

  path_back : (c : PathReduction) → Listed version c → Back (listed_path version) (listed_bytes version) s c
  path_back c f at rest e =
      let p = legal_parts c.keys f.0.0 in
      let ks = get_or c.keys 0 0 ∷ get_or c.keys 1 0 ∷ get_or c.keys 2 0 ∷ [] in
      let l = listed_starts version c.sources in
      let d = drop_on s at 1 (length c.keys ∷ []) (ks ++ (l ++ rest)) e refl in
      let same = keys c.keys (leb→le (length c.keys) 3 p.1) (l ++ rest) in
      let behind = drop_on s at 4 (length c.keys ∷ ks) (l ++ rest) e refl in
      path_by at ∙ rw (tag_there s at (length c.keys) (ks ++ (l ++ rest)) e, d, same) (starts (eqb version 1) refl behind)
    where
      starts : (b : Bool) → eqb version 1 ≡ b
          → drop (at + 4) s ≡ cond b (le16 (start_of c.sources)) (length c.sources ∷ starts_bytes c.sources) ++ rest
          → cond b (whole (record { keys = c.keys; sources = one_start (at16 s (at + 4)) }) (at + 6))
          (whole (record { keys = c.keys; sources = starts_of (get_or s (at + 4) 0) s (at + 5) }) (at + 5 + 2 * get_or s (at + 4) 0))
          ≡ whole c
          (at + suc (suc (suc (suc (length (cond b (le16 (start_of c.sources)) (length c.sources ∷ starts_bytes c.sources)))))))
      starts true p d =
          let one : Single c.sources = (f.0.1, f.1 (let v = eqb-true version 1 p in omega arith)) in
          let source : at16 s (at + 4) ≡ start_of c.sources =
          rw (nth s (at + 4) 0 (at + 4) 0 (omega arith), nth s (at + 4) 1 (at + 4 + 1) 0 refl, d) (omega (arith, start_small c.sources one)) in
          rw (source, start_back c.sources one) refl
      starts false p d =
          let k = length c.sources in
          let d1 : drop (at + 5) s ≡ starts_bytes c.sources ++ rest =
          ap (λ (j : ℕ). drop j s) (let z : at + 5 ≡ at + 4 + 1 = omega arith in z)
          ∙ drop_on s (at + 4) 1 (k ∷ []) (starts_bytes c.sources ++ rest) d refl in
          let end : at + 5 + 2 * k ≡ at + suc (suc (suc (suc (suc (length (starts_bytes c.sources)))))) = omega (arith, starts_size c.sources) in
          rw (tag_there s (at + 4) k (starts_bytes c.sources ++ rest) d, starts_back s c.sources (at + 5) rest d1 f.0.1.0, end) refl

module _ (count : ℕ) (s : List ℕ) where
  -- the expression of an entry, and the final one
  entry_term_back : (t : Term ℕ) → Expression count t → Back (expression_of 0x11) (expression_bytes OfEntry) s t
  unfolding literal_tag
  entry_term_back t l = expression_back OfEntry 0x11 count refl refl refl s t l.0 l.1

  final_back : (t : Term ℕ) → Expression count t → Back (expression_of 0x21) (expression_bytes OfFinal) s t
  unfolding literal_tag
  final_back t l = expression_back OfFinal 0x21 count refl refl refl s t l.0 l.1

  -- an entry, by whether 128 is added to its reduction byte b
  abbrev without : (b : ℕ) → Read (Term ℕ) → Read (VertexReduction ℕ)
  without b t = whole (record { reduction = b; condition = none; body = t.tree }) t.end

  abbrev with_condition : (b : ℕ) → Read (Term ℕ) → Read (VertexReduction ℕ)
  with_condition b t =
      let u = expression_of 0x11 s t.end in whole (record { reduction = b - 128; condition = some t.tree; body = u.tree }) u.end

  entry_by : (i : ℕ)
      → let b = get_or s i 0 in let t = expression_of 0x11 s (i + 1) in entry_of s i ≡ cond (leb 128 b) (with_condition b t) (without b t)
  unfolding entry_of
  entry_by i = go (leb 128 (get_or s i 0)) (get_or s i 0) (expression_of 0x11 s (i + 1))
    where
      go : (x : Bool) (b : ℕ) (t : Read (Term ℕ))
          → elim x [ true ↦ with_condition b t | false ↦ without b t ] ≡ cond x (with_condition b t) (without b t)
      go true b t = refl
      go false b t = refl

  -- its bytes give it back
  parts_back : (r : ℕ) (o : Option (Term ℕ)) (t : Term ℕ) → r < 128 → Optional (Expression count) o → Expression count t
      → Back entry_of entry_bytes s (record { reduction = r; condition = o; body = t })
  parts_back r none t low x y at rest d =
      let b = expression_bytes OfEntry t in
      let d1 = drop_on s at 1 (r ∷ []) (b ++ rest) d refl in
      let end : at + 1 + length b ≡ at + suc (length b) = omega arith in
      entry_by at ∙ rw (tag_there s at r (b ++ rest) d, lt-leb 128 r low, entry_term_back t y (at + 1) rest d1, end) refl
  parts_back r (some c) t low x y at rest d =
      let a = expression_bytes OfEntry c in
      let b = expression_bytes OfEntry t in
      let d1 = drop_on s at 1 ((128 + r) ∷ []) ((a ++ b) ++ rest) d refl ∙ append_assoc a b rest in
      let d2 = drop_on s (at + 1) (length a) a (b ++ rest) d1 refl in
      let less : 128 + r - 128 ≡ r = omega arith in
      let end : at + 1 + length a + length b ≡ at + suc (length (a ++ b)) = omega (arith, length-append a b) in
      entry_by at ∙ rw (
        tag_there s at (128 + r) ((a ++ b) ++ rest) d,
        le-leb 128 (128 + r) (omega arith),
        entry_term_back c x (at + 1) (b ++ rest) d1,
        entry_term_back t y (at + 1 + length a) rest d2,
        less,
        end,
      ) refl

  entry_back : (e : VertexReduction ℕ) → EntryLegal count e → Back entry_of entry_bytes s e
  entry_back e l = parts_back e.reduction e.condition e.body (omega (arith, l.1)) l.2 l.3

-- what stands from the entry count on
body_back : (count : ℕ) (s : List ℕ) (b : Body) → BodyLegal count b → (at : ℕ) → drop at s ≡ body_bytes b → body_of (kind_of b) s at ≡ b
unfolding body_of
body_back count s (each_vertex t) l at d =
    let d1 = drop_on s at 2 (1 ∷ 0 ∷ []) (expression_bytes OfEntry t) d refl ∙ sym (append-nil (expression_bytes OfEntry t)) in
    ap (λ (r : Read (Term ℕ)). each_vertex r.tree) (entry_term_back count s t l (at + 2) [] d1)
body_back count s (one_result es t) l at d =
    let n = length (entries_bytes es) in
    let d1 = drop_on s at 1 (length es ∷ []) (entries_bytes es ++ expression_bytes OfFinal t) d refl in
    let d2 = drop_on s (at + 1) n (entries_bytes es) (expression_bytes OfFinal t) d1 refl ∙ sym (append-nil (expression_bytes OfFinal t)) in
    let a = several_back entry_of entry_bytes (EntryLegal count) entries_bytes refl (λ e l. refl) s (entry_back count s) es l.1 (at + 1)
    (expression_bytes OfFinal t) d1 in
    rw (tag_there s at (length es) (entries_bytes es ++ expression_bytes OfFinal t) d, a, final_back (length es) s t l.2 (at + 1 + n) [] d2) refl

-- THE PLAN IS GIVEN BACK
pub plan_back : (p : Plan) → PlanLegal 256 p → plan_of (encode p) ≡ p
unfolding plan_of
plan_back p l =
    let s = encode p in
    let v = p.version in
    let n = length (all_listed_bytes v p.paths) in
    let a = several_back (listed_path v) (listed_bytes v) (Listed v) (all_listed_bytes v) refl (λ c cs. refl) s
    (path_back v s) p.paths (all_listed p l) 7 (body_bytes p.body) refl in
    let d = drop_on s 7 n (all_listed_bytes v p.paths) (body_bytes p.body) refl refl in
    rw (a, body_back (length p.paths) s p.body l.body_legal (7 + n) d) refl

-- where its body stands
pub body_there : (p : Plan) → PlanLegal 256 p → count_at (encode p) ≡ 7 + length (all_listed_bytes p.version p.paths)
unfolding count_at
body_there p l =
    chains_there (encode p) p.version p.paths (all_listed p l) 7 (body_bytes p.body) refl

-- so a plan is seen from its bytes: accepted bytes are read as one plan
pub encode_unique : (p q : Plan) → PlanLegal 256 p → PlanLegal 256 q → encode p ≡ encode q → p ≡ q
encode_unique = seen encode plan_of (PlanLegal 256) plan_back

-- THE READER ACCEPTS EVERY LEGAL PLAN'S BYTES
pub plan_accepted : (p : Plan) → PlanLegal 256 p → plan_code (encode p) ≡ 0
plan_accepted p l = (read_complete p l).accepted

-- WHAT ACCEPTED BYTES GIVE IS LEGAL, AND THEY ARE ITS ENCODING
pub plan_read : (s : List ℕ) → Bytes s → plan_code s ≡ 0 → PlanLegal 256 (plan_of s) × (encode (plan_of s) ≡ s)
plan_read s b z = given encode plan_of (PlanLegal 256) plan_back s (read_sound s b z)
