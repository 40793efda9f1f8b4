-- THE READER OF PLANS ACCEPTS WHAT DOCUMENT 01 LAYS DOWN, WITH REQUESTS A AND B OF DOCUMENT 02, AND THAT ONLY. Assumes nothing.
use Prim.Native.Nat.{ℕ, zero, suc, ◌+◌, ◌≤◌, ◌<◌}
use mathlib.Core.Path.{◌≡◌, refl, sym, ap, ap₂, ◌∙◌, subst}
use mathlib.Core.Bool.{Bool, true, false, cond}
use mathlib.Core.List.{List, [], ◌∷◌, ◌++◌, append_assoc, append-nil}
use native.Mathlib.Omega.{arith}
use borrow.Author.Tests.{ltb-false, leb-false, eqb-true, eqb-false, le-ltb, lt-leb, eq-eqb}
use lib.Dec.{leb, ltb, eqb}
use lib.ListN.{length, get_or, drop, length-append, length-drop}
use Rattle.meaning.specs.Limits.{BodyLegal, Expression, PlanLegal, entry_terms, plan_terms, terms}
use Rattle.meaning.specs.Plan.{Body, Plan, each_vertex, one_result}
use Rattle.meaning.specs.Query.{PathReduction}
use Rattle.meaning.proofs.Lists.{all_weaken}
use Rattle.fields.specs.Fields.{opening_code}
use Rattle.fields.proofs.Opening.{opening_found}
use Rattle.progress.specs.Progress.{Scan}
use Rattle.terms.specs.declared.TermKind.TheVariants.{OfEntry, OfFinal}
use Rattle.terms.specs.Terms.{leaf_step, literal_tag, read}
use Rattle.progress.specs.Progress.{blank, ended, started}
use Rattle.term_text.specs.Text.{expression_bytes}
use Rattle.term_text.proofs.Ends.{ended_code, ended_whole, no_rest, started_table}
use Rattle.terms.proofs.Laws.{accepted_as, read_accepted}
use Rattle.term_text.proofs.Fields.{drop_at, nth, present}
use Rattle.term_text.proofs.Steps.{drop_on, there}
use Rattle.term_text.proofs.Table.{Further, Table}
use Rattle.wire.specs.Header.{header_bytes, header_code}
use Rattle.wire.specs.Wire.{Bytes}
use Rattle.wire.proofs.Header.{header_accepted, header_found, header_version}
use Rattle.plan.proofs.Laws.{body_handed}
use Rattle.plan.specs.Plan.{body_scan, count_code, entries_scan, entry_scan, final_scan, moved, plan_code, plan_scan, listed_scan}
use Rattle.plan.specs.Text.{all_listed_bytes, body_bytes, encode, entries_bytes, entry_count, kind_of, reduction_byte}
use Rattle.plan.proofs.ListedEntries.{Passed, entries_complete, entries_sound, entry_complete, entry_sound, expr_complete, expr_sound, moved_table}
use Rattle.plan.proofs.ListedEntries.{plain_bytes, plain_entry}
use Rattle.plan.proofs.ListedPaths.{ListedHeld, all_listed, filler_zero, listed_complete, listed_sound}

-- what the reader knows of an accepted plan: its path reductions in the table, its terms and its entries
pub record Scanned (w : Scan) (p : Plan) : Type 0 where
  pub accepted : w.code ≡ 0
  pub terms : w.terms ≡ plan_terms p.body
  pub reductions : w.reductions ≡ entry_count p.body
  pub table : Table w p.paths

abbrev reductions_of : Scan → ℕ
reductions_of w = w.reductions

module _ (s : List ℕ) where
  -- a body whose entry count is right: its entries, and the final expression
  body_scanned : (kind e : ℕ) (w : Scan) → w.code ≡ 0 → w.at < length s → get_or s w.at 256 ≡ e → count_code kind e ≡ 0
      → body_scan kind s w ≡ final_scan kind s (entries_scan e kind s (moved w (w.at + 1) w.reductions))
  unfolding body_scan
  body_scanned kind e w z h b c = rw (eq-eqb w.code 0 z, b, c, lt-leb (length s) w.at h) refl

  count_one : (e : ℕ) → e ≤ 8 → count_code 1 e ≡ 0
  count_one e h = rw (le-ltb 255 e (omega arith), le-ltb 8 e h) refl

  -- from the entry count on
  body_complete : (b : Body) (w : Scan) (cs : List PathReduction) (rest : List ℕ) → w.code ≡ 0 → Table w cs → w.terms ≡ 0
      → w.reductions ≡ 0
      → drop w.at s ≡ body_bytes b ++ rest
      → BodyLegal (length cs) b → plan_terms b ≤ 64 → Further w (body_scan (kind_of b) s w) cs (length (body_bytes b)) (plan_terms b) (entry_count b)
  unfolding moved final_scan entries_scan leaf_step literal_tag
  body_complete (each_vertex t) w cs rest z tb n none e l k =
      let h = there s w.at 1 (0 ∷ (expression_bytes OfEntry t ++ rest)) e in
      let b : get_or s w.at 256 ≡ 1 = rw (nth s w.at 0 w.at 256 (omega arith), e) refl in
      let w1 : Scan = moved w (w.at + 1) w.reductions in
      let next = drop_on s w.at 1 (1 ∷ []) (0 ∷ (expression_bytes OfEntry t ++ rest)) e refl in
      let a =
      entry_complete s 0 (plain_entry t) w1 cs rest z (moved_table w cs (w.at + 1) w.reductions tb tb.few_reductions) refl next
      (record { low = omega arith; condition = tt; body = l; terms = omega arith }) (omega arith) in
      let reads : body_scan 0 s w ≡ entry_scan 0 s w1 = body_scanned 0 1 w z h b refl ∙ rw (eq-eqb w.code 0 z) refl in
      subst (λ (v : Scan). Further w v cs (length (body_bytes (each_vertex t))) (terms t) 1) (sym reads)
      (record { code = a.code; at = omega (arith, a.at); terms = omega (arith, a.terms); reductions = omega (arith, a.reductions); table = a.table })
  body_complete (one_result es t) w cs rest z tb n none e l k =
      let c = length es in
      let e0 : drop w.at s ≡ length es ∷ (entries_bytes es ++ (expression_bytes OfFinal t ++ rest)) =
      e ∙ ap (λ (x : List ℕ). length es ∷ x) (append_assoc (entries_bytes es) (expression_bytes OfFinal t) rest) in
      let h = there s w.at c (entries_bytes es ++ (expression_bytes OfFinal t ++ rest)) e0 in
      let b : get_or s w.at 256 ≡ c = rw (nth s w.at 0 w.at 256 (omega arith), e0) refl in
      let w1 : Scan = moved w (w.at + 1) w.reductions in
      let next = drop_on s w.at 1 (c ∷ []) (entries_bytes es ++ (expression_bytes OfFinal t ++ rest)) e0 refl in
      let a = entries_complete s es w1 cs (expression_bytes OfFinal t ++ rest) z (moved_table w cs (w.at + 1) w.reductions tb tb.few_reductions)
      l.1 next (omega arith) (omega (arith, l.0)) in
      let w2 : Scan = entries_scan c 1 s w1 in
      let met : w2.reductions ≡ length es = omega (arith, a.reductions) in
      let e2 : drop w2.at s ≡ expression_bytes OfFinal t ++ rest =
      ap (λ (i : ℕ). drop i s) a.at ∙ drop_on s (w.at + 1) (length (entries_bytes es)) (entries_bytes es) (expression_bytes OfFinal t ++ rest) next
      refl in
      let d = expr_complete s OfFinal reductions_of (λ w w' p q. q) (λ w. refl) (λ tag w p. rw p refl) refl refl t w2 cs rest a.code a.table
      (omega (arith, l.0)) e2 (subst (λ (m : ℕ). Expression m t) (sym met) l.2) (omega (arith, a.terms)) in
      let reads : body_scan 1 s w ≡ read OfFinal 16 s w2 = body_scanned 1 c w z h b (count_one c l.0) in
      subst (λ (v : Scan). Further w v cs (length (body_bytes (one_result es t))) (plan_terms (one_result es t)) (length es)) (sym reads)
      (record {
        code = d.code;
        at = omega (arith, d.at, a.at, length-append (entries_bytes es) (expression_bytes OfFinal t));
        terms = omega (arith, d.terms, a.terms);
        reductions = omega (arith, d.reductions);
        table = d.table;
      })

-- the whole
plan_scanned : (s : List ℕ) (kind count : ℕ) → header_code 0x57 2 5 s ≡ 0 → get_or s 5 256 ≡ kind → kind ≤ 1 → get_or s 6 256 ≡ count
    → count ≤ 8
    → plan_scan s ≡ ended s (body_scan kind s (listed_scan count (get_or s 3 0) s (started 7)))
unfolding plan_scan
plan_scanned s kind count h k l c m = rw (h, k, le-ltb 255 kind (omega arith), le-ltb 1 kind l, c, le-ltb 255 count (omega arith), le-ltb 8 count m) refl

kind_small : (b : Body) → kind_of b ≤ 1
kind_small (each_vertex t) = omega arith
kind_small (one_result es t) = omega arith

-- THE ENCODING OF EVERY LEGAL PLAN IS ACCEPTED AND READ AS IT
pub read_complete : (p : Plan) → PlanLegal 256 p → Scanned (plan_scan (encode p)) p
unfolding started
read_complete p l =
    let s : List ℕ = encode p in
    let n = length p.paths in
    let v = p.version in
    let a = listed_complete s v p.paths (started 7) [] (body_bytes p.body) refl (started_table 7) (all_listed p l) refl (omega (arith, l.few_paths)) in
    let w1 : Scan = listed_scan n v s (started 7) in
    let e1 : drop w1.at s ≡ body_bytes p.body ++ [] =
    ap (λ (i : ℕ). drop i s) a.at
    ∙ drop_on s 7 (length (all_listed_bytes v p.paths)) (all_listed_bytes v p.paths) (body_bytes p.body) refl refl
    ∙ sym (append-nil (body_bytes p.body)) in
    let b = body_complete s p.body w1 p.paths [] a.code a.table a.terms a.reductions e1 l.body_legal l.few_terms in
    let len = length-append (all_listed_bytes v p.paths) (body_bytes p.body) in
    let whole =
    plan_scanned s (kind_of p.body) n
    (header_accepted 0x57 2 5 v (kind_of p.body ∷ n ∷ (all_listed_bytes v p.paths ++ body_bytes p.body)) l.known_version.0
    l.known_version.1 (omega arith))
    refl (kind_small p.body) refl l.few_paths
    ∙ ended_whole s (body_scan (kind_of p.body) s w1) (omega (arith, b.at, a.at)) in
    subst (λ (w : Scan). Scanned w p) (sym whole) (record { accepted = b.code; terms = b.terms; reductions = b.reductions; table = b.table })

-- what an accepted text is: header, kind, count, and the rest read to its end
accepted_parts : (s : List ℕ) → plan_code s ≡ 0
    → (header_code 0x57 2 5 s ≡ 0) × (get_or s 5 256 ≤ 1) × (get_or s 6 256 ≤ 8)
    × ((ended s (body_scan (get_or s 5 256) s (listed_scan (get_or s 6 256) (get_or s 3 0) s (started 7)))).code ≡ 0)
unfolding plan_scan blank
accepted_parts s e = go (eqb (opening_code 0x57 2 s) 0) (ltb 255 (get_or s 6 256)) (ltb 8 (get_or s 6 256)) refl refl refl e
  where
    go : (a b c : Bool) → eqb (opening_code 0x57 2 s) 0 ≡ a → ltb 255 (get_or s 6 256) ≡ b → ltb 8 (get_or s 6 256) ≡ c
        → (cond a (cond b (blank 1) (cond c (blank 14) (ended s (body_scan (get_or s 5 256) s (listed_scan (get_or s 6 256) (get_or s 3 0) s (started 7))))))
        (blank (opening_code 0x57 2 s))).code ≡ 0
        → (header_code 0x57 2 5 s ≡ 0) × (get_or s 5 256 ≤ 1) × (get_or s 6 256 ≤ 8)
        × ((ended s (body_scan (get_or s 5 256) s (listed_scan (get_or s 6 256) (get_or s 3 0) s (started 7)))).code ≡ 0)
    go false b c p q r z = absurd (eqb-false (opening_code 0x57 2 s) 0 p z)
    go true true c p q r z = absurd (omega arith)
    go true false true p q r z = absurd (omega arith)
    go true false false p q r z = let f = opening_found 0x57 2 s (eqb-true (opening_code 0x57 2 s) 0 p) in (f.0, f.1, ltb-false 8 (get_or s 6 256) r, z)

body_accepted : (kind : ℕ) (s : List ℕ) (w : Scan) → (body_scan kind s w).code ≡ 0 → w.code ≡ 0
body_accepted kind s w e = go (eqb w.code 0) refl
  where
    go : (b : Bool) → eqb w.code 0 ≡ b → w.code ≡ 0
    go true p = eqb-true w.code 0 p
    go false p = let n = eqb-false w.code 0 p in accepted_as (body_handed kind s w n) e

-- the entry count and what follows it, of an accepted text
module _ (s : List ℕ) (bytes : Bytes s) where
  -- a legal body whose bytes stand next
  abbrev BodyFound : ℕ → Scan → List PathReduction → Type 0
  BodyFound kind w cs =
      (b : Body) × (rest : List ℕ) × (kind_of b ≡ kind) × (drop w.at s ≡ body_bytes b ++ rest) × BodyLegal (length cs) b × (plan_terms b ≤ 64)

  body_starts : (kind : ℕ) (w : Scan) → w.code ≡ 0 → (body_scan kind s w).code ≡ 0
      → (w.at < length s) × (count_code kind (get_or s w.at 256) ≡ 0)
      × ((final_scan kind s (entries_scan (get_or s w.at 256) kind s (moved w (w.at + 1) w.reductions))).code ≡ 0)
  unfolding body_scan blank
  body_starts kind w z e = go (eqb (count_code kind (get_or s w.at 256)) 0) (leb (length s) w.at) refl refl (rw (eq-eqb w.code 0 z) at e)
    where
      go : (a b : Bool) → eqb (count_code kind (get_or s w.at 256)) 0 ≡ a → leb (length s) w.at ≡ b
          → (cond a (cond b (blank 1) (final_scan kind s (entries_scan (get_or s w.at 256) kind s (moved w (w.at + 1) w.reductions))))
          (blank (count_code kind (get_or s w.at 256)))).code ≡ 0
          → (w.at < length s) × (count_code kind (get_or s w.at 256) ≡ 0)
          × ((final_scan kind s (entries_scan (get_or s w.at 256) kind s (moved w (w.at + 1) w.reductions))).code ≡ 0)
      go false b p q x = absurd (eqb-false (count_code kind (get_or s w.at 256)) 0 p x)
      go true true p q x = absurd (omega arith)
      go true false p q x = (leb-false (length s) w.at q, eqb-true (count_code kind (get_or s w.at 256)) 0 p, x)

  -- the entry count of kind 0 is 1, of kind 1 at most 8
  count_zero : (b : ℕ) → count_code 0 b ≡ 0 → b ≡ 1
  count_zero b e = go (ltb 255 b) (eqb b 1) refl e
    where
      go : (x y : Bool) → eqb b 1 ≡ y → ◌≡◌ {A = ℕ} (cond x 1 (cond y 0 9)) 0 → b ≡ 1
      go true y p z = absurd (omega arith)
      go false true p z = eqb-true b 1 p
      go false false p z = absurd (omega arith)

  count_few : (b : ℕ) → count_code 1 b ≡ 0 → b ≤ 8
  count_few b e = go (ltb 255 b) (ltb 8 b) refl e
    where
      go : (x y : Bool) → ltb 8 b ≡ y → ◌≡◌ {A = ℕ} (cond x 1 (cond y 14 0)) 0 → b ≤ 8
      go true y p z = absurd (omega arith)
      go false true p z = absurd (omega arith)
      go false false p z = ltb-false 8 b p

  body_sound : (kind : ℕ) (w : Scan) (cs : List PathReduction) → kind ≤ 1 → w.code ≡ 0 → Table w cs → w.terms ≡ 0 → w.reductions ≡ 0
      → (body_scan kind s w).code ≡ 0 → BodyFound kind w cs
  unfolding moved final_scan entries_scan leaf_step literal_tag
  body_sound zero w cs k z tb n none e =
      let p = body_starts 0 w z e in
      let one = count_zero (get_or s w.at 256) p.1 in
      let w1 : Scan = moved w (w.at + 1) w.reductions in
      let r : (entry_scan 0 s w1).code ≡ 0 = rw (eq-eqb w.code 0 z) at (rw one at p.2) in
      let f = entry_sound s bytes 0 w1 cs z (moved_table w cs (w.at + 1) w.reductions tb tb.few_reductions) r in
      let d = f.0 in
      let byte = filler_zero (reduction_byte d.reduction d.condition) f.2 in (
        each_vertex d.body,
        f.1,
        refl,
        drop_at s w.at p.0
            ∙ ap₂ (λ (x : ℕ) (l : List ℕ). x ∷ l) one (f.3 ∙ ap (λ (l : List ℕ). l ++ f.1) (plain_bytes d byte)),
        f.4.body,
        omega (arith, f.4.terms),
      )
  body_sound (suc zero) w cs k z tb n none e =
      let p = body_starts 1 w z e in
      let c = get_or s w.at 256 in
      let few = count_few c p.1 in
      let w1 : Scan = moved w (w.at + 1) w.reductions in
      let w2 : Scan = entries_scan c 1 s w1 in
      let two = read_accepted OfFinal 16 s w2 p.2 in
      let t1 = moved_table w cs (w.at + 1) w.reductions tb tb.few_reductions in
      let f = entries_sound s bytes c w1 cs z t1 (omega arith) two in
      let reads : entries_scan (length f.0) 1 s w1 ≡ w2 = ap (λ (m : ℕ). entries_scan m 1 s w1) f.2 in
      let a = subst (λ (v : Scan). Passed w1 v cs (length (entries_bytes f.0)) (entry_terms f.0) (length f.0)) reads
      (entries_complete s f.0 w1 cs f.1 z t1 f.3 f.4 f.5 f.6) in
      let met : w2.reductions ≡ length f.0 = omega (arith, a.reductions) in
      let g = expr_sound s OfFinal reductions_of (λ w w' p q. q) (λ w. refl) (λ tag w p. rw p refl) refl refl bytes w2 cs two a.table
      (omega (arith, f.6)) p.2 in
      let rest : f.1 ≡ expression_bytes OfFinal g.0 ++ g.1 =
      sym (ap (λ (i : ℕ). drop i s) a.at ∙ drop_on s (w.at + 1) (length (entries_bytes f.0)) (entries_bytes f.0) f.1 f.4 refl) ∙ g.2
      in (
        one_result f.0 g.0,
        g.1,
        refl,
        drop_at s w.at p.0
            ∙ ap₂ (λ (x : ℕ) (l : List ℕ). x ∷ l) (sym f.2)
            (f.4 ∙ ap (λ (l : List ℕ). entries_bytes f.0 ++ l) rest
            ∙ sym (append_assoc (entries_bytes f.0) (expression_bytes OfFinal g.0) g.1)),
        (omega (arith, f.2), f.3, subst (λ (m : ℕ). Expression m g.0) met g.3),
        omega (arith, g.4, a.terms),
      )
  body_sound (suc (suc kind)) w cs k z tb n none e = absurd (omega arith)

-- ACCEPTED BYTES ARE THE ENCODING OF A LEGAL PLAN
pub read_sound : (s : List ℕ) → Bytes s → plan_code s ≡ 0 → (p : Plan) × PlanLegal 256 p × (encode p ≡ s)
unfolding started
read_sound s bytes e =
    let p = accepted_parts s e in
    let kind = get_or s 5 256 in
    let count = get_or s 6 256 in
    let w1 : Scan = listed_scan (get_or s 6 256) (get_or s 3 0) s (started 7) in
    let z = ended_code s (body_scan kind s w1) p.3 in
    let ok = body_accepted kind s w1 z.0 in
    let v = get_or s 3 0 in
    let known = header_version 0x57 2 5 s p.0 (omega arith) in
    let f = listed_sound s v bytes known.0 count (started 7) [] refl (started_table 7) (omega (arith, p.2)) ok in
    let reads : listed_scan (length f.0) v s (started 7) ≡ w1 = ap (λ (m : ℕ). listed_scan m v s (started 7)) f.2 in
    let a = subst (λ (w : Scan). ListedHeld (started 7) w f.0 (length (all_listed_bytes v f.0))) reads
    (listed_complete s v f.0 (started 7) [] f.1 refl (started_table 7) f.3 f.4 (omega (arith, p.2, f.2))) in
    let b = body_sound s bytes kind w1 f.0 p.1 ok a.table a.terms a.reductions z.0 in
    let c = subst (λ (k : ℕ). Further w1 (body_scan k s w1) f.0 (length (body_bytes b.0)) (plan_terms b.0) (entry_count b.0)) b.2
    (body_complete s b.0 w1 f.0 b.1 ok a.table a.terms a.reductions b.3 b.4 b.5) in
    let rest : f.1 ≡ body_bytes b.0 ++ b.1 =
    sym (ap (λ (i : ℕ). drop i s) a.at ∙ drop_on s 7 (length (all_listed_bytes v f.0)) (all_listed_bytes v f.0) f.1 f.4 refl) ∙ b.3 in
    let len = length-append (all_listed_bytes v f.0) f.1 in
    let len2 = length-append (body_bytes b.0) b.1 in
    let none : b.1 ≡ [] = no_rest b.1 (omega (arith, length-drop 7 s, ap length f.4, ap length rest, z.1, c.at, a.at)) in (
      record { version = v; paths = f.0; body = b.0 },
      record {
        known_version = known;
        paths_held = all_weaken f.0 (λ c l. l.1) f.3;
        few_paths = omega (arith, f.2, p.2);
        paths_legal = all_weaken f.0 (λ c l. l.0) f.3;
        body_legal = b.4;
        few_terms = b.5;
      },
      sym (header_found 0x57 2 5 s p.0 (omega arith)
          ∙ ap (λ (t : List ℕ). header_bytes 0x57 v ++ t) (drop_at s 5 (present s 5 (omega (arith, p.1)))
          ∙ ap₂ (λ (x : ℕ) (t : List ℕ). x ∷ t) (sym b.2) (drop_at s 6 (present s 6 (omega (arith, p.2)))
          ∙ ap₂ (λ (x : ℕ) (t : List ℕ). x ∷ t) (sym f.2) (f.4
          ∙ ap (λ (t : List ℕ). all_listed_bytes v f.0 ++ t) (rest ∙ ap (λ (t : List ℕ). body_bytes b.0 ++ t) none
          ∙ append-nil (body_bytes b.0)))))),
    )
