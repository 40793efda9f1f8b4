-- Expressions and entries of a plan are read exactly: their bytes are read as they, and what is read are their bytes. Assumes nothing.
use Prim.Native.Nat.{ℕ, zero, suc, ◌+◌, ◌-◌, ◌%◌, ◌≤◌, ◌<◌}
use mathlib.Core.Path.{◌≡◌, refl, sym, ap, ap₂, ◌∙◌, subst}
use mathlib.Core.Bool.{Bool, true, false, cond}
use mathlib.Core.List.{List, [], ◌∷◌, ◌++◌, append_assoc}
use mathlib.Core.Option.{Option, none, some}
use native.Mathlib.Omega.{arith}
use borrow.Author.Tests.{ltb-false, leb-true, leb-false, eqb-true, eqb-false, le-ltb, le-leb, lt-leb, eq-eqb}
use lib.Dec.{leb, ltb, eqb}
use lib.ListN.{length, get_or, drop, length-append}
use Rattle.meaning.specs.Limits.{EntryLegal, Expression, Optional, condition_terms, entry_terms, terms}
use Rattle.meaning.specs.Plan.{Term, VertexReduction}
use Rattle.meaning.specs.Query.{PathReduction}
use Rattle.progress.specs.Progress.{Scan}
use Rattle.fields.specs.Fields.{code_of}
use Rattle.terms.specs.declared.TermKind.{TermKind}
use Rattle.terms.specs.declared.TermKind.TheVariants.{OfEntry}
use Rattle.terms.specs.Terms.{index_step, leaf_step, literal_tag, read, refused_step}
use Rattle.progress.specs.Progress.{blank}
use Rattle.terms.proofs.Laws.{accepted_as, read_accepted}
use Rattle.term_text.specs.Text.{expression_bytes, index_tag}
use Rattle.term_text.proofs.Exact.{expression_complete, expression_sound}
use Rattle.term_text.proofs.Fields.{code_range, code_zero, drop_at, nth}
use Rattle.term_text.proofs.Steps.{drop_on, there}
use Rattle.term_text.proofs.Table.{Further, Table}
use Rattle.walks.specs.Lists.{All}
use Rattle.wire.specs.Wire.{Bytes}
use Rattle.plan.proofs.Laws.{entries_handed}
use Rattle.plan.specs.Plan.{entries_scan, entry_scan, expressions_scan, filler_code, moved, reduction_code}
use Rattle.plan.specs.Text.{condition_bytes, entries_bytes, entry_bytes, reduction_byte}
use Rattle.plan.proofs.ListedPaths.{filler_zero}

-- so many bytes, terms and entries further on, with the same path reductions
abbrev pub Passed : Scan → Scan → List PathReduction → ℕ → ℕ → ℕ → Type 0
Passed w w' cs n z e = Further w w' cs n (w.terms + z) (w.reductions + e)

-- an expression of an entry, or a final one: `held` is the count that its indices stay below
module _ (s : List ℕ) (m : TermKind) (held : Scan → ℕ) (kept : (w w' : Scan) → w'.paths ≡ w.paths → w'.reductions
    ≡ w.reductions → held w' ≡ held w)
    (is_index : (w : Scan) → leaf_step m (index_tag m) s w ≡ index_step s w (held w))
    (no_other : (tag : ℕ) (w : Scan) → eqb tag (index_tag m) ≡ false → leaf_step m tag s w ≡ refused_step 9)
    (no_literal : eqb (index_tag m) (literal_tag m) ≡ false) (no_operator : eqb (index_tag m) (literal_tag m + 1) ≡ false) where
  -- its bytes are read as it; and what is read are its bytes
  pub expr_complete : (t : Term ℕ) (w : Scan) (cs : List PathReduction) (rest : List ℕ) → w.code ≡ 0 → Table w cs → held w ≤ 256
      → drop w.at s ≡ expression_bytes m t ++ rest → Expression (held w) t → w.terms + terms t ≤ 64
      → Passed w (read m 16 s w) cs (length (expression_bytes m t)) (terms t) 0
  expr_complete t w cs rest z tb few e x l =
      expression_complete s m (held w) few held kept is_index no_other no_literal no_operator t 16 w cs rest z tb refl e
      (record { fine = x.0; shallow = x.1; terms = l; paths = tb.few; reductions = omega (arith, tb.few_reductions) })

  pub expr_sound : Bytes s → (w : Scan) (cs : List PathReduction) → w.code ≡ 0 → Table w cs → held w ≤ 256 → (read m 16 s w).code ≡ 0
      → (t : Term ℕ) × (rest : List ℕ) × (drop w.at s ≡ expression_bytes m t ++ rest) × Expression (held w) t × (w.terms + terms t ≤ 64)
  expr_sound bytes w cs z tb few e =
      let f = expression_sound s m (held w) few held kept is_index no_other no_literal no_operator bytes 16 w cs z tb refl e in
      let room = f.3 in
      (f.0, f.1, f.2, (room.fine, room.shallow), room.terms)

-- the state further on is as good
pub moved_table : (w : Scan) (cs : List PathReduction) (at n : ℕ) → Table w cs → n ≤ 8 → Table (moved w at n) cs
unfolding moved
moved_table w cs at n t h = record { legal = t.legal; count = t.count; few = t.few; rest = t.rest; holds = t.holds; size = t.size; few_reductions = h }

-- a reduction byte that is not refused is a byte
reduction_small : (kind b : ℕ) → reduction_code kind b ≡ 0 → b ≤ 255
reduction_small kind b e = go (eqb kind 0) (ltb 255 b) refl e
  where
    go : (x y : Bool) → ltb 255 b ≡ y → cond x (filler_code b) (cond y 1 (code_of (b % 128) 5)) ≡ 0 → b ≤ 255
    go true y p z = omega (arith, filler_zero b z)
    go false true p z = absurd (omega arith)
    go false false p z = ltb-false 255 b p

-- in kind 1 that is one of the five, with 128 added where there is a condition
pub reduction_read : (r : ℕ) (o : Option (Term ℕ)) → r < 128 → reduction_byte r o % 128 ≡ r
reduction_read r none h = omega arith
reduction_read r (some c) h = omega arith

reduction_byte_small : (r : ℕ) (o : Option (Term ℕ)) → r < 128 → reduction_byte r o ≤ 255
reduction_byte_small r none h = omega arith
reduction_byte_small r (some c) h = omega arith

reduction_zero : (r : ℕ) (o : Option (Term ℕ)) → 1 ≤ r → r ≤ 5 → reduction_code 1 (reduction_byte r o) ≡ 0
reduction_zero r o h k =
    rw (le-ltb 255 (reduction_byte r o) (reduction_byte_small r o (omega arith)), reduction_read r o (omega arith)) (code_zero r 5 h k (omega arith))

reduction_range : (r : ℕ) (o : Option (Term ℕ)) → r < 128 → reduction_code 1 (reduction_byte r o) ≡ 0 → (1 ≤ r) × (r ≤ 5)
reduction_range r o h e =
    let c : code_of r 5 ≡ 0 = rw (le-ltb 255 (reduction_byte r o) (reduction_byte_small r o h), reduction_read r o h) at e in
    let range = code_range r 5 c in
    (range.1, range.2)

-- an entry that may be read, after z terms, where there are `count` path reductions: one of kind 1, or kind 0's with byte 0 and no condition
pub record EntryFits (z count : ℕ) (d : VertexReduction ℕ) : Type 0 where
  pub low : d.reduction < 128
  pub condition : Optional (Expression count) d.condition
  pub body : Expression count d.body
  pub terms : z + (condition_terms d.condition + terms d.body) ≤ 64

-- what stands behind its reduction byte: its condition's expression, where there is one, and its value's
abbrev behind_byte : VertexReduction ℕ → List ℕ
behind_byte d = condition_bytes d.condition ++ expression_bytes OfEntry d.body

-- the entry of kind 0
abbrev pub plain_entry : Term ℕ → VertexReduction ℕ
plain_entry t = record { reduction = 0; condition = none; body = t }

-- an entry with byte 0 has no condition
pub plain_bytes : (d : VertexReduction ℕ) → reduction_byte d.reduction d.condition ≡ 0 → entry_bytes d ≡ entry_bytes (plain_entry d.body)
plain_bytes d e = go d.condition e
  where
    go : (o : Option (Term ℕ)) → reduction_byte d.reduction o ≡ 0
        → reduction_byte d.reduction o ∷ (condition_bytes o ++ expression_bytes OfEntry d.body) ≡ 0 ∷ expression_bytes OfEntry d.body
    go none e = ap (λ (b : ℕ). b ∷ expression_bytes OfEntry d.body) e
    go (some c) e = absurd (omega arith)

module _ (s : List ℕ) where
  abbrev paths_of : Scan → ℕ
  paths_of w = w.paths

  -- an expression of an entry
  term_complete : (t : Term ℕ) (w : Scan) (cs : List PathReduction) (rest : List ℕ) → w.code ≡ 0 → Table w cs
      → drop w.at s ≡ expression_bytes OfEntry t ++ rest → Expression (length cs) t → w.terms + terms t ≤ 64
      → Passed w (read OfEntry 16 s w) cs (length (expression_bytes OfEntry t)) (terms t) 0
  unfolding leaf_step literal_tag
  term_complete t w cs rest z tb e x l =
      expr_complete s OfEntry paths_of (λ w w' p q. p) (λ w. refl) (λ tag w p. rw p refl) refl refl t w cs rest z tb (omega (arith, tb.count, tb.few)) e
      (subst (λ (n : ℕ). Expression n t) (sym tb.count) x) l

  term_sound : Bytes s → (w : Scan) (cs : List PathReduction) → w.code ≡ 0 → Table w cs → (read OfEntry 16 s w).code ≡ 0
      → (t : Term ℕ) × (rest : List ℕ) × (drop w.at s ≡ expression_bytes OfEntry t ++ rest) × Expression (length cs) t
      × (w.terms + terms t ≤ 64)
  unfolding leaf_step literal_tag
  term_sound bytes w cs z tb e =
      let f = expr_sound s OfEntry paths_of (λ w w' p q. p) (λ w. refl) (λ tag w p. rw p refl) refl refl bytes w cs z tb
      (omega (arith, tb.count, tb.few)) e in
      (f.0, f.1, f.2, subst (λ (n : ℕ). Expression n f.0) tb.count f.3, f.4)

  -- these are read as they; and what is read are they
  expressions_complete : (r : ℕ) (o : Option (Term ℕ)) (t : Term ℕ) (w : Scan) (cs : List PathReduction) (rest : List ℕ) → w.code ≡ 0
      → Table w cs
      → drop w.at s ≡ (condition_bytes o ++ expression_bytes OfEntry t) ++ rest
      → EntryFits w.terms (length cs) (record { reduction = r; condition = o; body = t })
      → Passed w (expressions_scan (reduction_byte r o) s w) cs (length (condition_bytes o ++ expression_bytes OfEntry t))
      (condition_terms o + terms t) 0
  unfolding expressions_scan
  expressions_complete r none t w cs rest z tb e fits =
      let a = term_complete t w cs rest z tb e fits.body (omega (arith, fits.terms)) in
      rw (lt-leb 128 r fits.low) (record { code = a.code; at = a.at; terms = omega (arith, a.terms); reductions = a.reductions; table = a.table })
  expressions_complete r (some c) t w cs rest z tb e fits =
      let l : List ℕ = expression_bytes OfEntry c in
      let m : List ℕ = expression_bytes OfEntry t in
      let e1 : drop w.at s ≡ l ++ (m ++ rest) = e ∙ append_assoc l m rest in
      let a = term_complete c w cs (m ++ rest) z tb e1 fits.condition (omega (arith, fits.terms)) in
      let w1 : Scan = read OfEntry 16 s w in
      let e2 : drop w1.at s ≡ m ++ rest = ap (λ (i : ℕ). drop i s) a.at ∙ drop_on s w.at (length l) l (m ++ rest) e1 refl in
      let b = term_complete t w1 cs rest a.code a.table e2 fits.body (omega (arith, a.terms, fits.terms)) in
      rw (le-leb 128 (128 + r) (omega arith))
      (record {
        code = b.code;
        at = omega (arith, b.at, a.at, length-append l m);
        terms = omega (arith, b.terms, a.terms);
        reductions = omega (arith, b.reductions, a.reductions);
        table = b.table;
      })

  -- an entry with this reduction byte, of which these expressions are
  abbrev Behind : ℕ → Scan → List PathReduction → Type 0
  Behind b w cs =
      (d : VertexReduction ℕ) × (rest : List ℕ) × (reduction_byte d.reduction d.condition ≡ b) × (drop w.at s ≡ behind_byte d ++ rest)
      × EntryFits w.terms (length cs) d

  expressions_sound : Bytes s → (b : ℕ) (w : Scan) (cs : List PathReduction) → b ≤ 255 → w.code ≡ 0 → Table w cs
      → (expressions_scan b s w).code ≡ 0 → Behind b w cs
  unfolding expressions_scan
  expressions_sound bytes b w cs h z tb e = go (leb 128 b) refl e
    where
      w1 : Scan
      w1 = read OfEntry 16 s w

      go : (x : Bool) → leb 128 b ≡ x → (read OfEntry 16 s (cond x w1 w)).code ≡ 0 → Behind b w cs
      go false p e =
          let f = term_sound bytes w cs z tb e in (
            record { reduction = b; condition = none; body = f.0 },
            f.1,
            refl,
            f.2,
            record { low = leb-false 128 b p; condition = tt; body = f.3; terms = omega (arith, f.4) },
          )
      go true p e =
          let more = leb-true 128 b p in
          let f = term_sound bytes w cs z tb (read_accepted OfEntry 16 s w1 e) in
          let l : List ℕ = expression_bytes OfEntry f.0 in
          let a = term_complete f.0 w cs f.1 z tb f.2 f.3 f.4 in
          let g = term_sound bytes w1 cs a.code a.table e in
          let m : List ℕ = expression_bytes OfEntry g.0 in
          let rest : f.1 ≡ m ++ g.1 = sym (ap (λ (i : ℕ). drop i s) a.at ∙ drop_on s w.at (length l) l f.1 f.2 refl) ∙ g.2 in (
            record { reduction = b - 128; condition = some f.0; body = g.0 },
            g.1,
            omega arith,
            f.2 ∙ ap (λ (k : List ℕ). l ++ k) rest ∙ sym (append_assoc l m g.1),
            record { low = omega arith; condition = f.3; body = g.3; terms = omega (arith, g.4, a.terms) },
          )

  -- an entry whose reduction byte is right
  entry_scanned : (kind b : ℕ) (w : Scan) → w.at < length s → get_or s w.at 256 ≡ b → reduction_code kind b ≡ 0 → w.reductions < 8
      → entry_scan kind s w ≡ expressions_scan b s (moved w (w.at + 1) (w.reductions + 1))
  unfolding entry_scan
  entry_scanned kind b w h e c few = rw (lt-leb (length s) w.at h, e, c, lt-leb 8 w.reductions few) refl

  -- the bytes of an entry are read as it; and what is read are its bytes
  pub entry_complete : (kind : ℕ) (d : VertexReduction ℕ) (w : Scan) (cs : List PathReduction) (rest : List ℕ) → w.code ≡ 0 → Table w cs
      → reduction_code kind (reduction_byte d.reduction d.condition) ≡ 0
      → drop w.at s ≡ entry_bytes d ++ rest → EntryFits w.terms (length cs) d → w.reductions < 8
      → Passed w (entry_scan kind s w) cs (length (entry_bytes d)) (condition_terms d.condition + terms d.body) 1
  unfolding moved
  entry_complete kind d w cs rest z tb c e fits few =
      let b = reduction_byte d.reduction d.condition in
      let h = there s w.at b (behind_byte d ++ rest) e in
      let here : get_or s w.at 256 ≡ b = rw (nth s w.at 0 w.at 256 (omega arith), e) refl in
      let next = drop_on s w.at 1 (b ∷ []) (behind_byte d ++ rest) e refl in
      let a = expressions_complete d.reduction d.condition d.body (moved w (w.at + 1) (w.reductions + 1)) cs rest z
      (moved_table w cs (w.at + 1) (w.reductions + 1) tb (omega arith)) next fits in
      subst (λ (v : Scan). Passed w v cs (length (entry_bytes d)) (condition_terms d.condition + terms d.body) 1)
      (sym (entry_scanned kind b w h here c few))
      (record { code = a.code; at = omega (arith, a.at); terms = a.terms; reductions = omega (arith, a.reductions); table = a.table })

  -- a legal entry whose bytes stand next
  abbrev pub EntryFound : ℕ → Scan → List PathReduction → Type 0
  EntryFound kind w cs =
      (d : VertexReduction ℕ) × (rest : List ℕ) × (reduction_code kind (reduction_byte d.reduction d.condition) ≡ 0)
      × (drop w.at s ≡ entry_bytes d ++ rest) × EntryFits w.terms (length cs) d × (w.reductions < 8)

  pub entry_sound : Bytes s → (kind : ℕ) (w : Scan) (cs : List PathReduction) → w.code ≡ 0 → Table w cs → (entry_scan kind s w).code ≡ 0
      → EntryFound kind w cs
  unfolding moved blank entry_scan
  entry_sound bytes kind w cs z tb e =
      go (leb (length s) w.at) (eqb (reduction_code kind (get_or s w.at 256)) 0) (leb 8 w.reductions) refl refl refl
    where
      go : (a b c : Bool) → leb (length s) w.at ≡ a → eqb (reduction_code kind (get_or s w.at 256)) 0 ≡ b → leb 8 w.reductions ≡ c
          → EntryFound kind w cs
      go true b c p q r = absurd (let y : ◌≡◌ {A = ℕ} 1 0 = rw p at e in omega arith)
      go false false c p q r = absurd (eqb-false (reduction_code kind (get_or s w.at 256)) 0 q (rw (p, q) at e))
      go false true true p q r = absurd (let y : ◌≡◌ {A = ℕ} 14 0 = rw (p, q, r) at e in omega arith)
      go false true false p q r =
          let few = leb-false 8 w.reductions r in
          let h = leb-false (length s) w.at p in
          let c = eqb-true (reduction_code kind (get_or s w.at 256)) 0 q in
          let f = expressions_sound bytes (get_or s w.at 256) (moved w (w.at + 1) (w.reductions + 1)) cs
          (reduction_small kind (get_or s w.at 256) c) z (moved_table w cs (w.at + 1) (w.reductions + 1) tb (omega arith)) (rw (p, q, r) at e) in (
            f.0,
            f.1,
            ap (reduction_code kind) f.2 ∙ c,
            drop_at s w.at h ∙ ap₂ (λ (x : ℕ) (l : List ℕ). x ∷ l) (sym f.2) f.3,
            f.4,
            few,
          )

  -- ENTRIES OF KIND 1 ARE READ EXACTLY
  pub entries_complete : (es : List (VertexReduction ℕ)) (w : Scan) (cs : List PathReduction) (rest : List ℕ) → w.code ≡ 0 → Table w cs
      → All (EntryLegal (length cs)) es
      → drop w.at s ≡ entries_bytes es ++ rest → w.terms + entry_terms es ≤ 64 → w.reductions + length es ≤ 8
      → Passed w (entries_scan (length es) 1 s w) cs (length (entries_bytes es)) (entry_terms es) (length es)
  unfolding entries_scan
  entries_complete [] w cs rest z tb f e l few = record { code = z; at = omega arith; terms = omega arith; reductions = omega arith; table = tb }
  entries_complete (d ∷ es) w cs rest z tb f e l few =
      let e1 : drop w.at s ≡ entry_bytes d ++ (entries_bytes es ++ rest) = e ∙ append_assoc (entry_bytes d) (entries_bytes es) rest in
      let g = f.0 in
      let a = entry_complete 1 d w cs (entries_bytes es ++ rest) z tb (reduction_zero d.reduction d.condition g.0 g.1) e1
      (record { low = omega (arith, g.1); condition = g.2; body = g.3; terms = omega arith }) (omega arith) in
      let w1 : Scan = entry_scan 1 s w in
      let e2 : drop w1.at s ≡ entries_bytes es ++ rest =
      ap (λ (i : ℕ). drop i s) a.at ∙ drop_on s w.at (length (entry_bytes d)) (entry_bytes d) (entries_bytes es ++ rest) e1 refl in
      let b = entries_complete es w1 cs rest a.code a.table f.1 e2 (omega (arith, a.terms)) (omega (arith, a.reductions)) in
      rw (eq-eqb w.code 0 z)
      (record {
        code = b.code;
        at = omega (arith, b.at, a.at, length-append (entry_bytes d) (entries_bytes es));
        terms = omega (arith, b.terms, a.terms);
        reductions = omega (arith, b.reductions, a.reductions);
        table = b.table;
      })

  -- k legal entries whose bytes stand next
  abbrev Entries : ℕ → Scan → List PathReduction → Type 0
  Entries k w cs =
      (es : List (VertexReduction ℕ)) × (rest : List ℕ) × (length es ≡ k) × All (EntryLegal (length cs)) es
      × (drop w.at s ≡ entries_bytes es ++ rest)
      × (w.terms + entry_terms es ≤ 64)
      × (w.reductions + length es ≤ 8)

  pub entries_sound : Bytes s → (k : ℕ) (w : Scan) (cs : List PathReduction) → w.code ≡ 0 → Table w cs → w.terms ≤ 64
      → (entries_scan k 1 s w).code ≡ 0
      → Entries k w cs
  unfolding entries_scan
  entries_sound bytes zero w cs z tb l e = ([], drop w.at s, refl, tt, refl, omega arith, omega (arith, tb.few_reductions))
  entries_sound bytes (suc k) w cs z tb l e = first (eqb (entry_scan 1 s w).code 0) refl (entries_sound bytes k)
    where
      on : (entries_scan k 1 s (entry_scan 1 s w)).code ≡ 0
      on = rw (eq-eqb w.code 0 z) at e

      first : (b : Bool) → eqb (entry_scan 1 s w).code 0 ≡ b
          → ((w : Scan) (cs : List PathReduction) → w.code ≡ 0 → Table w cs → w.terms ≤ 64 → (entries_scan k 1 s w).code ≡ 0
          → Entries k w cs)
          → Entries (suc k) w cs
      first false p ih =
          let n = eqb-false (entry_scan 1 s w).code 0 p in
          absurd (n (accepted_as (entries_handed k 1 s (entry_scan 1 s w) n) on))
      first true p ih =
          let f = entry_sound bytes 1 w cs z tb (eqb-true (entry_scan 1 s w).code 0 p) in
          let d = f.0 in
          let fits = f.4 in
          let range = reduction_range d.reduction d.condition fits.low f.2 in
          let a = entry_complete 1 d w cs f.1 z tb f.2 f.3 fits f.5 in
          let r = ih (entry_scan 1 s w) cs a.code a.table (omega (arith, a.terms, fits.terms)) on in
          let rest : f.1 ≡ entries_bytes r.0 ++ r.1 =
          sym (ap (λ (i : ℕ). drop i s) a.at ∙ drop_on s w.at (length (entry_bytes d)) (entry_bytes d) f.1 f.3 refl) ∙ r.4 in (
            d ∷ r.0,
            r.1,
            ap suc r.2,
            ((range.0, range.1, fits.condition, fits.body), r.3),
            f.3 ∙ ap (λ (l : List ℕ). entry_bytes d ++ l) rest ∙ sym (append_assoc (entry_bytes d) (entries_bytes r.0) r.1),
            omega (arith, r.5, a.terms),
            omega (arith, r.6, a.reductions),
          )
