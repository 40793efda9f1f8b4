-- One term: what a step makes of its tag, and the bytes of literals. Assumes nothing.
use Prim.Native.Nat.{ℕ, zero, suc, ◌+◌, ◌-◌, ◌*◌, ◌/◌, ◌%◌, ◌^◌, ◌<◌}
use mathlib.Core.Path.{◌≡◌, refl, sym, ap, ◌∙◌}
use mathlib.Core.Bool.{Bool, true, false, cond}
use mathlib.Core.List.{List, [], ◌∷◌, ◌++◌}
use native.Mathlib.Omega.{arith}
use borrow.Author.Tests.{leb-false, lt-leb, eq-eqb, ne_eqb}
use lib.Dec.{leb, eqb}
use lib.ListN.{length, get_or, drop, length-drop}
use lib.Seq.{drop-drop, drop-append_seam}
use Rattle.meaning.specs.Query.{PathReduction}
use Rattle.wire.specs.Wire.{at32, le32}
use Rattle.terms.specs.Terms.{Step}
use Rattle.terms.specs.declared.TermKind.{TermKind}
use Rattle.progress.specs.Progress.{Scan}
use Rattle.terms.specs.Terms.{advanced, apply_step, leaf_step, literal_step, literal_tag, read, refused_step, term_step}
use Rattle.progress.specs.Progress.{blank}
use Rattle.terms.proofs.Laws.{accepted_as, read_next}
use Rattle.packed_path.proofs.Keys.{digits}
use Rattle.term_text.proofs.Fields.{nth, two_bytes}
use Rattle.term_text.proofs.Table.{Table}

-- a rest that begins with x: there is a byte, and it is x
pub there : (s : List ℕ) (i x : ℕ) (l : List ℕ) → drop i s ≡ x ∷ l → i < length s
there s i x l e = omega (arith, length-drop i s, ap length e)

pub tag_there : (s : List ℕ) (i x : ℕ) (l : List ℕ) → drop i s ≡ x ∷ l → get_or s i 0 ≡ x
tag_there s i x l e = rw (nth s i 0 i 0 (omega arith), e) refl

-- the byte behind the first; a number of 32 bits behind it
pub byte_there : (s : List ℕ) (i x y : ℕ) (l : List ℕ) → drop i s ≡ x ∷ y ∷ l → get_or s (i + 1) 0 ≡ y
byte_there s i x y l e = rw (nth s i 1 (i + 1) 0 refl, e) refl

pub word_there : (s : List ℕ) (i x k : ℕ) (l : List ℕ) → k < 2 ^ 32 → drop i s ≡ x ∷ (le32 k ++ l) → at32 s (i + 1) ≡ k
word_there s i x k l h e =
    rw (nth s i 1 (i + 1) 0 refl, nth s i 2 (i + 1 + 1) 0 (omega arith), nth s i 3 (i + 1 + 2) 0 (omega arith), nth s i 4 (i + 1 + 2 + 1) 0 (omega arith), e)
    (omega arith)

-- behind a text of n bytes stands what follows
pub drop_on : (s : List ℕ) (i n : ℕ) (l m : List ℕ) → drop i s ≡ l ++ m → length l ≡ n → drop (i + n) s ≡ m
drop_on s i n l m e h = sym (drop-drop n i s) ∙ ap (drop n) e ∙ drop_at'
  where
    drop_at' : drop n (l ++ m) ≡ m
    drop_at' = ap (λ (k : ℕ). drop k (l ++ m)) (sym h) ∙ drop-append_seam l m

-- the table is carried along
pub table_advanced : (w : Scan) (cs : List PathReduction) (n : ℕ) → Table w cs → Table (advanced w n) cs
unfolding advanced
table_advanced w cs n t =
    record { legal = t.legal; count = t.count; few = t.few; rest = t.rest; holds = t.holds; size = t.size; few_reductions = t.few_reductions }

module _ (s : List ℕ) (m : TermKind) where
  -- what the tag of a term says
  abbrev tagged : ℕ → Scan → Step
  tagged tag w = cond (eqb tag (literal_tag m)) (literal_step s w) (cond (eqb tag (literal_tag m + 1)) (apply_step m s w) (leaf_step m tag s w))

  -- a step within the limits goes by the tag; and a term is read by its step
  pub step_is : (d : ℕ) (w : Scan) → w.at < length s → w.terms < 64 → term_step m (suc d) s w ≡ tagged (get_or s w.at 0) w
  unfolding term_step
  step_is d w h k = rw (lt-leb (length s) w.at h, lt-leb 64 w.terms k, ne_eqb (suc d) 0 (λ e. omega arith)) refl

  pub read_by : (d : ℕ) (w : Scan) → w.code ≡ 0 → (h : Step) → term_step m (suc d) s w ≡ h
      → read m (suc d) s w ≡ cond (eqb h.follow 0) h.progress
      (cond (eqb h.follow 1) (read h.inner d s h.progress) (read h.inner d s (read h.inner d s h.progress)))
  read_by d w z h e =
      let p : suc d - 1 ≡ d = omega arith in
      rw (read_next m (suc d) s w (λ n. omega arith), eq-eqb w.code 0 z, e, p) refl

  -- a step that stops refuses
  pub stops : (d : ℕ) (w : Scan) → w.code ≡ 0 → (k : ℕ) → (k ≡ 0 → ⊥) → term_step m (suc d) s w ≡ refused_step k
      → (read m (suc d) s w).code ≡ 0 → ⊥
  unfolding blank
  stops d w z k n p e = n (accepted_as (read_by d w z (refused_step k) p) e)

  -- nothing is read without depth, past the end, or beyond 64 terms
  pub read_flat : (w : Scan) → w.code ≡ 0 → (read m zero s w).code ≡ 0 → ⊥
  unfolding read term_step blank
  read_flat w z e = go (leb (length s) w.at) (leb 64 w.terms) (rw (eq-eqb w.code 0 z) at e)
    where
      go : (a b : Bool) → ◌≡◌ {A = ℕ} (cond a (refused_step 1) (cond b (refused_step 12) (refused_step 11))).progress.code 0 → ⊥
      go true b e = omega arith
      go false true e = omega arith
      go false false e = omega arith

  pub read_starts : (d : ℕ) (w : Scan) → w.code ≡ 0 → (read m (suc d) s w).code ≡ 0 → (w.at < length s) × (w.terms < 64)
  unfolding term_step
  read_starts d w z e = go (leb (length s) w.at) (leb 64 w.terms) refl refl
    where
      go : (a b : Bool) → leb (length s) w.at ≡ a → leb 64 w.terms ≡ b → (w.at < length s) × (w.terms < 64)
      go true b p q = absurd (stops d w z 1 (λ x. omega arith) (rw p refl) e)
      go false true p q = absurd (stops d w z 12 (λ x. omega arith) (rw (p, q) refl) e)
      go false false p q = (leb-false (length s) w.at p, leb-false 64 w.terms q)

-- four bytes make a 32-bit number
pub four_bytes : (a b c d : ℕ) → a < 256 → b < 256 → c < 256 → d < 256 → le32 (a + 256 * b + 65536 * (c + 256 * d)) ≡ a ∷ b ∷ c ∷ d ∷ []
four_bytes a b c d ha hb hc hd =
    let x : ℕ = a + 256 * b + 65536 * (c + 256 * d) in
    let p = digits (x % 256) a (x / 256) (b + 256 * (c + 256 * d)) (omega arith) ha (omega arith) in
    let q = digits (x / 256 % 256) b (x / 256 / 256) (c + 256 * d) (omega arith) hb (omega (arith, p.1)) in
    let y : x / 65536 ≡ c + 256 * d = omega (arith, p.1, q.1) in
    let r = two_bytes c d hc hd in
    cc (p.0, q.0, y, r.0, r.1)
