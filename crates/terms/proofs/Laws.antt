-- The definitions step by step, as the code goes: a loop with one index less left, a call with one level of depth less. Assumes nothing.
use Prim.Native.Nat.{ℕ, zero, suc, ◌+◌, ◌-◌, ◌≤◌, ◌<◌}
use mathlib.Core.Path.{◌≡◌, refl, sym, ap, ◌∙◌}
use mathlib.Core.Bool.{Bool, true, false, cond}
use mathlib.Core.List.{List}
use native.Mathlib.Omega.{arith}
use borrow.Author.Tests.{eqb-true, eqb-false, ne_eqb}
use lib.Dec.{leb, eqb}
use lib.ListN.{get_or}
use Rattle.packed_path.specs.declared.PackedPath.{PackedPath}
use Rattle.packed_path.specs.Packed.{no_path, same_packed}
use Rattle.progress.specs.Progress.{Scan}
use Rattle.terms.specs.Terms.{Step, read}
use Rattle.terms.specs.Terms.{slot_of, term_step}
use Rattle.terms.specs.declared.TermKind.{TermKind}

-- one index of the table
pub slot_next : (i paths : ℕ) (table : List PackedPath) (path : PackedPath) → i < 8
    → slot_of (8 - i) paths table path i
    ≡ cond (leb paths i) i (cond (same_packed (get_or table i no_path) path) i (slot_of (8 - (i + 1)) paths table path (i + 1)))
unfolding slot_of
slot_next i paths table path h = let e : 8 - i ≡ suc (8 - (i + 1)) = omega arith in rw e refl

-- and behind the last one
pub slot_none : (i paths : ℕ) (table : List PackedPath) (path : PackedPath) → 8 ≤ i → slot_of (8 - i) paths table path i ≡ i
unfolding slot_of
slot_none i paths table path h = let e : 8 - i ≡ 0 = omega arith in rw e refl

pub ruleset slots = (slot_next, slot_none)

-- no depth left: the term alone
pub read_none : (kind : TermKind) (left : ℕ) (s : List ℕ) (w : Scan) → left ≡ 0
    → read kind left s w ≡ cond (eqb w.code 0) (term_step kind left s w).progress w
unfolding read
read_none kind zero s w e = refl
read_none kind (suc left) s w e = absurd (omega arith)

-- else the term and, with one level less, those that follow it
pub read_next : (kind : TermKind) (left : ℕ) (s : List ℕ) (w : Scan) → (left ≡ 0 → ⊥)
    → read kind left s w
    ≡ cond (eqb w.code 0)
    (let h = term_step kind left s w in
    cond (eqb h.follow 0) h.progress
    (cond (eqb h.follow 1) (read h.inner (left - 1) s h.progress)
    (read h.inner (left - 1) s (read h.inner (left - 1) s h.progress))))
    w
unfolding read
read_next kind zero s w n = absurd (n refl)
read_next kind (suc left) s w n = go (eqb w.code 0) (eqb h.follow 0) (eqb h.follow 1) (let e : left ≡ suc left - 1 = omega arith in e)
  where
    h : Step
    h = term_step kind (suc left) s w

    go : (a b c : Bool) {m : ℕ} → left ≡ m
        → elim a [
          | true ↦ elim b [
            | true ↦ h.progress
            | false ↦ elim c [
              | true ↦ read h.inner left s h.progress
              | false ↦ read h.inner left s (read h.inner left s h.progress)
            ]
          ]
          | false ↦ w
        ]
        ≡ cond a (cond b h.progress (cond c (read h.inner m s h.progress) (read h.inner m s (read h.inner m s h.progress)))) w
    go true true c e = refl
    go true false true e = ap (λ (k : ℕ). read h.inner k s h.progress) e
    go true false false e = ap (λ (k : ℕ). read h.inner k s (read h.inner k s h.progress)) e
    go false b c e = refl

-- a refusal is handed on
pub handed_on : (kind : TermKind) (left : ℕ) (s : List ℕ) (w : Scan) → (w.code ≡ 0 → ⊥) → read kind left s w ≡ w
unfolding read
handed_on kind zero s w n = rw (ne_eqb w.code 0 n) refl
handed_on kind (suc left) s w n = rw (ne_eqb w.code 0 n, read) refl

-- of two equal states one is accepted where the other is
pub accepted_as : {v w : Scan} → v ≡ w → v.code ≡ 0 → w.code ≡ 0
accepted_as p e = sym (ap (λ (x : Scan). x.code) p) ∙ e

-- so what is read to its end was not refused before
pub read_accepted : (kind : TermKind) (left : ℕ) (s : List ℕ) (w : Scan) → (read kind left s w).code ≡ 0 → w.code ≡ 0
read_accepted kind left s w e = go (eqb w.code 0) refl
  where
    go : (b : Bool) → eqb w.code 0 ≡ b → w.code ≡ 0
    go true p = eqb-true w.code 0 p
    go false p = accepted_as (handed_on kind left s w (eqb-false w.code 0 p)) e
