-- What the reading of a worksheet cites: of the path reductions and entries that are left one more, and a refusal handed on. Assumes nothing.
use Prim.Native.Nat.{ℕ, zero, suc, ◌+◌, ◌-◌, ◌<◌}
use mathlib.Core.Path.{◌≡◌, refl}
use mathlib.Core.Bool.{Bool, true, false, cond}
use mathlib.Core.List.{List}
use native.Mathlib.Omega.{arith}
use borrow.Author.Tests.{eq-eqb, ne_eqb}
use lib.Dec.{eqb}
use Rattle.fields.proofs.Opening.{opening_found}
use Rattle.progress.specs.Progress.{Scan, blank, ended}
use Rattle.terms.specs.declared.TermKind.{TermKind}
use Rattle.terms.specs.declared.TermKind.TheVariants.{OfFinal}
use Rattle.terms.specs.Terms.{read}
use Rattle.terms.proofs.Laws.{handed_on}
use Rattle.wire.specs.declared.Refusal.{Refusal}
use Rattle.wire.specs.Refusal.{number}
use Rattle.wire.proofs.Codes.{number_some}
use Rattle.plan.specs.Plan.{body_scan, chains_end, entries_scan, entry_scan, final_scan, listed_end, listed_scan, listed_step}

-- of k path reductions, i of them read, the next
pub listed_more : (k i version : ℕ) (s : List ℕ) (w : Scan) → i < k → w.code ≡ 0
    → listed_scan (k - i) version s w ≡ listed_scan (k - (i + 1)) version s (listed_step version s w)
unfolding listed_scan
listed_more k i version s w h z =
    let e : k - i ≡ suc (k - (i + 1)) = omega arith in
    rw (e, eq-eqb w.code 0 z) refl

-- a refusal is handed on
pub listed_handed : (k version : ℕ) (s : List ℕ) (w : Scan) → (w.code ≡ 0 → ⊥) → listed_scan k version s w ≡ w
unfolding listed_scan
listed_handed zero version s w n = refl
listed_handed (suc k) version s w n = rw (ne_eqb w.code 0 n) refl

pub listed_refused : (k version : ℕ) (s : List ℕ) (e : Refusal) → listed_scan k version s (blank (number e)) ≡ blank (number e)
unfolding blank
listed_refused k version s e = listed_handed k version s (blank (number e)) (number_some e)

-- where k of them end, i of them passed
pub chains_more : (k i version : ℕ) (s : List ℕ) (at : ℕ) → i < k
    → chains_end (k - i) version s at ≡ chains_end (k - (i + 1)) version s (listed_end version s at)
unfolding chains_end
chains_more k i version s at h =
    let e : k - i ≡ suc (k - (i + 1)) = omega arith in
    rw e refl

-- of k entries, i of them read, the next
pub entries_more : (k i kind : ℕ) (s : List ℕ) (w : Scan) → i < k → w.code ≡ 0
    → entries_scan (k - i) kind s w ≡ entries_scan (k - (i + 1)) kind s (entry_scan kind s w)
unfolding entries_scan
entries_more k i kind s w h z =
    let e : k - i ≡ suc (k - (i + 1)) = omega arith in
    rw (e, eq-eqb w.code 0 z) refl

pub entries_handed : (k kind : ℕ) (s : List ℕ) (w : Scan) → (w.code ≡ 0 → ⊥) → entries_scan k kind s w ≡ w
unfolding entries_scan
entries_handed zero kind s w n = refl
entries_handed (suc k) kind s w n = rw (ne_eqb w.code 0 n) refl

pub entries_refused : (k kind : ℕ) (s : List ℕ) (e : Refusal) → entries_scan k kind s (blank (number e)) ≡ blank (number e)
unfolding blank
entries_refused k kind s e = entries_handed k kind s (blank (number e)) (number_some e)

-- no term is read behind a refusal
pub read_refused : (kind : TermKind) (left : ℕ) (s : List ℕ) (e : Refusal) → read kind left s (blank (number e)) ≡ blank (number e)
unfolding blank
read_refused kind left s e = handed_on kind left s (blank (number e)) (number_some e)

pub final_refused : (kind : ℕ) (s : List ℕ) (e : Refusal) → final_scan kind s (blank (number e)) ≡ blank (number e)
unfolding final_scan
final_refused kind s e = go (eqb kind 0)
  where
    go : (t : Bool) → cond t (blank (number e)) (read OfFinal 16 s (blank (number e))) ≡ blank (number e)
    go true = refl
    go false = read_refused OfFinal 16 s e

pub body_handed : (kind : ℕ) (s : List ℕ) (w : Scan) → (w.code ≡ 0 → ⊥) → body_scan kind s w ≡ w
unfolding body_scan
body_handed kind s w n = rw (ne_eqb w.code 0 n) refl

pub body_refused : (kind : ℕ) (s : List ℕ) (e : Refusal) → body_scan kind s (blank (number e)) ≡ blank (number e)
unfolding blank
body_refused kind s e = body_handed kind s (blank (number e)) (number_some e)

pub ended_refused : (s : List ℕ) (e : Refusal) → ended s (blank (number e)) ≡ blank (number e)
unfolding ended blank
ended_refused s e = rw (ne_eqb (number e) 0 (number_some e)) refl

pub ruleset whole_reading = (opening_found, body_refused, ended_refused)
