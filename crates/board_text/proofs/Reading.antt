-- What the loops over a board cite: the length at a position, path reductions put one by one, queries read one by one. Assumes nothing.
use Prim.Native.Nat.{ℕ, suc, ◌+◌, ◌-◌, ◌*◌, ◌≤◌, ◌<◌, min}
use mathlib.Core.Path.{◌≡◌, refl, sym, ap, ap₂, ◌∙◌}
use mathlib.Core.List.{List, [], ◌∷◌}
use native.Mathlib.Numerals.{add-one}
use native.Mathlib.Nat.{add-zero}
use native.Mathlib.Omega.{arith}
use borrow.Author.Tests.{eq-eqb, eqb-false, ltb-false, ne_eqb}
use lib.Dec.{ltb, eqb}
use lib.ListN.{length, get_or, take, drop, drop_of_length-le, length-drop}
use lib.Seq.{drop-cons, drop-drop, get_or-drop, take_all}
use Rattle.draft.proofs.Texts.{take_least}
use Rattle.packed_path.specs.declared.PackedPath.{PackedPath}
use Rattle.packed_path.specs.Packed.{no_path}
use Rattle.progress.specs.Progress.{Scan}
use Rattle.progress.specs.Progress.{blank}
use Rattle.terms.specs.Terms.{kept_path}
use Rattle.wire.specs.declared.Refusal.{Refusal}
use Rattle.wire.specs.Refusal.{number}
use Rattle.wire.specs.Wire.{at16}
use Rattle.wire.proofs.Codes.{number_some, past}
use Rattle.board_text.specs.Board.{after_query, count_code}
use Rattle.board_text.specs.Steps.{first_scan, joined, joint_scan}
use Rattle.board_text.proofs.Joint.{first_judged, first_passed}

-- the 16 bits at a position are those at the front of what is left
pub half_left : (b : List ℕ) (at : ℕ) → at16 (drop at b) 0 ≡ at16 b at
half_left b at = ap₂ (λ (x y : ℕ). x + 256 * y) (get_or-drop at b 0 0 ∙ ap (λ (i : ℕ). get_or b i 0) (add-zero at)) (get_or-drop at b 1 0)

-- the query behind them, and what follows it
pub query_left : (b : List ℕ) (at n : ℕ) → n ≡ at16 b at
    → take (at16 (drop at b) 0) (drop 2 (drop at b)) ≡ take (at + 2 + n - (at + 2)) (drop (at + 2) b)
query_left b at n e =
    let z : at + 2 + n - (at + 2) ≡ n = omega arith in
    rw (half_left b at, drop-drop 2 at b, z, e) refl

pub after_left : (b : List ℕ) (at : ℕ) → after_query (drop at b) ≡ drop (at + 2 + at16 b at) b
after_left b at =
    let z : at + (2 + at16 b at) ≡ at + 2 + at16 b at = omega arith in
    rw (half_left b at, drop-drop (2 + at16 b at) at b, z) refl

-- an accepted one ends within the bytes
pub first_whole : (s : List ℕ) → (first_scan s).code ≡ 0 → 2 + at16 s 0 ≤ length s
first_whole s z = (first_passed s (sym (first_judged s) ∙ z)).whole

-- and what is left behind it
pub left_after : (s : List ℕ) (n : ℕ) → n ≡ at16 s 0 → 2 + at16 s 0 ≤ length s → take (length s - (2 + n)) (drop (2 + n) s) ≡ after_query s
left_after s n e h = rw e (take_all (length s - (2 + at16 s 0)) (drop (2 + at16 s 0) s) (omega (arith, length-drop (2 + at16 s 0) s)))

-- of the path reductions ps, i of them put, the next
pub joined_more : (w : Scan) (ps : List PackedPath) (i : ℕ) → i < length ps → w.code ≡ 0
    → joined w (drop i ps) ≡ joined (kept_path w (get_or ps i no_path)) (drop (i + 1) ps)
unfolding joined
joined_more w ps i h z = rw (drop-cons ps i no_path h, eq-eqb w.code 0 z, add-one i) refl

-- the first of a table that has eight
pub joined_first : (w : Scan) (n : ℕ) (table : List PackedPath) → length table ≡ 8 → joined w (take n table) ≡ joined w (take (min n 8) table)
joined_first w n table e = ap (joined w) (sym (take_least n (min n 8) table (ap (min n) (sym e))))

pub joined_refused : (e : Refusal) (ps : List PackedPath) → joined (blank (number e)) ps ≡ blank (number e)
unfolding joined blank
joined_refused e [] = refl
joined_refused e (p ∷ ps) = rw (ne_eqb (number e) 0 (number_some e)) refl

pub joined_over : (w : Scan) (ps : List PackedPath) (i : ℕ) → length ps ≤ i → joined w (drop i ps) ≡ w
unfolding joined
joined_over w ps i h = rw (drop_of_length-le ps h) refl

pub ruleset joining = (joined_more, joined_refused, joined_over, joined_first)

-- of k queries, i of them read, the next: it is put, or refused
pub joint_more : (k i : ℕ) (s : List ℕ) (w : Scan) → i < k → (first_scan s).code ≡ 0
    → joint_scan (k - i) s w ≡ joint_scan (k - (i + 1)) (after_query s) (joined w (take (first_scan s).paths (first_scan s).table))
unfolding joint_scan
joint_more k i s w h z =
    let e : k - i ≡ suc (k - (i + 1)) = omega arith in
    rw (e, eq-eqb (first_scan s).code 0 z) refl

pub joint_refused : (k i : ℕ) (s : List ℕ) (w : Scan) (e : Refusal) → i < k → blank (number e) ≡ first_scan s
    → joint_scan (k - i) s w ≡ blank (number e)
unfolding joint_scan blank
joint_refused k i s w e h f =
    let m : k - i ≡ suc (k - (i + 1)) = omega arith in
    rw (m, ← f, ne_eqb (number e) 0 (number_some e)) refl

pub ruleset in_turn = (joint_more, joint_refused, joined_refused, first_whole, left_after)

-- a count that is not refused is there, and is 1 to 8
pub counted : (b : List ℕ) → count_code b ≡ 0 → (1 ≤ length b) × (1 ≤ get_or b 0 0) × (get_or b 0 0 ≤ 8)
unfolding count_code
counted b z =
    let p = past (eqb (length b) 0) 0 _ z in
    let q = past (eqb (get_or b 0 0) 0) 11 _ p.1 in
    let r = past (ltb 8 (get_or b 0 0)) 11 _ q.1 in
    let some : length b ≡ 0 → ⊥ = eqb-false _ _ p.0 in
    let least : get_or b 0 0 ≡ 0 → ⊥ = eqb-false _ _ q.0 in
    (omega arith, omega arith, ltb-false _ _ r.0)
