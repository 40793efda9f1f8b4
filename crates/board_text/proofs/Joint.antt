-- THE JOINT TABLE OF A BOARD: what the program reads of it refuses by `board_code`, and else holds the different path reductions of all queries in order of
-- first writing. Assumes nothing.
use Prim.Native.Nat.{ℕ, zero, suc, ◌+◌, ◌≤◌, ◌<◌}
use mathlib.Core.Path.{◌≡◌, refl, sym, ap, ◌∙◌, subst}
use mathlib.Core.Bool.{Bool, true, false, cond}
use mathlib.Core.List.{List, [], ◌∷◌, ◌++◌, map}
use native.Mathlib.Omega.{arith}
use borrow.Author.Tests.{eq-eqb, eqb-true, eqb-false, le-ltb, lt-ltb, ltb-false, ltb-true, ne_eqb}
use lib.Dec.{ltb, eqb}
use lib.ListN.{length, get_or, take, drop, length-take, get_or-eq_default}
use lib.Seq.{get_or-drop, get_or-take}
use Rattle.meaning.specs.Limits.{PathFits}
use Rattle.meaning.specs.Plan.{put, put_all}
use Rattle.meaning.specs.Query.{PathReduction, written_paths}
use Rattle.meaning.proofs.Paths.{put_all_append}
use Rattle.packed_path.specs.declared.PackedPath.{PackedPath}
use Rattle.packed_path.specs.Packed.{packed}
use Rattle.progress.specs.Progress.{Scan}
use Rattle.progress.specs.Progress.{blank, started}
use Rattle.query.specs.Query.{query_code, query_scan}
use Rattle.query.specs.Tree.{query_of}
use Rattle.query.proofs.Exact.{read_complete}
use Rattle.query.proofs.Tree.{query_read}
use Rattle.term_text.proofs.Ends.{started_table}
use Rattle.term_text.proofs.Table.{Put, Table, kept_ninth, kept_room, numbers_held}
use Rattle.terms.specs.Terms.{kept_path}
use Rattle.walks.specs.Lists.{All}
use Rattle.wire.specs.Header.{then}
use Rattle.wire.specs.Wire.{Bytes, at16}
use Rattle.wire.proofs.Codes.{then_both}
use Rattle.board_text.specs.Board.{
  after_query,
  all_written,
  board_code,
  count_code,
  first_code,
  first_query,
  joint_code,
  joint_paths,
  queries_code,
  queries_in,
  queries_of,
}
use Rattle.board_text.specs.Steps.{board_scan, first_scan, joined, joint_scan}
use Rattle.board_text.proofs.Put.{put_again, put_all_longer}

-- bytes of a part are bytes
pub drop_bytes : (k : ℕ) (s : List ℕ) → Bytes s → Bytes (drop k s)
drop_bytes k s b i = rw (get_or-drop k s i 0) (b (k + i))

pub first_bytes : (s : List ℕ) → Bytes s → Bytes (first_query s)
first_bytes s b i = go (ltb i (at16 s 0)) refl
  where
    go : (t : Bool) → ltb i (at16 s 0) ≡ t → get_or (first_query s) i 0 < 256
    go true e = rw (get_or-take (at16 s 0) (drop 2 s) i 0 (ltb-true i (at16 s 0) e)) (drop_bytes 2 s b i)
    go false e = rw (get_or-eq_default (first_query s) 0 {n = i} (omega (arith, ltb-false i (at16 s 0) e, length-take (at16 s 0) (drop 2 s)))) (omega arith)

-- ---- the query at the front

-- its reading refuses as it is judged
pub first_judged : (s : List ℕ) → (first_scan s).code ≡ first_code s
unfolding first_scan first_code blank
first_judged s = go (ltb (length s) 2) (ltb (length s) (2 + at16 s 0))
  where
    go : (a b : Bool) → (cond a (blank 1) (cond b (blank 1) (query_scan (first_query s)))).code ≡ cond a 1 (cond b 1 (query_code (first_query s)))
    go true b = refl
    go false true = refl
    go false false = refl

-- one that is not refused: its length is there, and its bytes
pub record Passed (s : List ℕ) : Type 0 where
  pub two : 2 ≤ length s
  pub whole : 2 + at16 s 0 ≤ length s
  pub accepted : query_code (first_query s) ≡ 0
  pub scanned : first_scan s ≡ query_scan (first_query s)

pub first_passed : (s : List ℕ) → first_code s ≡ 0 → Passed s
unfolding first_scan first_code
first_passed s z = go (ltb (length s) 2) (ltb (length s) (2 + at16 s 0)) refl refl z
  where
    go : (a b : Bool) → ltb (length s) 2 ≡ a → ltb (length s) (2 + at16 s 0) ≡ b → cond a 1 (cond b 1 (query_code (first_query s))) ≡ 0 → Passed s
    go true b p q z = absurd (let y : ◌≡◌ {A = ℕ} 1 0 = z in omega arith)
    go false true p q z = absurd (let y : ◌≡◌ {A = ℕ} 1 0 = z in omega arith)
    go false false p q z = record { two = ltb-false _ _ p; whole = ltb-false _ _ q; accepted = z; scanned = rw (p, q) refl }

-- the table that its reading leaves
pub first_table : (s : List ℕ) → Bytes s → first_code s ≡ 0 → Table (first_scan s) (put_all [] (written_paths (query_of (first_query s))))
first_table s b z =
    let p = first_passed s z in
    let q = query_of (first_query s) in
    let r = query_read (first_query s) (first_bytes s b) p.accepted in
    subst (λ (w : Scan). Table w (put_all [] (written_paths q))) (ap query_scan r.1 ∙ sym p.scanned) (read_complete q r.0).table

-- ---- path reductions put into the joint table

-- the number 14 stays
joined_full : (w : Scan) (ps : List PackedPath) → w.code ≡ 14 → (joined w ps).code ≡ 14
unfolding joined
joined_full w [] e = e
joined_full w (p ∷ ps) e = rw (ne_eqb w.code 0 (λ z. omega (arith, e, z))) e

-- the table holds the path reductions cs, and nothing was refused
abbrev Held : Scan → List PathReduction → Type 0
Held w cs = (w.code ≡ 0) × Table w cs

-- while there is room the table holds what is put; then 14
joined_room : (w : Scan) (cs ds : List PathReduction) → Held w cs → All (PathFits 256) ds → length (put_all cs ds) ≤ 8
    → Held (joined w (map packed ds)) (put_all cs ds)
unfolding joined
joined_room w cs [] h f l = h
joined_room w cs (d ∷ ds) h f l =
    let k = kept_room w cs h.1 d f.0 (omega (arith, put_all_longer (put cs d) ds)) in
    rw (eq-eqb w.code 0 h.0) (joined_room (kept_path w (packed d)) (put cs d) ds (k.code ∙ h.0, k.table) f.1 l)

joined_ninth : (w : Scan) (cs ds : List PathReduction) → Held w cs → All (PathFits 256) ds → 8 < length (put_all cs ds)
    → (joined w (map packed ds)).code ≡ 14
unfolding joined blank
joined_ninth w cs [] h f l = absurd (omega (arith, h.1.few))
joined_ninth w cs (d ∷ ds) h f l =
    rw (eq-eqb w.code 0 h.0) (go (ltb 8 (length (put cs d))) refl (λ k. joined_ninth (kept_path w (packed d)) (put cs d) ds (k.code ∙ h.0, k.table) f.1 l))
  where
    go : (t : Bool) → ltb 8 (length (put cs d)) ≡ t
        → (Put w (kept_path w (packed d)) (put cs d) → (joined (kept_path w (packed d)) (map packed ds)).code ≡ 14)
        → (joined (kept_path w (packed d)) (map packed ds)).code ≡ 14
    go true e next =
        joined_full (kept_path w (packed d)) (map packed ds)
        (ap (λ (x : Scan). x.code) (kept_ninth w cs h.1 d f.0 (ltb-true 8 (length (put cs d)) e)))
    go false e next = next (kept_room w cs h.1 d f.0 (ltb-false 8 (length (put cs d)) e))

-- ---- the queries in turn

-- once there is a ninth the other refusals come first still
joint_full : (k : ℕ) (s : List ℕ) (w : Scan) → w.code ≡ 14 → (joint_scan k s w).code ≡ then (queries_code k s) 14
unfolding joint_scan blank
joint_full zero s w e = go (eqb (length s) 0)
  where
    go : (t : Bool) → (cond t w (blank 6)).code ≡ then (cond t 0 6) 14
    go true = e
    go false = refl
joint_full (suc k) s w e =
    let o = first_scan s in
    let v = joined w (take o.paths o.table) in
    go (eqb o.code 0) refl (joint_scan k (after_query s) v) (joint_full k (after_query s) v (joined_full w (take o.paths o.table) e))
  where
    go : (t : Bool) → eqb (first_scan s).code 0 ≡ t → (v : Scan) → v.code ≡ then (queries_code k (after_query s)) 14
        → (cond t v (blank (first_scan s).code)).code ≡ then (then (first_code s) (queries_code k (after_query s))) 14
    go true p v h = h ∙ rw (sym (first_judged s) ∙ eqb-true _ _ p) refl
    go false p v h = rw (← first_judged s, p, p) refl

-- what is known of a reading that starts from a table that holds cs: it refuses as the queries are judged, then by 14; and else it holds them all
record Joint (k : ℕ) (s : List ℕ) (cs : List PathReduction) (w : Scan) : Type 0 where
  judged : w.code ≡ then (queries_code k s) (cond (ltb 8 (length (put_all cs (all_written (queries_in k s))))) 14 0)
  holds : w.code ≡ 0 → Table w (put_all cs (all_written (queries_in k s)))

-- one query more at the front, which was accepted
module _ (k : ℕ) (s : List ℕ) (b : Bytes s) (z : first_code s ≡ 0) (w : Scan) (cs : List PathReduction) (h : Held w cs) where
  abbrev own : List PathReduction
  own = written_paths (query_of (first_query s))

  abbrev rest : List PathReduction
  rest = all_written (queries_in k (after_query s))

  table : Table (first_scan s) (put_all [] own)
  table = first_table s b z

  abbrev next : Scan
  next = joined w (take (first_scan s).paths (first_scan s).table)

  numbers : next ≡ joined w (map packed (put_all [] own))
  numbers = ap (joined w) (numbers_held (first_scan s) (put_all [] own) table)

  same : put_all cs (put_all [] own) ≡ put_all cs own
  same = put_again cs own

  all : put_all (put_all cs own) rest ≡ put_all cs (own ++ rest)
  all = sym (put_all_append cs own rest)

  -- there is room for its path reductions
  with_room : length (put_all cs own) ≤ 8 → Held next (put_all cs own)
  with_room l = subst (λ (v : Scan). Held v (put_all cs own)) (sym numbers)
      (subst (Held (joined w (map packed (put_all [] own)))) same
      (joined_room w cs (put_all [] own) h table.legal (subst (λ (ds : List PathReduction). length ds ≤ 8) (sym same) l)))

  -- or there is a ninth
  with_ninth : 8 < length (put_all cs own) → next.code ≡ 14
  with_ninth l = ap (λ (v : Scan). v.code) numbers
      ∙ joined_ninth w cs (put_all [] own) h table.legal (subst (λ (ds : List PathReduction). 8 < length ds) (sym same) l)

  joint_room : {v : Scan} → Joint k (after_query s) (put_all cs own) v → Joint (suc k) s cs v
  joint_room {v} j = record {
    judged = j.judged ∙ rw (z, all) refl;
    holds = λ e. subst (Table v) all (j.holds e);
  }

  joint_ninth : {v : Scan} → 8 < length (put_all cs own) → v.code ≡ then (queries_code k (after_query s)) 14 → Joint (suc k) s cs v
  joint_ninth {v} l e =
      let long : 8 < length (put_all cs (own ++ rest)) = omega (arith, put_all_longer (put_all cs own) rest, ap length all) in
      let number : v.code ≡ then (then (first_code s) (queries_code k (after_query s))) (cond (ltb 8 (length (put_all cs (own ++ rest)))) 14 0) =
      e ∙ rw (z, lt-ltb 8 (length (put_all cs (own ++ rest))) long) refl in
      record {
        judged = number;
        holds = λ x. absurd (let y = (then_both (queries_code k (after_query s)) 14 (sym e ∙ x)).1 in let u : ◌≡◌ {A = ℕ} 14 0 = y in omega arith);
      }

joint_read : (k : ℕ) (s : List ℕ) → Bytes s → (w : Scan) (cs : List PathReduction) → Held w cs → Joint k s cs (joint_scan k s w)
unfolding joint_scan blank
joint_read zero s b w cs h = go (eqb (length s) 0) refl
  where
    few : ltb 8 (length cs) ≡ false
    few = le-ltb 8 (length cs) h.1.few

    go : (t : Bool) → eqb (length s) 0 ≡ t → Joint zero s cs (cond t w (blank 6))
    go true e = record { judged = h.0 ∙ rw (e, few) refl; holds = λ z. h.1 }
    go false e = record { judged = rw e refl; holds = λ z. absurd (let y : ◌≡◌ {A = ℕ} 6 0 = z in omega arith) }
joint_read (suc k) s b w cs h =
    go (eqb (first_scan s).code 0) (ltb 8 (length (put_all cs own'))) refl refl
    (λ g. joint_read k (after_query s) (drop_bytes (2 + at16 s 0) s b) next' (put_all cs own') g)
  where
    own' : List PathReduction
    own' = written_paths (query_of (first_query s))

    next' : Scan
    next' = joined w (take (first_scan s).paths (first_scan s).table)

    go : (t u : Bool) → eqb (first_scan s).code 0 ≡ t → ltb 8 (length (put_all cs own')) ≡ u
        → (Held next' (put_all cs own') → Joint k (after_query s) (put_all cs own') (joint_scan k (after_query s) next'))
        → Joint (suc k) s cs (cond t (joint_scan k (after_query s) next') (blank (first_scan s).code))
    go false u p q r = record { judged = rw (← first_judged s, p, p) refl; holds = λ z. absurd (eqb-false _ _ p z) }
    go true true p q r =
        let z = sym (first_judged s) ∙ eqb-true _ _ p in
        let l = ltb-true 8 (length (put_all cs own')) q in
        joint_ninth k s b z w cs h l (joint_full k (after_query s) next' (with_ninth k s b z w cs h l))
    go true false p q r =
        let z = sym (first_judged s) ∙ eqb-true _ _ p in
        joint_room k s b z w cs h (r (with_room k s b z w cs h (ltb-false 8 (length (put_all cs own')) q)))

-- ---- the board

module _ (b : List ℕ) (bytes : Bytes b) where
  whole : Joint (get_or b 0 0) (drop 1 b) [] (joint_scan (get_or b 0 0) (drop 1 b) (started 0))
  unfolding started
  whole = joint_read (get_or b 0 0) (drop 1 b) (drop_bytes 1 b bytes) (started 0) [] (refl, started_table 0)

  -- IT REFUSES BY THE BOARD'S NUMBER
  pub scan_judges : (board_scan b).code ≡ board_code b
  unfolding board_scan board_code queries_of blank
  scan_judges = go (eqb (count_code b) 0)
    where
      go : (t : Bool) → (cond t (joint_scan (get_or b 0 0) (drop 1 b) (started 0)) (blank (count_code b))).code
          ≡ cond t (then (queries_code (get_or b 0 0) (drop 1 b)) (joint_code (queries_in (get_or b 0 0) (drop 1 b)))) (count_code b)
      go true = whole.judged
      go false = refl

  -- AND ELSE HOLDS THE JOINT PATH REDUCTIONS
  pub scan_holds : board_code b ≡ 0 → Table (board_scan b) (joint_paths (queries_of b))
  unfolding board_scan board_code queries_of blank
  scan_holds z = go (eqb (count_code b) 0) refl z
    where
      go : (t : Bool) → eqb (count_code b) 0 ≡ t
          → cond t (then (queries_code (get_or b 0 0) (drop 1 b)) (joint_code (queries_in (get_or b 0 0) (drop 1 b)))) (count_code b) ≡ 0
          → Table (cond t (joint_scan (get_or b 0 0) (drop 1 b) (started 0)) (blank (count_code b))) (joint_paths (queries_in (get_or b 0 0) (drop 1 b)))
      go true e z = whole.holds (whole.judged ∙ z)
      go false e z = absurd (eqb-false (count_code b) 0 e z)
