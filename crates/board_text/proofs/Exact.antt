-- THE READER OF BOARDS ACCEPTS WHAT DOCUMENT 02, d) LAYS DOWN, AND THAT ONLY: the accepted bytes are exactly the encodings of legal boards, and their queries
-- are seen from them. Assumes nothing.
use Prim.Native.Nat.{ℕ, zero, suc, ◌+◌, ◌*◌, ◌/◌, ◌%◌, ◌≤◌, ◌<◌}
use mathlib.Core.Path.{◌≡◌, refl, sym, ap, ap₂, ◌∙◌}
use mathlib.Core.Bool.{Bool, true, false, cond}
use mathlib.Core.List.{List, [], ◌∷◌, ◌++◌}
use native.Mathlib.Omega.{arith}
use borrow.Author.Tests.{eqb-true, le-ltb, ltb-false, ne_eqb}
use lib.Dec.{ltb, eqb}
use lib.ListN.{length, get_or, take, drop, length-append, length-drop, length-take, take-append-drop}
use lib.Seq.{drop_at, drop-cons, drop-drop, take_at}
use Rattle.meaning.specs.Limits.{QueryLegal}
use Rattle.meaning.specs.Query.{Query}
use Rattle.packed_path.proofs.Keys.{digits}
use Rattle.query.specs.Query.{query_code}
use Rattle.query.specs.Query as query
use Rattle.query.specs.Tree.{query_of}
use Rattle.query.proofs.Longest.{query_short}
use Rattle.query.proofs.Tree.{query_accepted, query_back, query_read}
use Rattle.term_text.proofs.Tree.{seen}
use Rattle.walks.specs.Lists.{All}
use Rattle.wire.specs.Wire.{Bytes, at16, le16}
use Rattle.wire.proofs.Codes.{past, then_both, then_zero}
use Rattle.board_text.specs.Board.{BoardLegal, after_query, board_code, count_code, encode, first_code, first_query, joint_paths, queries_bytes, queries_code}
use Rattle.board_text.specs.Board.{queries_in, queries_of}
use Rattle.board_text.proofs.Joint.{drop_bytes, first_bytes, first_passed}
use Rattle.board_text.proofs.Reading.{counted}

-- ---- one query more

-- a number of 16 bits in its two bytes
half_back : (x : ℕ) → x < 65536 → x % 256 + 256 * (x / 256 % 256) ≡ x
half_back x h = omega arith

half_bytes : (s : List ℕ) → Bytes s → 2 ≤ length s → le16 (at16 s 0) ≡ take 2 s
half_bytes [] b h = absurd (omega arith)
half_bytes (x ∷ []) b h = absurd (omega arith)
half_bytes (x ∷ (y ∷ s)) b h =
    let p = b 0 in
    let q = b 1 in
    let w = x + 256 * y in
    let d = digits (w % 256) x (w / 256) y (omega arith) p (omega arith) in
    let high : w / 256 % 256 ≡ y = omega (arith, d.1) in
    rw (d.0, high) refl

module _ (e rest : List ℕ) (short : length e < 65536) where
  abbrev text : List ℕ
  text = le16 (length e) ++ (e ++ rest)

  front : at16 (le16 (length e) ++ (e ++ rest)) 0 ≡ length e
  front = half_back (length e) short

  its_bytes : first_query (le16 (length e) ++ (e ++ rest)) ≡ e
  its_bytes = rw front (take_at e rest (length e) refl)

  behind : after_query (le16 (length e) ++ (e ++ rest)) ≡ rest
  behind = rw front (sym (drop-drop (length e) 2 text) ∙ drop_at e rest (length e) refl)

  its_code : query_code e ≡ 0 → first_code (le16 (length e) ++ (e ++ rest)) ≡ 0
  unfolding first_code
  its_code z =
      let n = length-append e rest in
      let two = le-ltb (length text) 2 (omega arith) in
      let whole = le-ltb (length text) (2 + at16 text 0) (omega (arith, n, front)) in
      rw (two, whole) (ap query_code its_bytes ∙ z)

-- every legal query is as short
query_fits : (q : Query) → QueryLegal 256 q → length (query.encode q) < 65536
query_fits q l = omega (arith, query_short 256 q l)

-- ---- all of them

queries_accepted : (qs : List Query) → All (QueryLegal 256) qs → queries_code (length qs) (queries_bytes qs) ≡ 0
queries_accepted [] l = refl
queries_accepted (q ∷ qs) l =
    then_zero (first_code (queries_bytes (q ∷ qs))) _ (its_code (query.encode q) (queries_bytes qs) (query_fits q l.0) (query_accepted q l.0))
    (ap (queries_code (length qs)) (behind (query.encode q) (queries_bytes qs) (query_fits q l.0)) ∙ queries_accepted qs l.1)

queries_back : (qs : List Query) → All (QueryLegal 256) qs → queries_in (length qs) (queries_bytes qs) ≡ qs
queries_back [] l = refl
queries_back (q ∷ qs) l =
    ap₂ (λ (x : Query) (xs : List Query). x ∷ xs)
    (ap query_of (its_bytes (query.encode q) (queries_bytes qs) (query_fits q l.0)) ∙ query_back q l.0)
    (ap (queries_in (length qs)) (behind (query.encode q) (queries_bytes qs) (query_fits q l.0)) ∙ queries_back qs l.1)

-- what accepted bytes are
record Found (k : ℕ) (s : List ℕ) : Type 0 where
  legal : All (QueryLegal 256) (queries_in k s)
  bytes : queries_bytes (queries_in k s) ≡ s
  count : length (queries_in k s) ≡ k

found : (k : ℕ) (s : List ℕ) → Bytes s → queries_code k s ≡ 0 → Found k s
found zero s b z = go s (eqb (length s) 0) refl z
  where
    go : (s : List ℕ) (t : Bool) → eqb (length s) 0 ≡ t → ◌≡◌ {A = ℕ} (cond t 0 6) 0 → Found zero s
    go [] t e z = record { legal = tt; bytes = refl; count = refl }
    go (x ∷ s) true e z = absurd (omega (arith, eqb-true (length (x ∷ s)) 0 e))
    go (x ∷ s) false e z = absurd (let y : ◌≡◌ {A = ℕ} 6 0 = z in omega arith)
found (suc k) s b z =
    let c = then_both (first_code s) (queries_code k (after_query s)) z in
    let p = first_passed s c.0 in
    let r = query_read (first_query s) (first_bytes s b) p.accepted in
    let f = found k (after_query s) (drop_bytes (2 + at16 s 0) s b) c.1 in
    let size : length (first_query s) ≡ at16 s 0 = omega (arith, length-take (at16 s 0) (drop 2 s), length-drop 2 s, p.whole, p.two) in
    let head : le16 (length (query.encode (query_of (first_query s)))) ≡ take 2 s =
    ap (λ (t : List ℕ). le16 (length t)) r.1 ∙ ap le16 size ∙ half_bytes s b p.two in
    let tail : first_query s ++ after_query s ≡ drop 2 s =
    ap (λ (t : List ℕ). first_query s ++ t) (sym (drop-drop (at16 s 0) 2 s)) ∙ take-append-drop (at16 s 0) (drop 2 s) in
    record {
      legal = (r.0, f.legal);
      bytes =
          ap₂ (λ (h t : List ℕ). h ++ t) head (ap₂ (λ (h t : List ℕ). h ++ t) r.1 f.bytes ∙ tail) ∙ take-append-drop 2 s;
      count = ap suc f.count;
    }

-- ---- boards

-- THE ENCODING OF EVERY LEGAL BOARD IS ACCEPTED
pub board_accepted : (qs : List Query) → BoardLegal 256 qs → board_code (encode qs) ≡ 0
unfolding board_code queries_of count_code
board_accepted qs l =
    let few = le-ltb 8 (length qs) l.few_queries in
    let there = ne_eqb (length (encode qs)) 0 (λ e. absurd (omega (arith, e))) in
    let some = ne_eqb (length qs) 0 (λ e. absurd (omega (arith, l.some_query))) in
    rw (there, some, few, queries_accepted qs l.queries_legal, queries_back qs l.queries_legal, le-ltb 8 (length (joint_paths qs)) l.few_paths) refl

-- AND GIVES BACK ITS QUERIES
pub board_back : (qs : List Query) → BoardLegal 256 qs → queries_of (encode qs) ≡ qs
unfolding queries_of
board_back qs l = queries_back qs l.queries_legal

-- ACCEPTED BYTES ARE THE ENCODING OF A LEGAL BOARD, whose queries they give
pub board_read : (b : List ℕ) → Bytes b → board_code b ≡ 0 → BoardLegal 256 (queries_of b) × (encode (queries_of b) ≡ b)
unfolding board_code queries_of
board_read b bytes z =
    let c = then_both (count_code b) _ z in
    let d = then_both (queries_code (get_or b 0 0) (drop 1 b)) _ c.1 in
    let n = counted b c.0 in
    let f = found (get_or b 0 0) (drop 1 b) (drop_bytes 1 b bytes) d.0 in (
      record {
        some_query = omega (arith, f.count, n.1);
        few_queries = omega (arith, f.count, n.2);
        queries_legal = f.legal;
        few_paths = ltb-false 8 _ (past (ltb 8 (length (joint_paths (queries_in (get_or b 0 0) (drop 1 b))))) 13 0 d.1).0;
      },
      ap₂ (λ (k : ℕ) (s : List ℕ). k ∷ s) f.count f.bytes ∙ sym (drop-cons b 0 0 n.0),
    )

-- SO A BOARD IS SEEN FROM ITS BYTES
pub encode_unique : (qs rs : List Query) → BoardLegal 256 qs → BoardLegal 256 rs → encode qs ≡ encode rs → qs ≡ rs
encode_unique = seen encode queries_of (BoardLegal 256) board_back
