-- THE READER OF TERMS, over pieces, which a query's terms and a plan's expressions both are: where the bytes of legal parts are read as they, so are the bytes
-- of a literal, of an operator, and of a reduction over them; and what is read is a legal piece's bytes. Assumes nothing.
use Prim.Native.Nat.{ℕ, zero, suc, ◌+◌, ◌*◌, ◌/◌, ◌%◌, ◌^◌, ◌≤◌, ◌<◌, max}
use mathlib.Core.Path.{◌≡◌, refl, sym, ap, ap₂, ◌∙◌, subst}
use mathlib.Core.Bool.{Bool, true, false, cond}
use mathlib.Core.List.{List, [], ◌∷◌, ◌++◌, append_assoc}
use native.Mathlib.Omega.{arith}
use borrow.Author.Tests.{ltb-false, eqb-true, eqb-false, le-ltb, eq-eqb, ne_eqb}
use lib.Dec.{ltb, eqb}
use lib.ListN.{length, get_or, drop, length-append}
use Rattle.meaning.specs.Plan.{among, put, put_all}
use Rattle.meaning.specs.Query.{PathReduction}
use Rattle.meaning.proofs.Paths.{put_all_append}
use Rattle.wire.specs.Wire.{Bytes, le32}
use Rattle.progress.specs.Progress.{Scan}
use Rattle.fields.specs.Fields.{code_of}
use Rattle.terms.specs.declared.TermKind.{TermKind}
use Rattle.terms.specs.Terms.{advanced, alone, apply_step, literal_step, literal_tag, read, term_step}
use Rattle.wire.proofs.Past.{get_or_any}
use Rattle.terms.proofs.Laws.{accepted_as, read_accepted}
use Rattle.term_text.proofs.Fields.{code_range, code_zero, drop_at, nth, present}
use Rattle.term_text.proofs.Steps.{drop_on, four_bytes, read_by, read_flat, read_starts, step_is, stops, table_advanced, tag_there, there}
use Rattle.term_text.proofs.Table.{Further, Table}

-- what the reader sees of a term: its bytes, how many terms it is, how deep, the path reductions and reductions in it, and what makes it legal
pub record Piece : Type 1 where
  pub bytes : List ℕ
  pub size : ℕ
  pub deep : ℕ
  pub paths : List PathReduction
  pub count : ℕ
  pub fine : Type 0

-- a literal; two bytes, the second one of so many, and one piece or two behind them: `count` makes the reductions of those in them
abbrev pub literal_piece : TermKind → ℕ → Piece
literal_piece m k = record { bytes = literal_tag m ∷ le32 k; size = 1; deep = 1; paths = []; count = 0; fine = k < 2 ^ 32 }

abbrev pub one_piece : (tag o most : ℕ) → (ℕ → ℕ) → Piece → Piece
one_piece tag o most count P = record {
  bytes = tag ∷ o ∷ P.bytes;
  size = suc P.size;
  deep = suc P.deep;
  paths = P.paths;
  count = count P.count;
  fine = (1 ≤ o) × (o ≤ most) × P.fine;
}

abbrev pub two_piece : (tag o most : ℕ) → (ℕ → ℕ → ℕ) → Piece → Piece → Piece
two_piece tag o most count P Q = record {
  bytes = tag ∷ o ∷ (P.bytes ++ Q.bytes);
  size = suc (P.size + Q.size);
  deep = suc (max P.deep Q.deep);
  paths = P.paths ++ Q.paths;
  count = count P.count Q.count;
  fine = (1 ≤ o) × (o ≤ most) × P.fine × Q.fine;
}

-- an operator and its two terms
abbrev pub apply_piece : TermKind → ℕ → Piece → Piece → Piece
apply_piece m o = two_piece (literal_tag m + 1) o 11 ◌+◌

-- the piece is legal after what w has read, with d levels of depth left
pub record Room (d : ℕ) (w : Scan) (cs : List PathReduction) (P : Piece) : Type 0 where
  pub fine : P.fine
  pub shallow : P.deep ≤ d
  pub terms : w.terms + P.size ≤ 64
  pub paths : length (put_all cs P.paths) ≤ 8
  pub reductions : w.reductions + P.count ≤ 8

-- w' has read the piece after w
abbrev pub After : Scan → Scan → List PathReduction → Piece → Type 0
After w w' cs P = Further w w' (put_all cs P.paths) (length P.bytes) (w.terms + P.size) (w.reductions + P.count)

-- with more path reductions put after it a list is no shorter
put_all_grows : (cs ds : List PathReduction) → length cs ≤ length (put_all cs ds)
put_all_grows cs [] = omega arith
put_all_grows cs (d ∷ ds) = omega (arith, grows (among d cs), put_all_grows (put cs d) ds)
  where
    grows : (b : Bool) → length cs ≤ length (cond b cs (cs ++ (d ∷ [])))
    grows true = omega arith
    grows false = omega (arith, length-append cs (d ∷ []))

module _ (s : List ℕ) (Ready : Scan → Type 0) where
  -- the bytes of the piece are read as it
  abbrev pub Complete : TermKind → Piece → Type 0
  Complete m P =
      (d : ℕ) (w : Scan) (cs : List PathReduction) (rest : List ℕ) → w.code ≡ 0 → Table w cs → Ready w → drop w.at s ≡ P.bytes ++ rest
      → Room d w cs P → After w (read m d s w) cs P

  -- what has read the piece is as ready as before
  abbrev pub Past : Piece → Type 0
  Past P = (w w' : Scan) (cs : List PathReduction) → Ready w → Table w cs → After w w' cs P → Ready w'

  -- a legal term of T whose bytes stand next; two of them, behind two bytes
  abbrev pub Found : (T : Type 0) → (T → Piece) → ℕ → Scan → List PathReduction → Type 0
  Found T piece d w cs = (t : T) × (rest : List ℕ) × (drop w.at s ≡ (piece t).bytes ++ rest) × Room d w cs (piece t)

  abbrev pub FoundTwo : (T : Type 0) → (T → Piece) → (tag o most : ℕ) → (ℕ → ℕ → ℕ) → ℕ → Scan → List PathReduction → Type 0
  FoundTwo T piece tag o most count d w cs =
      (t : T) × (u : T) × (rest : List ℕ) × (drop w.at s ≡ (two_piece tag o most count (piece t) (piece u)).bytes ++ rest)
      × Room d w cs (two_piece tag o most count (piece t) (piece u))

  -- what is read with d levels of depth is such a term
  abbrev pub Sound : TermKind → (T : Type 0) → (T → Piece) → ℕ → Type 0
  Sound m T piece d =
      (w : Scan) (cs : List PathReduction) → w.code ≡ 0 → Table w cs → Ready w → (read m d s w).code ≡ 0 → Found T piece d w cs

  -- w1 stands behind the first two bytes of a term at w, which is r reductions
  pub record Behind (w w1 : Scan) (cs : List PathReduction) (r : ℕ) : Type 0 where
    pub code : w1.code ≡ 0
    pub at : w1.at ≡ w.at + 2
    pub terms : w1.terms ≡ w.terms + 1
    pub reductions : w1.reductions ≡ w.reductions + r
    pub table : Table w1 cs
    pub ready : Ready w1

  -- two bytes, and a text behind them
  behind_text : (w w1 : Scan) (cs : List PathReduction) (r tag : ℕ) (l : List ℕ) → Behind w w1 cs r → w.at < length s → get_or s w.at 0 ≡ tag
      → w.at + 1 < length s → drop w1.at s ≡ l → drop w.at s ≡ tag ∷ get_or s (w.at + 1) 256 ∷ l
  behind_text w w1 cs r tag l b h first k e =
      drop_at s w.at h
      ∙ ap₂ (λ (x : ℕ) (l : List ℕ). x ∷ l) (get_or_any s w.at 256 0 h ∙ first)
      (drop_at s (w.at + 1) k
      ∙ ap (λ (l : List ℕ). get_or s (w.at + 1) 256 ∷ l)
      (ap (λ (i : ℕ). drop i s) (let p : w.at + 1 + 1 ≡ w1.at = omega (arith, b.at) in p) ∙ e))

  -- TWO BYTES AND ONE TERM
  module _ (m inner : TermKind) (tag most r : ℕ) (count : ℕ → ℕ) (adds : (x : ℕ) → count x ≡ r + x) (d : ℕ) (w w1 : Scan)
      (cs : List PathReduction)
      (b : Behind w w1 cs r) (reads : read m (suc d) s w ≡ read inner d s w1) where
    pub one_complete : (o : ℕ) (P : Piece) → Complete inner P → (rest : List ℕ) → drop w.at s ≡ (one_piece tag o most count P).bytes ++ rest
        → Room (suc d) w cs (one_piece tag o most count P) → After w (read m (suc d) s w) cs (one_piece tag o most count P)
    one_complete o P complete rest e room =
        let next : drop w1.at s ≡ P.bytes ++ rest =
        ap (λ (i : ℕ). drop i s) b.at ∙ drop_on s w.at 2 (tag ∷ o ∷ []) (P.bytes ++ rest) e refl in
        let more = adds P.count in
        let a = complete d w1 cs rest b.code b.table b.ready next
        (record {
          fine = room.fine.2;
          shallow = omega (arith, room.shallow);
          terms = omega (arith, room.terms, b.terms);
          paths = room.paths;
          reductions = omega (arith, room.reductions, b.reductions, more);
        }) in
        subst (λ (v : Scan). After w v cs (one_piece tag o most count P)) (sym reads)
        (record {
          code = a.code;
          at = omega (arith, a.at, b.at);
          terms = omega (arith, a.terms, b.terms);
          reductions = omega (arith, a.reductions, b.reductions, more);
          table = a.table;
        })

    pub one_found : (T : Type 0) (piece : T → Piece) → Sound inner T piece d → w.at < length s → get_or s w.at 0 ≡ tag → w.at + 1 < length s
        → 1 ≤ get_or s (w.at + 1) 256 → get_or s (w.at + 1) 256 ≤ most → (read m (suc d) s w).code ≡ 0
        → Found T (λ t. one_piece tag (get_or s (w.at + 1) 256) most count (piece t)) (suc d) w cs
    one_found T piece sound h first l lo hi e =
        let f = sound w1 cs b.code b.table b.ready (accepted_as reads e) in
        let x = f.3 in (
          f.0,
          f.1,
          behind_text w w1 cs r tag ((piece f.0).bytes ++ f.1) b h first l f.2,
          record {
            fine = (lo, hi, x.fine);
            shallow = omega (arith, x.shallow);
            terms = omega (arith, x.terms, b.terms);
            paths = x.paths;
            reductions = omega (arith, x.reductions, b.reductions, adds (piece f.0).count);
          },
        )

  -- TWO BYTES AND TWO TERMS
  module _ (m inner : TermKind) (tag most r : ℕ) (count : ℕ → ℕ → ℕ) (adds : (x y : ℕ) → count x y ≡ r + x + y) (d : ℕ) (w w1 : Scan)
      (cs : List PathReduction) (b : Behind w w1 cs r) (reads : read m (suc d) s w ≡ read inner d s (read inner d s w1)) where
    pub two_complete : (o : ℕ) (P Q : Piece) → Complete inner P → Complete inner Q → Past P → (rest : List ℕ)
        → drop w.at s ≡ (two_piece tag o most count P Q).bytes ++ rest
        → Room (suc d) w cs (two_piece tag o most count P Q) → After w (read m (suc d) s w) cs (two_piece tag o most count P Q)
    two_complete o P Q first second past rest e room =
        let e1 : drop w1.at s ≡ P.bytes ++ (Q.bytes ++ rest) =
        ap (λ (i : ℕ). drop i s) b.at ∙ drop_on s w.at 2 (tag ∷ o ∷ []) ((P.bytes ++ Q.bytes) ++ rest) e refl
        ∙ append_assoc P.bytes Q.bytes rest in
        let f = room.fine in
        let more = adds P.count Q.count in
        let grow = put_all_append cs P.paths Q.paths in
        let few : length (put_all cs P.paths) ≤ 8 = omega (arith, room.paths, ap length grow, put_all_grows (put_all cs P.paths) Q.paths) in
        let a = first d w1 cs (Q.bytes ++ rest) b.code b.table b.ready e1
        (record {
          fine = f.2;
          shallow = omega (arith, room.shallow);
          terms = omega (arith, room.terms, b.terms);
          paths = few;
          reductions = omega (arith, room.reductions, b.reductions, more);
        }) in
        let w2 : Scan = read inner d s w1 in
        let e2 : drop w2.at s ≡ Q.bytes ++ rest =
        ap (λ (i : ℕ). drop i s) a.at ∙ drop_on s w1.at (length P.bytes) P.bytes (Q.bytes ++ rest) e1 refl in
        let c = second d w2 (put_all cs P.paths) rest a.code a.table (past w1 w2 cs b.ready b.table a) e2
        (record {
          fine = f.3;
          shallow = omega (arith, room.shallow);
          terms = omega (arith, room.terms, a.terms, b.terms);
          paths = omega (arith, room.paths, ap length grow);
          reductions = omega (arith, room.reductions, a.reductions, b.reductions, more);
        }) in
        subst (λ (v : Scan). After w v cs (two_piece tag o most count P Q)) (sym reads)
        (record {
          code = c.code;
          at = omega (arith, c.at, a.at, b.at, length-append P.bytes Q.bytes);
          terms = omega (arith, c.terms, a.terms, b.terms);
          reductions = omega (arith, c.reductions, a.reductions, b.reductions, more);
          table = subst (Table (read inner d s w2)) (sym grow) c.table;
        })

    pub two_found : (T : Type 0) (piece : T → Piece) → ((t : T) → Complete inner (piece t)) → ((t : T) → Past (piece t)) → Sound inner T piece d
        → w.at < length s → get_or s w.at 0 ≡ tag → w.at + 1 < length s → 1 ≤ get_or s (w.at + 1) 256 → get_or s (w.at + 1) 256 ≤ most
        → (read m (suc d) s w).code ≡ 0 → FoundTwo T piece tag (get_or s (w.at + 1) 256) most count (suc d) w cs
    two_found T piece complete past sound h first l lo hi e =
        let f = sound w1 cs b.code b.table b.ready (read_accepted inner d s (read inner d s w1) (accepted_as reads e)) in
        second f.0 f.1 f.2 f.3
      where
        w2 : Scan
        w2 = read inner d s w1

        third : (t u : T) (before rest : List ℕ) → After w1 w2 cs (piece t) → drop w1.at s ≡ (piece t).bytes ++ before → Room d w1 cs (piece t)
            → drop w2.at s ≡ (piece u).bytes ++ rest → Room d w2 (put_all cs (piece t).paths) (piece u)
            → FoundTwo T piece tag (get_or s (w.at + 1) 256) most count (suc d) w cs
        third t u before rest a e1 x e2 y =
            let P = piece t in
            let Q = piece u in
            let grow = put_all_append cs P.paths Q.paths in
            let next : before ≡ Q.bytes ++ rest =
            sym (ap (λ (i : ℕ). drop i s) a.at ∙ drop_on s w1.at (length P.bytes) P.bytes before e1 refl) ∙ e2 in (
              t,
              u,
              rest,
              behind_text w w1 cs r tag ((P.bytes ++ Q.bytes) ++ rest) b h first l
                  (e1 ∙ ap (λ (l : List ℕ). P.bytes ++ l) next ∙ sym (append_assoc P.bytes Q.bytes rest)),
              record {
                fine = (lo, hi, x.fine, y.fine);
                shallow = omega (arith, x.shallow, y.shallow);
                terms = omega (arith, y.terms, a.terms, b.terms);
                paths = omega (arith, y.paths, ap length grow);
                reductions = omega (arith, y.reductions, a.reductions, b.reductions, adds P.count Q.count);
              },
            )

        second : (t : T) (rest : List ℕ) → drop w1.at s ≡ (piece t).bytes ++ rest → Room d w1 cs (piece t)
            → FoundTwo T piece tag (get_or s (w.at + 1) 256) most count (suc d) w cs
        second t rest e1 x =
            let a = complete t d w1 cs rest b.code b.table b.ready e1 x in
            let g = sound w2 (put_all cs (piece t).paths) a.code a.table (past t w1 w2 cs b.ready b.table a) (accepted_as reads e) in
            third t g.0 rest g.1 a e1 x g.2 g.3

module _ (s : List ℕ) (m : TermKind) (Ready : Scan → Type 0) (on : (w : Scan) (n : ℕ) → Ready w → Ready (advanced w n)) where
  -- LITERALS: a term with that tag is read by its step
  literal_step_is : (d : ℕ) (w : Scan) → w.at < length s → w.terms < 64 → get_or s w.at 0 ≡ literal_tag m
      → term_step m (suc d) s w ≡ literal_step s w
  literal_step_is d w h k tag = step_is s m d w h k ∙ rw (tag, eq-eqb (literal_tag m) (literal_tag m) refl) refl

  pub literal_complete : (k : ℕ) → Complete s Ready m (literal_piece m k)
  unfolding advanced literal_step
  literal_complete k zero w cs rest z t r e room = absurd (omega (arith, room.shallow))
  literal_complete k (suc d) w cs rest z t r e room =
      let i = there s w.at (literal_tag m) (le32 k ++ rest) e in
      let tag = tag_there s w.at (literal_tag m) (le32 k ++ rest) e in
      let last : get_or s (w.at + 4) 256 ≡ k / 65536 / 256 % 256 = rw (nth s w.at 4 (w.at + 4) 256 refl, e) refl in
      let made : literal_step s w ≡ alone (advanced w (w.at + 4 + 1)) = rw (last, le-ltb 255 (k / 65536 / 256 % 256) (omega arith)) refl in
      let reads = read_by s m d w z (alone (advanced w (w.at + 4 + 1))) (literal_step_is d w i (omega (arith, room.terms)) tag ∙ made) in
      subst (λ (v : Scan). After w v cs (literal_piece m k)) (sym reads)
      (record { code = z; at = omega arith; terms = refl; reductions = omega arith; table = table_advanced w cs (w.at + 4 + 1) t })

  literal_found : Bytes s → (d : ℕ) (w : Scan) (cs : List PathReduction) → w.code ≡ 0 → Table w cs → w.at < length s → w.terms < 64
      → get_or s w.at 0 ≡ literal_tag m → (read m (suc d) s w).code ≡ 0 → Found s Ready ℕ (literal_piece m) (suc d) w cs
  unfolding literal_step
  literal_found bytes d w cs z t h k tag e = go (ltb 255 (get_or s (w.at + 4) 256)) refl
    where
      there_is : w.at + 4 < length s → Found s Ready ℕ (literal_piece m) (suc d) w cs
      there_is l =
          let b1 = get_or s (w.at + 1) 256 in
          let b2 = get_or s (w.at + 2) 256 in
          let b3 = get_or s (w.at + 3) 256 in
          let b4 = get_or s (w.at + 4) 256 in
          let h1 = small 1 (omega arith) in
          let h2 = small 2 (omega arith) in
          let h3 = small 3 (omega arith) in
          let h4 = small 4 l in (
            b1 + 256 * b2 + 65536 * (b3 + 256 * b4),
            drop (w.at + 5) s,
            drop_at s w.at h
                ∙ ap₂ (λ (x : ℕ) (l : List ℕ). x ∷ l) (get_or_any s w.at 256 0 h ∙ tag)
                (next 1 2 (omega arith) (omega arith)
                ∙ ap (λ (l : List ℕ). b1 ∷ l) (next 2 3 (omega arith) (omega arith)
                ∙ ap (λ (l : List ℕ). b2 ∷ l) (next 3 4 (omega arith) (omega arith)
                ∙ ap (λ (l : List ℕ). b3 ∷ l) (next 4 5 l (omega arith))))
                ∙ ap (λ (l : List ℕ). l ++ drop (w.at + 5) s) (sym (four_bytes b1 b2 b3 b4 h1 h2 h3 h4))),
            record { fine = omega arith; shallow = omega arith; terms = omega arith; paths = t.few; reductions = omega (arith, t.few_reductions) },
          )
        where
          small : (i : ℕ) → w.at + i < length s → get_or s (w.at + i) 256 < 256
          small i l = rw (get_or_any s (w.at + i) 256 0 l) (bytes (w.at + i))

          next : (i j : ℕ) → w.at + i < length s → w.at + i + 1 ≡ w.at + j → drop (w.at + i) s ≡ get_or s (w.at + i) 256 ∷ drop (w.at + j) s
          next i j l q = drop_at s (w.at + i) l ∙ ap (λ (n : ℕ). get_or s (w.at + i) 256 ∷ drop n s) q

      go : (b : Bool) → ltb 255 (get_or s (w.at + 4) 256) ≡ b → Found s Ready ℕ (literal_piece m) (suc d) w cs
      go true p = absurd (stops s m d w z 1 (λ q. omega arith) (literal_step_is d w h k tag ∙ rw p refl) e)
      go false p = there_is (present s (w.at + 4) (ltb-false 255 (get_or s (w.at + 4) 256) p))

  -- OPERATORS: two bytes and two terms of the same kind
  apply_step_is : (d : ℕ) (w : Scan) → w.at < length s → w.terms < 64 → get_or s w.at 0 ≡ literal_tag m + 1
      → term_step m (suc d) s w ≡ apply_step m s w
  apply_step_is d w h k tag =
      step_is s m d w h k
      ∙ rw (tag, ne_eqb (literal_tag m + 1) (literal_tag m) (λ p. omega arith), eq-eqb (literal_tag m + 1) (literal_tag m + 1) refl) refl

  apply_reads : (d : ℕ) (w : Scan) → w.code ≡ 0 → w.at < length s → w.terms < 64 → get_or s w.at 0 ≡ literal_tag m + 1
      → code_of (get_or s (w.at + 1) 256) 11 ≡ 0 → read m (suc d) s w ≡ read m d s (read m d s (advanced w (w.at + 1 + 1)))
  unfolding apply_step
  apply_reads d w z h k tag c =
      read_by s m d w z (record { progress = advanced w (w.at + 1 + 1); follow = 2; inner = m }) (apply_step_is d w h k tag ∙ rw c refl)

  apply_behind : (w : Scan) (cs : List PathReduction) → w.code ≡ 0 → Table w cs → Ready w → Behind s Ready w (advanced w (w.at + 1 + 1)) cs 0
  unfolding advanced
  apply_behind w cs z t r = record {
    code = z;
    at = omega arith;
    terms = refl;
    reductions = omega arith;
    table = table_advanced w cs (w.at + 1 + 1) t;
    ready = on w (w.at + 1 + 1) r;
  }

  pub apply_complete : (o : ℕ) (P Q : Piece) → Complete s Ready m P → Complete s Ready m Q → Past s Ready P → Complete s Ready m (apply_piece m o P Q)
  apply_complete o P Q first second past zero w cs rest z t r e room = absurd (omega (arith, room.shallow))
  apply_complete o P Q first second past (suc d) w cs rest z t r e room =
      let l : List ℕ = o ∷ ((P.bytes ++ Q.bytes) ++ rest) in
      let i = there s w.at (literal_tag m + 1) l e in
      let tag = tag_there s w.at (literal_tag m + 1) l e in
      let b : get_or s (w.at + 1) 256 ≡ o = rw (nth s w.at 1 (w.at + 1) 256 refl, e) refl in
      let f = room.fine in
      let c : code_of (get_or s (w.at + 1) 256) 11 ≡ 0 = rw b (code_zero o 11 f.0 f.1 (omega arith)) in
      two_complete s Ready m m (literal_tag m + 1) 11 0 ◌+◌ (λ x y. omega arith) d w (advanced w (w.at + 1 + 1)) cs (apply_behind w cs z t r)
      (apply_reads d w z i (omega (arith, room.terms)) tag c) o P Q first second past rest e room

  -- WHAT IS READ IS A LEGAL TERM, of terms that have literals and operators, and where other tags lead to one
  module _ (T : Type 0) (piece : T → Piece) (complete : (t : T) → Complete s Ready m (piece t)) (past : (t : T) → Past s Ready (piece t))
      (a_literal : (d : ℕ) (w : Scan) (cs : List PathReduction) → Found s Ready ℕ (literal_piece m) d w cs → Found s Ready T piece d w cs)
      (an_operator : (o d : ℕ) (w : Scan) (cs : List PathReduction) → FoundTwo s Ready T piece (literal_tag m + 1) o 11 ◌+◌ d w cs
      → Found s Ready T piece d w cs) (bytes : Bytes s) where
    pub none_found : Sound s Ready m T piece zero
    none_found w cs z t r e = absurd (read_flat s m w z e)

    -- what stands behind any other tag
    abbrev pub LeafSound : ℕ → Type 0
    LeafSound d =
        (w : Scan) (cs : List PathReduction) → w.code ≡ 0 → Table w cs → Ready w → w.at < length s → w.terms < 64
        → eqb (get_or s w.at 0) (literal_tag m) ≡ false → eqb (get_or s w.at 0) (literal_tag m + 1) ≡ false → (read m (suc d) s w).code ≡ 0
        → Found s Ready T piece (suc d) w cs

    pub term_found : (d : ℕ) → LeafSound d → Sound s Ready m T piece d → Sound s Ready m T piece (suc d)
    unfolding apply_step
    term_found d leaf sound w cs z t r e =
        let b = read_starts s m d w z e in
        go b.0 b.1 (eqb (get_or s w.at 0) (literal_tag m)) (eqb (get_or s w.at 0) (literal_tag m + 1)) refl refl
      where
        operator : w.at < length s → w.terms < 64 → get_or s w.at 0 ≡ literal_tag m + 1 → (x : Bool)
            → eqb (code_of (get_or s (w.at + 1) 256) 11) 0 ≡ x → Found s Ready T piece (suc d) w cs
        operator h k tag false p =
            absurd (stops s m d w z (code_of (get_or s (w.at + 1) 256) 11) (eqb-false (code_of (get_or s (w.at + 1) 256) 11) 0 p)
            (apply_step_is d w h k tag ∙ rw p refl) e)
        operator h k tag true p =
            let c = eqb-true (code_of (get_or s (w.at + 1) 256) 11) 0 p in
            let range = code_range (get_or s (w.at + 1) 256) 11 c in
            an_operator (get_or s (w.at + 1) 256) (suc d) w cs
            (two_found s Ready m m (literal_tag m + 1) 11 0 ◌+◌ (λ x y. omega arith) d w (advanced w (w.at + 1 + 1)) cs (apply_behind w cs z t r)
            (apply_reads d w z h k tag c) T piece complete past sound h tag (present s (w.at + 1) range.0) range.1 range.2 e)

        go : w.at < length s → w.terms < 64 → (x y : Bool) → eqb (get_or s w.at 0) (literal_tag m) ≡ x
            → eqb (get_or s w.at 0) (literal_tag m + 1) ≡ y → Found s Ready T piece (suc d) w cs
        go h k true y p q = a_literal (suc d) w cs (literal_found bytes d w cs z t h k (eqb-true (get_or s w.at 0) (literal_tag m) p) e)
        go h k false true p q =
            operator h k (eqb-true (get_or s w.at 0) (literal_tag m + 1) q) (eqb (code_of (get_or s (w.at + 1) 256) 11) 0) refl
        go h k false false p q = leaf w cs z t r h k p q e
