-- THE BYTES OF A LEGAL TERM GIVE BACK THE TERM AND WHERE IT ENDS: a query's (`term_back`), a plan's expression (`expression_back`). Assumes nothing.
use Prim.Native.Nat.{ℕ, zero, suc, ◌+◌, ◌*◌, ◌^◌, ◌≤◌, ◌<◌}
use mathlib.Core.Path.{◌≡◌, refl, sym, ap, ◌∙◌, subst}
use mathlib.Core.Bool.{Bool, true, false, cond}
use mathlib.Core.List.{List, [], ◌∷◌, ◌++◌, append_assoc}
use native.Mathlib.Omega.{arith}
use borrow.Author.Tests.{eq-eqb, ne_eqb}
use lib.Dec.{eqb}
use lib.ListN.{length, get_or, take, drop, length-append}
use lib.Seq.{take_at}
use Rattle.meaning.specs.Limits.{Every, TermFits, depth, depth_of}
use Rattle.meaning.specs.Plan.{Term, apply, leaf, literal}
use Rattle.meaning.specs.Query.{Kind, PathReduction, QueryTerm, VertexTerm, number, operator, over, over_where, path, path_set}
use Rattle.meaning.specs.Query.{result, vertex}
use Rattle.terms.specs.declared.TermKind.{TermKind}
use Rattle.terms.specs.Terms.{literal_tag}
use Rattle.walks.specs.Lists.{All}
use Rattle.wire.specs.Wire.{at16, at32, le16, le32}
use Rattle.term_text.specs.Text.{expression_bytes, index_tag, of_kind, path_bytes, query_bytes, set_bytes, start_of, starts_bytes}
use Rattle.term_text.specs.Tree.{Read, Reader, by_tag, expression_of, expression_to, one_of, query_term_of, several_of, two_of, written_index}
use Rattle.term_text.specs.Tree.{one_start, starts_of, written_path, written_reduction}
use Rattle.term_text.proofs.Fields.{nth}
use Rattle.term_text.proofs.Paths.{OneFits, SetFits}
use Rattle.term_text.proofs.Sources.{start_back, start_small, starts_back, starts_size}
use Rattle.term_text.proofs.Steps.{byte_there, drop_on, tag_there, word_there}

-- read, and ending behind its n bytes
abbrev pub whole : {A : Type 0} → A → ℕ → Read A
whole a n = record { tree = a; end = n }

-- where a text stands, the reader gives the thing; where the bytes of a thing stand, it gives it back
abbrev Gives : {A : Type 0} → Reader A → List ℕ → List ℕ → A → Type 0
Gives read s l a = (at : ℕ) (rest : List ℕ) → drop at s ≡ l ++ rest → read s at ≡ whole a (at + length l)

abbrev pub Back : {A : Type 0} → Reader A → (A → List ℕ) → List ℕ → A → Type 0
Back read text s a = Gives read s (text a) a

-- two bytes, and one thing or two
module _ {A B : Type 0} (read : Reader A) (s : List ℕ) (first o : ℕ) (l : List ℕ) (t : A) (gives : Gives read s l t) where
  one_back : (make : ℕ → A → B) → Gives (one_of make read) s (first ∷ o ∷ l) (make o t)
  one_back make at rest e =
      let end : at + 2 + length l ≡ at + suc (suc (length l)) = omega arith in
      rw (byte_there s at first o (l ++ rest) e, gives (at + 2) rest (drop_on s at 2 (first ∷ o ∷ []) (l ++ rest) e refl), end) refl

  two_back : (make : ℕ → A → A → B) (m : List ℕ) (u : A) → Gives read s m u → Gives (two_of make read) s (first ∷ o ∷ (l ++ m)) (make o t u)
  two_back make m u second at rest e =
      let d1 = drop_on s at 2 (first ∷ o ∷ []) ((l ++ m) ++ rest) e refl ∙ append_assoc l m rest in
      let d2 = drop_on s (at + 2) (length l) l (m ++ rest) d1 refl in
      let end : at + 2 + length l + length m ≡ at + suc (suc (length (l ++ m))) = omega (arith, length-append l m) in
      rw (byte_there s at first o ((l ++ m) ++ rest) e, gives (at + 2) (m ++ rest) d1, second (at + 2 + length l) rest d2, end) refl

-- a term is read by its first byte
module _ {A : Type 0} (make : ℕ → A) (join : ℕ → A → A → A) (tag : ℕ) (read other : Reader A) (s : List ℕ) where
  by_byte : (i : ℕ)
      → by_tag make join tag read other s i
      ≡ cond (eqb (get_or s i 0) tag) (whole (make (at32 s (i + 1))) (i + 5)) (cond (eqb (get_or s i 0) (tag + 1)) (two_of join read s i) (other s i))
  by_byte i = go (eqb (get_or s i 0) tag) (eqb (get_or s i 0) (tag + 1))
    where
      go : (a b : Bool)
          → elim a [ true ↦ whole (make (at32 s (i + 1))) (i + 5) | false ↦ elim b [ true ↦ two_of join read s i | false ↦ other s i ] ]
          ≡ cond a (whole (make (at32 s (i + 1))) (i + 5)) (cond b (two_of join read s i) (other s i))
      go true b = refl
      go false true = refl
      go false false = refl

  literal_back : (x : ℕ) → x < 2 ^ 32 → Gives (by_tag make join tag read other) s (tag ∷ le32 x) (make x)
  literal_back x h at rest e =
      by_byte at ∙ rw (tag_there s at tag (le32 x ++ rest) e, eq-eqb tag tag refl, word_there s at tag x rest h e) refl

  operator_back : (o : ℕ) (l m : List ℕ) (t u : A) → Gives read s l t → Gives read s m u
      → Gives (by_tag make join tag read other) s ((tag + 1) ∷ o ∷ (l ++ m)) (join o t u)
  operator_back o l m t u first second at rest e =
      by_byte at
      ∙ rw (tag_there s at (tag + 1) (o ∷ ((l ++ m) ++ rest)) e, ne_eqb (tag + 1) tag (λ z. omega arith), eq-eqb (tag + 1) (tag + 1) refl)
      (two_back read s (tag + 1) o l t first join m u second at rest e)

  other_back : (first : ℕ) (l : List ℕ) (a : A) → eqb first tag ≡ false → eqb first (tag + 1) ≡ false → Gives other s (first ∷ l) a
      → Gives (by_tag make join tag read other) s (first ∷ l) a
  other_back first l a p q gives at rest e = by_byte at ∙ rw (tag_there s at first (l ++ rest) e, p, q) (gives at rest e)

-- a path reduction, by its first byte: with one start or from anywhere, and with a set
path_by : (s : List ℕ) (i : ℕ)
    → written_path s i
    ≡ (let n = get_or s (i + 1) 0 in
    let k = get_or s (i + 2 + n) 0 in
    cond (eqb (get_or s i 0) 0x13)
    (whole (path_set (record { keys = take n (drop (i + 2) s); sources = starts_of k s (i + 3 + n) })) (i + 3 + n + 2 * k))
    (whole (path (record { keys = take n (drop (i + 2) s); sources = one_start (at16 s (i + 2 + n)) })) (i + 4 + n)))
unfolding written_path
path_by s i = go _ _ (eqb (get_or s i 0) 0x13)
  where
    go : (a b : Read VertexTerm) (t : Bool) → elim t [ true ↦ a | false ↦ b ] ≡ cond t a b
    go a b true = refl
    go a b false = refl

path_back : (s : List ℕ) (c : PathReduction) → OneFits c → Gives written_path s (0x10 ∷ path_bytes c) (path c)
path_back s c f at rest e =
    let n = length c.keys in
    let l = le16 (start_of c.sources) in
    let d1 : drop (at + 2) s ≡ c.keys ++ (l ++ rest) =
    drop_on s at 2 (0x10 ∷ n ∷ []) ((c.keys ++ l) ++ rest) e refl ∙ append_assoc c.keys l rest in
    let d2 = drop_on s (at + 2) n c.keys (l ++ rest) d1 refl in
    let source : at16 s (at + 2 + n) ≡ start_of c.sources =
    rw (nth s (at + 2 + n) 0 (at + 2 + n) 0 (omega arith), nth s (at + 2 + n) 1 (at + 2 + n + 1) 0 refl, d2)
    (omega (arith, start_small c.sources (f.0.1, f.1))) in
    let end : at + 4 + n ≡ at + length (0x10 ∷ path_bytes c) = omega (arith, length-append c.keys l) in
    path_by s at
    ∙ rw (
      tag_there s at 0x10 (path_bytes c ++ rest) e,
      byte_there s at 0x10 n ((c.keys ++ l) ++ rest) e,
      source,
      start_back c.sources (f.0.1, f.1),
      d1,
      take_at c.keys (l ++ rest) n refl,
      end,
    ) refl

set_back : (s : List ℕ) (c : PathReduction) → SetFits c → Gives written_path s (0x13 ∷ set_bytes c) (path_set c)
set_back s c f at rest e =
    let n = length c.keys in
    let k = length c.sources in
    let l = k ∷ starts_bytes c.sources in
    let d1 : drop (at + 2) s ≡ c.keys ++ (l ++ rest) =
    drop_on s at 2 (0x13 ∷ n ∷ []) ((c.keys ++ l) ++ rest) e refl ∙ append_assoc c.keys l rest in
    let d2 : drop (at + 2 + n) s ≡ l ++ rest = drop_on s (at + 2) n c.keys (l ++ rest) d1 refl in
    let d3 : drop (at + 3 + n) s ≡ starts_bytes c.sources ++ rest =
    ap (λ (j : ℕ). drop j s) (let z : at + 3 + n ≡ at + 2 + n + 1 = omega arith in z)
    ∙ drop_on s (at + 2 + n) 1 (k ∷ []) (starts_bytes c.sources ++ rest) d2 refl in
    let end : at + 3 + n + 2 * k ≡ at + length (0x13 ∷ set_bytes c) = omega (arith, length-append c.keys l, starts_size c.sources) in
    path_by s at
    ∙ rw (
      tag_there s at 0x13 (set_bytes c ++ rest) e,
      byte_there s at 0x13 n ((c.keys ++ l) ++ rest) e,
      tag_there s (at + 2 + n) k (starts_bytes c.sources ++ rest) d2,
      starts_back s c.sources (at + 3 + n) rest d3 f.0.1.0,
      d1,
      take_at c.keys (l ++ rest) n refl,
      end,
    ) refl

-- a reduction, by its first byte
module _ (read : Reader VertexTerm) (s : List ℕ) where
  reduction_by : (i : ℕ) → written_reduction read s i ≡ cond (eqb (get_or s i 0) 0x23) (two_of over_where read s i) (one_of over read s i)
  unfolding written_reduction
  reduction_by i = go (eqb (get_or s i 0) 0x23)
    where
      go : (b : Bool) → elim b [ true ↦ two_of over_where read s i | false ↦ one_of over read s i ]
          ≡ cond b (two_of over_where read s i) (one_of over read s i)
      go true = refl
      go false = refl

  over_back : (o : ℕ) (l : List ℕ) (t : VertexTerm) → Gives read s l t → Gives (written_reduction read) s (0x20 ∷ o ∷ l) (over o t)
  over_back o l t gives at rest e =
      reduction_by at ∙ rw (tag_there s at 0x20 (o ∷ (l ++ rest)) e) (one_back read s 0x20 o l t gives over at rest e)

  where_back : (o : ℕ) (l m : List ℕ) (c t : VertexTerm) → Gives read s l c → Gives read s m t
      → Gives (written_reduction read) s (0x23 ∷ o ∷ (l ++ m)) (over_where o c t)
  where_back o l m c t first second at rest e =
      reduction_by at ∙ rw (tag_there s at 0x23 (o ∷ ((l ++ m) ++ rest)) e) (two_back read s 0x23 o l c first over_where m t second at rest e)

-- what stands behind the bytes that are neither a literal's nor an operator's
abbrev other : (κ : Kind) → ℕ → Reader (QueryTerm κ)
other vertex d = written_path
other result d = written_reduction (query_term_of d vertex)

by_kind : (κ : Kind) (d : ℕ) (s : List ℕ) (i : ℕ)
    → query_term_of (suc d) κ s i ≡ by_tag number operator (literal_tag (of_kind κ)) (query_term_of d κ) (other κ d) s i
unfolding query_term_of literal_tag
by_kind vertex d s i = refl
by_kind result d s i = refl

no_depth : {κ : Kind} (t : QueryTerm κ) → depth_of t ≤ 0 → ⊥
no_depth (path c) h = omega arith
no_depth (path_set c) h = omega arith
no_depth (over o t) h = omega arith
no_depth (over_where o c t) h = omega arith
no_depth (number x) h = omega arith
no_depth (operator o t u) h = omega arith

-- A TERM OF A QUERY
pub term_back : (s : List ℕ) (κ : Kind) (t : QueryTerm κ) → TermFits 256 t → (d : ℕ) → depth_of t ≤ d → Back (query_term_of d κ)
    (query_bytes κ) s t
unfolding literal_tag
term_back s κ t f zero h at rest e = absurd (no_depth t h)
term_back s κ (path c) f (suc d) h at rest e =
    by_kind vertex d s at
    ∙ other_back number operator 0x11 (query_term_of d vertex) written_path s 0x10 (path_bytes c) (path c) refl refl (path_back s c f) at rest e
term_back s κ (path_set c) f (suc d) h at rest e =
    by_kind vertex d s at
    ∙ other_back number operator 0x11 (query_term_of d vertex) written_path s 0x13 (set_bytes c) (path_set c) refl refl (set_back s c f) at rest e
term_back s κ (over o t) f (suc d) h at rest e =
    by_kind result d s at
    ∙ other_back number operator 0x21 (query_term_of d result) (other result d) s 0x20 (o ∷ query_bytes vertex t) (over o t) refl refl
    (over_back (query_term_of d vertex) s o (query_bytes vertex t) t (term_back s vertex t f.2 d (omega arith))) at rest e
term_back s κ (over_where o c t) f (suc d) h at rest e =
    by_kind result d s at
    ∙ other_back number operator 0x21 (query_term_of d result) (other result d) s 0x23 (o ∷ (query_bytes vertex c ++ query_bytes vertex t))
    (over_where o c t) refl refl
    (where_back (query_term_of d vertex) s o (query_bytes vertex c) (query_bytes vertex t) c t (term_back s vertex c f.2 d (omega arith))
    (term_back s vertex t f.3 d (omega arith))) at rest e
term_back s κ (number x) f (suc d) h at rest e =
    by_kind κ d s at ∙ literal_back number operator (literal_tag (of_kind κ)) (query_term_of d κ) (other κ d) s x f at rest e
term_back s κ (operator o t u) f (suc d) h at rest e =
    by_kind κ d s at
    ∙ operator_back number operator (literal_tag (of_kind κ)) (query_term_of d κ) (other κ d) s o (query_bytes κ t) (query_bytes κ u) t u
    (term_back s κ t f.2 d (omega arith)) (term_back s κ u f.3 d (omega arith)) at rest e

-- AN EXPRESSION of a plan, whose literals have the byte `tag`
module _ (m : TermKind) (tag count : ℕ) (literals : literal_tag m ≡ tag) (p : eqb (index_tag m) tag ≡ false) (q : eqb (index_tag m) (tag + 1) ≡ false)
    (s : List ℕ) where
  expression_back_to : (t : Term ℕ) → Every (λ i. i < count) t → (d : ℕ) → depth t ≤ d → Back (expression_to d tag) (expression_bytes m) s t
  unfolding expression_to written_index
  expression_back_to t f zero h at rest e = absurd (no_level t h)
    where
      no_level : (t : Term ℕ) → depth t ≤ 0 → ⊥
      no_level (leaf i) h = omega arith
      no_level (literal x) h = omega arith
      no_level (apply o t u) h = omega arith
  expression_back_to (leaf i) f (suc d) h at rest e =
      other_back literal apply tag (expression_to d tag) written_index s (index_tag m) (i ∷ []) (leaf i) p q index_back at rest e
    where
      index_back : Gives written_index s (index_tag m ∷ i ∷ []) (leaf i)
      index_back at rest e = rw (byte_there s at (index_tag m) i rest e) refl
  expression_back_to (literal x) f (suc d) h at rest e =
      literal_back literal apply tag (expression_to d tag) written_index s x f at rest (rw literals at e)
  expression_back_to (apply o t u) f (suc d) h at rest e =
      operator_back literal apply tag (expression_to d tag) written_index s o (expression_bytes m t) (expression_bytes m u) t u
      (expression_back_to t f.2 d (omega arith)) (expression_back_to u f.3 d (omega arith)) at rest (rw literals at e)

  pub expression_back : (t : Term ℕ) → Every (λ i. i < count) t → depth t ≤ 16 → Back (expression_of tag) (expression_bytes m) s t
  expression_back t f h = expression_back_to t f 16 h

-- SEVERAL THINGS, one behind the other, where each is given back
pub several_back : {A : Type 0} (one : Reader A) (L : A → List ℕ) (fine : A → Type 0) (text : List A → List ℕ) → text [] ≡ []
    → ((a : A) (l : List A) → text (a ∷ l) ≡ L a ++ text l) → (s : List ℕ) → ((a : A) → fine a → Back one L s a) → (l : List A)
    → All fine l
    → Back (several_of one (length l)) text s l
unfolding several_of
several_back one L fine text none more s back [] f at rest e =
    let end : at ≡ at + length (text []) = rw none (omega arith) in ap (whole []) end
several_back one L fine text none more s back (a ∷ l) f at rest e =
    let e1 : drop at s ≡ L a ++ (text l ++ rest) = e ∙ ap (λ (x : List ℕ). x ++ rest) (more a l) ∙ append_assoc (L a) (text l) rest in
    let e2 = drop_on s at (length (L a)) (L a) (text l ++ rest) e1 refl in
    let b = several_back one L fine text none more s back l f.1 (at + length (L a)) rest e2 in
    let end : at + length (L a) + length (text l) ≡ at + length (text (a ∷ l)) = rw (more a l) (omega (arith, length-append (L a) (text l))) in
    rw (back a f.0 at (text l ++ rest) e1, b, end) refl

-- WHAT A READER GIVES BACK OF EVERY LEGAL THING'S BYTES: the thing is seen from its bytes, and bytes that are a legal thing's are those of what it gives
module _ {A : Type 0} (encode : A → List ℕ) (of : List ℕ → A) (Legal : A → Type 0) (back : (a : A) → Legal a → of (encode a) ≡ a) where
  pub seen : (a b : A) → Legal a → Legal b → encode a ≡ encode b → a ≡ b
  seen a b l m e = sym (back a l) ∙ ap of e ∙ back b m

  pub given : (s : List ℕ) → (a : A) × Legal a × (encode a ≡ s) → Legal (of s) × (encode (of s) ≡ s)
  given s f =
      let e : f.0 ≡ of s = sym (back f.0 f.1) ∙ ap of f.2 in
      (subst Legal e f.1, ap encode (sym e) ∙ f.2)
