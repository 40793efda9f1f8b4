-- The bytes of one term, and the term read from them. Assumes nothing.
use Prim.Native.Nat.{ℕ, suc, ◌+◌, ◌*◌, ◌%◌, ◌^◌, ◌≤◌, ◌<◌}
use mathlib.Core.Path.{◌≡◌, refl, sym, ap, ap₂, ◌∙◌, subst}
use mathlib.Core.Logic.{◌⊎◌, inl, inr}
use mathlib.Core.Bool.{true, false}
use mathlib.Core.List.{List, [], ◌∷◌, ◌++◌, append_assoc}
use native.Mathlib.Omega.{arith}
use borrow.Author.Tests.{lt-leb, ne_eqb}
use lib.Dec.{T, eqb, leb→le}
use lib.ListN.{length, get_or, take, drop, length-append}
use lib.Seq.{take_all}
use Rattle.walks.specs.Keys.{legal_keys}
use Rattle.walks.specs.Lists.{All}
use Rattle.meaning.specs.Limits.{TermFits}
use Rattle.meaning.specs.Query.{PathReduction, path, path_set}
use Rattle.packed_path.specs.Packed.{keys_number, packed, with_sources}
use Rattle.packed_path.proofs.Keys.{keys_digits, legal_parts}
use Rattle.packed_path.proofs.Sources.{sources_back}
use Rattle.terms.specs.declared.TermKind.{TermKind}
use Rattle.terms.specs.declared.TermKind.TheVariants.{OfVertex, OfResult, OfEntry, OfFinal}
use Rattle.terms.specs.Terms.{literal_tag}
use Rattle.term_text.specs.Text.{path_bytes, set_bytes, start_of, starts_bytes}
use Rattle.term_text.proofs.Paths.{path_numbered, set_numbered}
use Rattle.term_text.proofs.Steps.{byte_there, drop_on, tag_there, there, word_there}
use Rattle.path_fields.specs.Paths.{path_at, set_at}
use Rattle.wire.specs.Wire.{at32, le16, le32}
use Rattle.nodes.specs.declared.Term.{Term}
use Rattle.nodes.specs.declared.Term.TheVariants.{Apply, Entry, Literal, Path, PathSet, ResultApply, ResultLiteral}
use Rattle.nodes.specs.Text.{key_text, keys_text, set_text, start_field, start_text, term_text}
use Rattle.nodes.specs.Steps.{behind_set, collected, next_at, passed, reduction_tag, tagged, term_at}
use Rattle.nodes.specs.Tree.{apply_node, literal_node}

-- literals have one of two tags
pub literal_tags : (kind : TermKind) → (literal_tag kind ≡ 0x11) ⊎ (literal_tag kind ≡ 0x21)
unfolding literal_tag
literal_tags OfVertex = inl refl
literal_tags OfResult = inr refl
literal_tags OfEntry = inl refl
literal_tags OfFinal = inr refl

-- the text of legal keys is their count and the keys
keys_written : (ks : List ℕ) → T (legal_keys ks) → keys_text (keys_number (length ks) (get_or ks 0 0) (get_or ks 1 0) (get_or ks 2 0))
    ≡ length ks ∷ ks
unfolding keys_text
keys_written ks legal =
    let p = legal_parts ks legal in
    let d = keys_digits ks legal in
    rw (d.0, d.1, d.2, d.3) (go ks (leb→le (length ks) 3 p.1) (leb→le 1 (length ks) p.0))
  where
    go : (ks : List ℕ) → length ks ≤ 3 → 1 ≤ length ks
        → length ks ∷ (key_text (length ks) 0 (get_or ks 0 0) ++ (key_text (length ks) 1 (get_or ks 1 0) ++ key_text (length ks) 2 (get_or ks 2 0)))
        ≡ length ks ∷ ks
    go [] h k = absurd (omega arith)
    go (x ∷ []) h k = refl
    go (x ∷ (y ∷ [])) h k = refl
    go (x ∷ (y ∷ (z ∷ []))) h k = refl
    go (x ∷ (y ∷ (z ∷ (t ∷ ks)))) h k = absurd (omega arith)

-- that of at most one source is 16 bits; that of a set its count and the sources
pub start_written : (keys : ℕ) (ss : List ℕ) → All (λ s. s < 256) ss → length ss ≤ 1 → start_text (with_sources keys ss) ≡ le16 (start_of ss)
unfolding start_field
start_written keys [] h l = refl
start_written keys (s ∷ []) h l =
    let below : s < 256 = h.0 in
    ap le16 (let low : (s + 256 * 0) % 18446744073709551616 ≡ s = omega arith in low)
start_written keys (s ∷ (t ∷ ss)) h l = absurd (omega arith)

pub set_written : (keys : ℕ) (ss : List ℕ) → All (λ s. s < 256) ss → length ss ≤ 16
    → set_text (with_sources keys ss) ≡ length ss ∷ starts_bytes ss
set_written keys ss h l = ap (λ (t : List ℕ). length ss ∷ starts_bytes t) (ap (take 16) (sources_back keys ss h) ∙ take_all 16 ss l)

-- the byte at i says which term it is, and where the next one starts
module _ (s : List ℕ) (i x : ℕ) (l : List ℕ) (e : drop i s ≡ x ∷ l) where
  term_is : term_at s i ≡ tagged x s i
  unfolding term_at
  term_is = rw (lt-leb (length s) i (there s i x l e), tag_there s i x l e) refl

  next_is : next_at s i ≡ passed x s i
  unfolding next_at
  next_is = rw (lt-leb (length s) i (there s i x l e), tag_there s i x l e) refl

  -- the collection goes on behind it
  collected_on : (k : ℕ) (n : Term) (j : ℕ) → tagged x s i ≡ n → passed x s i ≡ j → collected (suc k) s i ≡ n ∷ collected k s j
  unfolding collected
  collected_on k n j p q = rw (term_is, next_is, p, q) refl

-- ONE TERM AND ITS BYTES: where the bytes stand the term is collected, and the terms behind it; its text is the bytes
pub record One (b : List ℕ) (n : Term) : Type 0 where
  pub collects : (s : List ℕ) (i k : ℕ) (rest : List ℕ) → drop i s ≡ b ++ rest → collected (suc k) s i ≡ n ∷ collected k s (i + length b)
  pub text : term_text n ≡ b

-- a tag and a field behind it: what the tag is read as, what the field is and where the next term starts
tagged_one : {X : Type 0} (tag : ℕ) (x : X) (b : List ℕ) (made : X → Term) (field : List ℕ → ℕ → X)
    → ((s : List ℕ) (i : ℕ) → tagged tag s i ≡ made (field s (i + 1)))
    → ((s : List ℕ) (i : ℕ) (rest : List ℕ) → drop i s ≡ tag ∷ (b ++ rest)
    → (field s (i + 1) ≡ x) × (passed tag s i ≡ i + length (tag ∷ b)))
    → term_text (made x) ≡ tag ∷ b
    → One (tag ∷ b) (made x)
tagged_one tag x b made field is on text = record {
  collects = λ s i k rest e.
      let f = on s i rest e in
      collected_on s i tag (b ++ rest) e k (made x) (i + length (tag ∷ b)) (is s i ∙ ap made f.0) f.1;
  text = text;
}

-- a tag and a byte
pub byte_one : (tag o : ℕ) (made : ℕ → Term) → ((s : List ℕ) (i : ℕ) → tagged tag s i ≡ made (get_or s (i + 1) 0))
    → ((s : List ℕ) (i : ℕ) → passed tag s i ≡ i + 2) → term_text (made o) ≡ tag ∷ o ∷ [] → One (tag ∷ o ∷ []) (made o)
byte_one tag o made is on text =
    tagged_one tag o (o ∷ []) made (λ s j. get_or s j 0) is (λ s i rest e. (byte_there s i tag o rest e, on s i)) text

-- and 32 bits
word_one : (tag x : ℕ) (made : ℕ → Term) → x < 2 ^ 32 → ((s : List ℕ) (i : ℕ) → tagged tag s i ≡ made (at32 s (i + 1)))
    → ((s : List ℕ) (i : ℕ) → passed tag s i ≡ i + 5) → term_text (made x) ≡ tag ∷ le32 x → One (tag ∷ le32 x) (made x)
word_one tag x made h is on text = tagged_one tag x (le32 x) made at32 is (λ s i rest e. (word_there s i tag x rest h e, on s i)) text

-- a literal
pub literal_one : (kind : TermKind) (x : ℕ) → x < 2 ^ 32 → One (literal_tag kind ∷ le32 x) (literal_node (literal_tag kind) x)
unfolding term_text literal_node
literal_one kind x h = go (literal_tags kind)
  where
    go : (literal_tag kind ≡ 0x11) ⊎ (literal_tag kind ≡ 0x21) → One (literal_tag kind ∷ le32 x) (literal_node (literal_tag kind) x)
    go (inl p) = rw p (word_one 0x11 x Literal h (λ s i. refl) (λ s i. refl) refl)
    go (inr p) = rw p (word_one 0x21 x ResultLiteral h (λ s i. refl) (λ s i. refl) refl)

-- an operator
pub apply_one : (kind : TermKind) (o : ℕ) → One ((literal_tag kind + 1) ∷ o ∷ []) (apply_node (literal_tag kind) o)
unfolding term_text apply_node
apply_one kind o = go (literal_tags kind)
  where
    go : (literal_tag kind ≡ 0x11) ⊎ (literal_tag kind ≡ 0x21) → One ((literal_tag kind + 1) ∷ o ∷ []) (apply_node (literal_tag kind) o)
    go (inl p) = rw p (byte_one 0x12 o Apply (λ s i. refl) (λ s i. refl) refl)
    go (inr p) = rw p (byte_one 0x22 o ResultApply (λ s i. refl) (λ s i. refl) refl)

-- a path reduction with at most one source
pub path_one : (c : PathReduction) → TermFits 256 (path c) → One (0x10 ∷ path_bytes c) (Path (packed c))
unfolding term_text
path_one c f =
    let ks = c.keys in
    let start = le16 (start_of c.sources) in
    tagged_one 0x10 (packed c) (path_bytes c) Path path_at (λ s i. refl)
    (λ s i rest e.
    let next = drop_on s i 1 (0x10 ∷ []) (path_bytes c ++ rest) e refl in
    let count = byte_there s i 0x10 (length ks) ((ks ++ start) ++ rest) e in
    (path_numbered s c f (i + 1) rest next, omega (arith, count, length-append ks start)))
    (ap₂ (λ (k v : List ℕ). 0x10 ∷ (k ++ v)) (keys_written ks f.0.0) (start_written (packed c).keys c.sources f.0.1.0 f.1))

-- two bytes for each start
pub starts_length : (ss : List ℕ) → length (starts_bytes ss) ≡ 2 * length ss
starts_length [] = refl
starts_length (s ∷ ss) = omega (arith, starts_length ss)

-- a path reduction with a set of sources
pub set_one : (c : PathReduction) → TermFits 256 (path_set c) → One (0x13 ∷ set_bytes c) (PathSet (packed c))
unfolding term_text
set_one c f =
    tagged_one 0x13 (packed c) (set_bytes c) PathSet set_at (λ s i. refl)
    (λ s i rest e. (set_numbered s c f (i + 1) rest (drop_on s i 1 (0x13 ∷ []) (set_bytes c ++ rest) e refl), behind s i rest e))
    (ap₂ (λ (k v : List ℕ). 0x13 ∷ (k ++ v)) (keys_written ks f.0.0) (set_written (packed c).keys ss f.0.1.0 f.0.1.2))
  where
    ks : List ℕ
    ks = c.keys

    ss : List ℕ
    ss = c.sources

    -- the key count and the set count say where the next term starts
    behind : (s : List ℕ) (i : ℕ) (rest : List ℕ) → drop i s ≡ 0x13 ∷ (set_bytes c ++ rest) → behind_set s i ≡ i + length (0x13 ∷ set_bytes c)
    behind s i rest e =
        let n = length ks in
        let set = length ss ∷ starts_bytes ss in
        let there : drop i s ≡ 0x13 ∷ n ∷ (ks ++ (set ++ rest)) = e ∙ ap (λ (l : List ℕ). 0x13 ∷ n ∷ l) (append_assoc ks set rest) in
        let count = byte_there s i 0x13 n (ks ++ (set ++ rest)) there in
        let set_there = drop_on s i (suc (suc n)) (0x13 ∷ n ∷ ks) (set ++ rest) there refl in
        let sources = tag_there s (i + suc (suc n)) (length ss) (starts_bytes ss ++ rest) set_there in
        let at : i + 2 + n ≡ i + suc (suc n) = omega arith in
        rw (count, at, sources) (omega (arith, length-append ks set, starts_length ss))

-- the reduction byte of an entry
pub entry_one : (r : ℕ) → reduction_tag r ≡ true → One (r ∷ []) (Entry r)
unfolding term_text
entry_one r is = record {
  collects = λ s i k rest e.
      collected_on s i r rest e k (Entry r) (i + 1)
      (rw (
        is,
        no 0x10 refl,
        no 0x11 refl,
        no 0x12 refl,
        no 0x13 refl,
        no 0x20 refl,
        no 0x21 refl,
        no 0x22 refl,
        no 0x23 refl,
        no 0x30 refl,
        no 0x31 refl,
      ) refl)
      (rw (is, no 0x10 refl, no 0x13 refl, no 0x11 refl, no 0x21 refl) refl);
  text = refl;
}
  where
    -- it is the tag of no term
    no : (x : ℕ) → reduction_tag x ≡ false → eqb r x ≡ false
    no x z = ne_eqb r x (λ p. subst T (sym is ∙ ap reduction_tag p ∙ z) tt)
