-- What the code's proofs cite: one source more, one key more, one edge more, the figures key by key, one vertex more. Assumes nothing.
use Prim.Native.Nat.{ℕ, zero, suc, ◌+◌, ◌-◌, ◌*◌, ◌/◌, ◌<◌, ◌≤◌, min}
use mathlib.Core.Path.{◌≡◌, refl, sym, ap, ◌∙◌}
use mathlib.Core.Bool.{Bool, true, false, cond, not, ◌&&◌, ◌||◌, and-false, not-not}
use mathlib.Core.List.{List, [], ◌∷◌, foldl, foldl-append}
use mathlib.Core.Option.{Option, none, some}
use native.Mathlib.Numerals.{add-one}
use native.Mathlib.Omega.{arith}
use native.Mathlib.Decide.{dec_le}
use native.Mathlib.Nat.{not-suc-le-zero, zero-add}
use borrow.Author.Tests.{eq-eqb, ne_eqb}
use denote.Laws.{Is}
use lib.Dec.{eqb, ltb}
use lib.ListN.{length, get_or, take, drop, set, length-take, drop_of_length-le}
use lib.Seq.{drop-cons, get_or-take, get_or-set_same, get_or-set_other, sets, sets-eq}
use mir.Val.{Val}
use Rattle.std.specs.List.{list_any}
use Rattle.std.specs.Prelude.{nat_eq, Option as Found, Some, None}
use Rattle.value.specs.declared.Value.{Value}
use Rattle.value.specs.declared.Value.TheVariants.{Absent, Number}
use Rattle.walked.specs.declared.Walk.{Walk}
use Rattle.walked.specs.declared.Kept.{Kept}
use Rattle.walked.specs.declared.PathReduction.{PathReduction}
use Rattle.walked.specs.Walked.{
  among,
  best,
  better,
  figure_of,
  figures,
  figures_at,
  last_of,
  longer,
  may_start,
  three_figures,
  put_first,
  same_figures,
  sift,
  sources_of,
  standing,
  unchanged,
  value_at,
  walks,
  walks_to,
  with_edge,
}
use Rattle.walked.specs.Steps.{agrees, is_kept, judged}
use Rattle.walked.specs.contracts.PathReduction as path_reduction

-- what `!=` says of `==`
pub not_back : (a b : Bool) → not a ≡ b → a ≡ not b
not_back a b e = sym (not-not a) ∙ ap not e

-- is the walk's start one of the sources? as std's `contains` tests it
any_among : (ss : List ℕ) (v : ℕ) → list_any (λ y. nat_eq y v) ss ≡ among ss v
any_among [] v = refl
any_among (s ∷ ss) v = ap (◌||◌ (eqb s v)) (any_among ss v)

pub may_start_among : (ss : List ℕ) (w : Walk) → eqb (length ss) 0 ≡ false → list_any (λ y. nat_eq y w.source) ss ≡ may_start ss w
may_start_among ss w h = any_among ss w.source ∙ rw h refl

module _ (keys best : List ℕ) (w : Walk) where
  -- with no key passed each walk agrees
  pub agrees_none : agrees keys best w 0 ≡ true
  unfolding agrees
  agrees_none = refl

  -- one key more
  pub agrees_next : (i : ℕ) → agrees keys best w i ≡ true → figure_of (get_or keys i 0) w ≡ get_or best i 0 → agrees keys best w (i + 1) ≡ true
  unfolding agrees
  agrees_next i h e = rw (add-one i, agrees, h, eq-eqb (figure_of (get_or keys i 0) w) (get_or best i 0) e)

  -- one that does not agree is enough
  pub agrees_not : (i n : ℕ) → i < n → (figure_of (get_or keys i 0) w ≡ get_or best i 0 → ⊥) → agrees keys best w n ≡ false
  unfolding agrees
  agrees_not i zero h e = absurd (not-suc-le-zero h)
  agrees_not i (suc n) h e = go (dec_le (suc i) n) (λ l. agrees_not i n l e)
    where
      go : Dec (suc i ≤ n) → (suc i ≤ n → agrees keys best w n ≡ false)
          → (agrees keys best w n && eqb (figure_of (get_or keys n 0) w) (get_or best n 0)) ≡ false
      go (yes l) f = rw (f l)
      go (no l) f = let s : i ≡ n = omega arith in rw (← s, ne_eqb (figure_of (get_or keys i 0) w) (get_or best i 0) e, and-false (agrees keys best w i))

-- no edge more: the walk itself
pub walks_none : (rows : List ℕ) (left : ℕ) (w : Walk) → left ≡ 0 → walks rows left w ≡ w ∷ []
unfolding walks
walks_none rows zero w e = refl
walks_none rows (suc left) w e = absurd (omega arith)

-- one edge more at least
pub walks_next : (rows : List ℕ) (left : ℕ) (w : Walk) → (left ≡ 0 → ⊥)
    → walks rows left w ≡ w ∷ with_edge rows (walks rows (left - 1)) w (length rows / 4)
unfolding walks
walks_next rows zero w n = absurd (n refl)
walks_next rows (suc left) w n =
    ap (λ (m : ℕ). w ∷ with_edge rows (walks rows m) w (length rows / 4)) (let e : left ≡ suc left - 1 = omega arith in e)

-- what is found with those over the first i edges, after `found`
abbrev pub over : List ℕ → Kept → Walk → ℕ → Value → ℕ → Value
over rows k w left found i = foldl (judged k) found (with_edge rows (walks rows left) w i)

module _ (rows : List ℕ) (k : Kept) (w : Walk) (left : ℕ) (found : Value) where
  -- over no edge
  pub over_none : over rows k w left found 0 ≡ found
  unfolding with_edge
  over_none = refl

  -- the edge of row i ends where w starts
  pub over_next : (i : ℕ) → get_or rows (4 * i + 1) 0 ≡ w.source
      → foldl (judged k) (over rows k w left found i)
      (walks rows left (longer w (get_or rows (4 * i) 0) (get_or rows (4 * i + 2) 0) (get_or rows (4 * i + 3) 0)))
      ≡ over rows k w left found (i + 1)
  unfolding with_edge
  over_next i e =
      rw (add-one i, with_edge, eq-eqb (get_or rows (4 * i + 1) 0) w.source e)
      (sym (foldl-append (judged k) found (with_edge rows (walks rows left) w i) _))

  -- it does not
  pub over_skip : (i : ℕ) → (get_or rows (4 * i + 1) 0 ≡ w.source → ⊥) → over rows k w left found i ≡ over rows k w left found (i + 1)
  unfolding with_edge
  over_skip i n =
      rw (add-one i, with_edge, ne_eqb (get_or rows (4 * i + 1) 0) w.source n)
      (sym (foldl-append (judged k) found (with_edge rows (walks rows left) w i) []))

-- to judge walks one by one is to find the best of those that are kept
abbrev key_of : Kept → ℕ
key_of k = get_or k.path.keys k.passed 0

abbrev best_after : ℕ → Value → List Walk → Value
best_after key = foldl (λ found w. better key found (figure_of key w))

judged_best : (k : Kept) (found : Value) (ws : List Walk)
    → foldl (judged k) found ws ≡ best_after (key_of k) found (sift (is_kept k) (sift (may_start (sources_of k.path)) ws))
unfolding judged
judged_best k found [] = refl
judged_best k found (w ∷ ws) = go (may_start (sources_of k.path) w) (is_kept k w) refl refl (λ f. judged_best k f ws)
  where
    go : (a b : Bool) → may_start (sources_of k.path) w ≡ a → is_kept k w ≡ b
        → ((f : Value) → foldl (judged k) f ws ≡ best_after (key_of k) f (sift (is_kept k) (sift (may_start (sources_of k.path)) ws)))
        → foldl (judged k) (judged k found w) ws ≡ best_after (key_of k) found (sift (is_kept k) (sift (may_start (sources_of k.path)) (w ∷ ws)))
    go true true e h f = rw (e, h) (f (better (key_of k) found (figure_of (key_of k) w)))
    go true false e h f = rw (e, h) (f found)
    go false b e h f = rw e (f found)

-- what `best_of` finds for the next key, where the figures of the first i keys are bs
pub found_best : (rows : List ℕ) (path : PathReduction) (vertex most : ℕ) (bs : List ℕ) (i left : ℕ) (w : Walk) → left ≡ min most 64 → w
    ≡ standing vertex
    → foldl (judged (record { path = path; best = bs; passed = i })) Absent (walks rows left w)
    ≡ best (get_or path.keys i 0) (sift (λ w. agrees path.keys bs w i) (walks_to rows (sources_of path) vertex most))
found_best rows path vertex most bs i left w e h =
    rw (e, h) (judged_best (record { path = path; best = bs; passed = i }) Absent (walks rows (min most 64) (standing vertex)))

-- two tests in turn
sift_both : (p q r : Walk → Bool) → ((w : Walk) → r w ≡ (p w && q w)) → (ws : List Walk) → sift q (sift p ws) ≡ sift r ws
sift_both p q r h [] = refl
sift_both p q r h (w ∷ ws) = go (p w) (q w) refl refl (h w) (sift_both p q r h ws)
  where
    go : (a b : Bool) → p w ≡ a → q w ≡ b → r w ≡ (p w && q w) → sift q (sift p ws) ≡ sift r ws
        → sift q (cond (p w) (w ∷ sift p ws) (sift p ws)) ≡ cond (r w) (w ∷ sift r ws) (sift r ws)
    go true true e h t f = rw (t, e, h) (ap (◌∷◌ w) f)
    go true false e h t f = rw (t, e, h) f
    go false b e h t f = rw (t, e) f

sift_all : (keys best : List ℕ) (ws : List Walk) → sift (λ w. agrees keys best w 0) ws ≡ ws
unfolding agrees
sift_all keys best [] = refl
sift_all keys best (w ∷ ws) = ap (◌∷◌ w) (sift_all keys best ws)

-- one key more that walks are kept by
module _ (keys best : List ℕ) (i x : ℕ) where
  agrees_other : (w : Walk) (j : ℕ) → j ≤ i → agrees keys (set best i x) w j ≡ agrees keys best w j
  unfolding agrees
  agrees_other w zero h = refl
  agrees_other w (suc j) h =
      rw (agrees_other w j (omega arith), get_or-set_other best i j x 0 (λ e. omega arith))

  agrees_set : i < length best → (w : Walk) → agrees keys (set best i x) w (i + 1) ≡ (agrees keys best w i && eqb (figure_of (get_or keys i 0) w) x)
  unfolding agrees
  agrees_set h w = rw (add-one i, agrees, agrees_other w i (omega arith), get_or-set_same best i x 0 h)

  sift_next : i < length best → (ws : List Walk)
      → sift (λ w. eqb (figure_of (get_or keys i 0) w) x) (sift (λ w. agrees keys best w i) ws) ≡ sift (λ w. agrees keys (set best i x) w (i + 1)) ws
  sift_next h = sift_both (λ w. agrees keys best w i) (λ w. eqb (figure_of (get_or keys i 0) w) x) (λ w. agrees keys (set best i x) w (i + 1)) (agrees_set h)

-- the figures of the keys from i on, put behind those of the keys before
abbrev after : List ℕ → ℕ → Option (List ℕ) → Found (List ℕ)
after bs i none = None
after bs i (some xs) = Some (sets bs i xs)

after_first : (bs : List ℕ) (i x : ℕ) (o : Option (List ℕ)) → after bs i (put_first x o) ≡ after (set bs i x) (suc i) o
after_first bs i x none = refl
after_first bs i x (some xs) = refl

-- the first figure, and those of the other keys
pub figures_first : (key : ℕ) (keys : List ℕ) (ws : List Walk) (x : ℕ) → best key ws ≡ Number x
    → figures (key ∷ keys) ws ≡ put_first x (figures keys (sift (λ w. eqb (figure_of key w) x) ws))
unfolding figures
figures_first key keys ws x e = rw (figures, e)

-- none with no walk
pub figures_none : (key : ℕ) (keys : List ℕ) (ws : List Walk) → best key ws ≡ Absent → figures (key ∷ keys) ws ≡ none
unfolding figures
figures_none key keys ws e = rw (figures, e)

-- one figure for each key
pub figures_length : (keys : List ℕ) (ws : List Walk) (xs : List ℕ) → figures keys ws ≡ some xs → length xs ≡ length keys
unfolding figures
figures_length [] ws xs e = cc
figures_length (key ∷ keys) ws xs e = go (best key ws) refl (λ x ys. figures_length keys (sift (λ w. eqb (figure_of key w) x) ws) ys)
  where
    none_some : none ≡ some xs → length xs ≡ suc (length keys)
    none_some h = let z : ◌≡◌ {A = ℕ} 0 1 = cc in absurd (omega arith)

    some_some : (x : ℕ) (o : Option (List ℕ)) → ((ys : List ℕ) → o ≡ some ys → length ys ≡ length keys) → put_first x o ≡ some xs
        → length xs ≡ suc (length keys)
    some_some x none f h = none_some h
    some_some x (some ys) f h =
        let p : xs ≡ x ∷ ys = cc in
        ap length p ∙ ap suc (f ys refl)

    go : (v : Value) → best key ws ≡ v
        → ((x : ℕ) (ys : List ℕ) → figures keys (sift (λ w. eqb (figure_of key w) x) ws) ≡ some ys → length ys ≡ length keys)
        → length xs ≡ suc (length keys)
    go Absent b f = none_some (sym (figures_none key keys ws b) ∙ e)
    go (Number x) b f = some_some x (figures keys (sift (λ w. eqb (figure_of key w) x) ws)) (f x) (sym (figures_first key keys ws x b) ∙ e)

-- THE FIGURES KEY BY KEY, as the program goes: bs has those of the first i keys, and ws are the walks from the start to the vertex
abbrev pub goes_on : List ℕ → ℕ → List Walk → List ℕ → ℕ → Found (List ℕ)
goes_on keys n ws bs i = after bs i (figures (drop i (take n keys)) (sift (λ w. agrees keys bs w i) ws))

module _ (keys : List ℕ) (n : ℕ) (ws : List Walk) where
  -- before the first key
  pub goes_first : n ≤ 3 → goes_on keys n ws (0 ∷ 0 ∷ 0 ∷ []) 0 ≡ three_figures (figures (take n keys) ws)
  goes_first h =
      ap (λ (l : List Walk). after (0 ∷ 0 ∷ 0 ∷ []) 0 (figures (take n keys) l)) (sift_all keys (0 ∷ 0 ∷ 0 ∷ []) ws)
      ∙ go (figures (take n keys) ws) (figures_length (take n keys) ws)
    where
      go : (o : Option (List ℕ)) → ((xs : List ℕ) → o ≡ some xs → length xs ≡ length (take n keys)) → after (0 ∷ 0 ∷ 0 ∷ []) 0 o
          ≡ three_figures o
      go none f = refl
      go (some xs) f =
          let z = zero-add (length xs) in
          ap Some (sets-eq xs (0 ∷ 0 ∷ 0 ∷ []) 0 (omega (arith, f xs refl, length-take n keys))
          ∙ rw z)

  -- the list of the keys from i on
  module _ (bs : List ℕ) (i : ℕ) (below : i < n) (fits : n ≤ length keys) where
    key_first : drop i (take n keys) ≡ get_or keys i 0 ∷ drop (i + 1) (take n keys)
    key_first =
        drop-cons (take n keys) i 0 (omega (arith, length-take n keys))
        ∙ rw (get_or-take n keys i 0 below, add-one i)

    -- one key more
    pub goes_next : (x : ℕ) → i < length bs → best (get_or keys i 0) (sift (λ w. agrees keys bs w i) ws) ≡ Number x
        → goes_on keys n ws bs i ≡ goes_on keys n ws (set bs i x) (i + 1)
    goes_next x h e =
        ap (λ (l : List ℕ). after bs i (figures l (sift (λ w. agrees keys bs w i) ws))) key_first
        ∙ ap (after bs i) (figures_first (get_or keys i 0) (drop (i + 1) (take n keys)) (sift (λ w. agrees keys bs w i) ws) x e)
        ∙ after_first bs i x (figures (drop (i + 1) (take n keys)) (sift (λ w. eqb (figure_of (get_or keys i 0) w) x) (sift (λ w. agrees keys bs w i) ws)))
        ∙ ap (λ (m : ℕ). after (set bs i x) m (figures (drop (i + 1) (take n keys))
        (sift (λ w. eqb (figure_of (get_or keys i 0) w) x) (sift (λ w. agrees keys bs w i) ws)))) (sym (add-one i))
        ∙ ap (λ (l : List Walk). after (set bs i x) (i + 1) (figures (drop (i + 1) (take n keys)) l)) (sift_next keys bs i x h ws)

    -- no walk is left
    pub goes_none : best (get_or keys i 0) (sift (λ w. agrees keys bs w i) ws) ≡ Absent → goes_on keys n ws bs i ≡ None
    goes_none e =
        ap (λ (l : List ℕ). after bs i (figures l (sift (λ w. agrees keys bs w i) ws))) key_first
        ∙ ap (after bs i) (figures_none (get_or keys i 0) (drop (i + 1) (take n keys)) (sift (λ w. agrees keys bs w i) ws) e)

  -- after the last key
  pub goes_last : (bs : List ℕ) (i : ℕ) → n ≤ i → goes_on keys n ws bs i ≡ Some bs
  unfolding figures
  goes_last bs i h = rw (drop_of_length-le (take n keys) {i = i} (omega (arith, length-take n keys)))

-- the last figure, of the padded figures of n keys
abbrev pub last_found : ℕ → Found (List ℕ) → Value
last_found n None = Absent
last_found n (Some fs) = cond (ltb 0 n) (Number (get_or fs (n - 1) 0)) Absent

last_padded : (keys : List ℕ) (ws : List Walk) (n : ℕ) → length keys ≡ n → n ≤ 3
    → last_found n (three_figures (figures keys ws)) ≡ last_of (figures keys ws)
last_padded keys ws n l h = go (figures keys ws) (figures_length keys ws)
  where
    go : (o : Option (List ℕ)) → ((xs : List ℕ) → o ≡ some xs → length xs ≡ length keys) → last_found n (three_figures o) ≡ last_of o
    go none f = refl
    go (some []) f = let e : n ≡ 0 = omega (arith, f [] refl) in rw e
    go (some (x ∷ [])) f = let e : n ≡ 1 = omega (arith, f (x ∷ []) refl) in rw e
    go (some (x ∷ y ∷ [])) f = let e : n ≡ 2 = omega (arith, f (x ∷ y ∷ []) refl) in rw e
    go (some (x ∷ y ∷ z ∷ [])) f = let e : n ≡ 3 = omega (arith, f (x ∷ y ∷ z ∷ []) refl) in rw e
    go (some (x ∷ y ∷ z ∷ t ∷ xs)) f = absurd (omega (arith, f (x ∷ y ∷ z ∷ t ∷ xs) refl))

module _ (rows : List ℕ) (path : PathReduction) (before : ℕ) where
  -- are the figures at v the same with one edge more?
  abbrev pub same_at : ℕ → Bool
  same_at v = same_figures (figures_at rows path v before) (figures_at rows path v (before + 1))

  -- with no vertex passed nothing has changed
  pub unchanged_none : unchanged rows 0 path before ≡ true
  unfolding unchanged
  unchanged_none = refl

  -- one vertex more
  pub unchanged_next : (v : ℕ) → unchanged rows v path before ≡ true → same_at v ≡ true → unchanged rows (v + 1) path before ≡ true
  unfolding unchanged
  unchanged_next v h e = rw (add-one v, unchanged, h) e

  -- one that changes is enough
  pub unchanged_not : (v n : ℕ) → v < n → same_at v ≡ false → unchanged rows n path before ≡ false
  unfolding unchanged
  unchanged_not v zero h e = absurd (not-suc-le-zero h)
  unchanged_not v (suc n) h e = go (dec_le (suc v) n) (λ l. unchanged_not v n l e)
    where
      go : Dec (suc v ≤ n) → (suc v ≤ n → unchanged rows n path before ≡ false) → (unchanged rows n path before && same_at n) ≡ false
      go (yes l) f = rw (f l)
      go (no l) f =
          let s : v ≡ n = omega arith in
          rw (sym (ap same_at s) ∙ e) (and-false (unchanged rows n path before))

  -- the program asks for walks of at most 64 and 65 edges where more are asked for: no walk has more than 64
  pub same_few : (few v : ℕ) (a b : Found (List ℕ)) → few ≡ min before 64 → a ≡ figures_at rows path v few
      → b ≡ figures_at rows path v (few + 1) → same_figures a b ≡ same_at v
  unfolding figures_at
  same_few few v a b e p q =
      let f : min few 64 ≡ min before 64 = omega arith in
      let g : min (few + 1) 64 ≡ min (before + 1) 64 = omega arith in
      let x : a ≡ figures_at rows path v before = p ∙ rw f in
      let y : b ≡ figures_at rows path v (before + 1) = q ∙ rw g in
      ap (λ (t : Found (List ℕ)). same_figures t b) x ∙ ap (same_figures (figures_at rows path v before)) y

-- a path reduction that a function is handed has room for three keys
pub keys_fit : (path : PathReduction) (vs : List Val) → Is path_reduction.the_row path vs → length path.keys ≡ 3
keys_fit path vs g =
    let a = g.1.1.0 in
    a.1.0.1

-- the value of a path reduction, of what `figures_at` gives
pub value_padded : (rows : List ℕ) (path : PathReduction) (vertex most n : ℕ) (f : Found (List ℕ)) → length path.keys ≡ 3 → n ≡ min path.count 3
    → f ≡ figures_at rows path vertex most → last_found n f ≡ value_at rows path vertex most
unfolding figures_at value_at
value_padded rows path vertex most n f k e h =
    rw h
    (last_padded (take (min path.count 3) path.keys) (walks_to rows (sources_of path) vertex most) n
    (omega (arith, length-take (min path.count 3) path.keys)) (omega arith))
