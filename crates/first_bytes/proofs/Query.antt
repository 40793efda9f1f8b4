-- A question longer than 2,439 bytes is judged by them as it is whole: of 64 terms, at most 38 bytes each behind the first 6, nothing lies past 2,438, and of
-- what stands behind them only whether it is there is asked. Assumes nothing.
use Prim.Native.Nat.{ℕ, zero, suc, ◌+◌, ◌*◌, ◌≤◌, ◌<◌, max, min}
use mathlib.Core.Path.{◌≡◌, refl, ap, ap₂, ◌∙◌}
use mathlib.Core.Bool.{Bool, true, false, cond}
use mathlib.Core.List.{List}
use native.Mathlib.Omega.{arith}
use borrow.Author.Tests.{eqb-true, eqb-false, leb-false, lt-leb, lt-ltb, le-ltb}
use lib.Dec.{leb, ltb, eqb}
use lib.ListN.{length, get_or, set}
use Rattle.fields.specs.Fields.{code_of, key_code, opening_code, source_code}
use Rattle.packed_path.specs.declared.PackedPath.{PackedPath}
use Rattle.packed_path.specs.Packed.{with_first}
use Rattle.path_fields.specs.Paths.{counted_sources, key_fields_code, keys_at, keys_code, path_at, path_code, set_at, set_code, sources_at}
use Rattle.path_fields.specs.Paths.{starts_code}
use Rattle.terms.specs.Terms.{Step}
use Rattle.terms.specs.declared.TermKind.{TermKind}
use Rattle.terms.specs.declared.TermKind.TheVariants.{OfVertex, OfResult, OfEntry, OfFinal}
use Rattle.progress.specs.Progress.{Scan}
use Rattle.terms.specs.Terms.{advanced, apply_step, index_step, kept_path, leaf_step, literal_step, literal_tag, path_step, read, reduce_step, set_step}
use Rattle.terms.specs.Terms.{slot_of, refused_step, term_step}
use Rattle.progress.specs.Progress.{blank, ended, started}
use Rattle.term_text.proofs.Fields.{code_range}
use Rattle.query.specs.Query.{query_code, query_scan, term_kind}
use Rattle.wire.specs.Header.{header_code, then}
use Rattle.wire.proofs.Codes.{then_both, then_same}
use Rattle.wire.proofs.Past.{get_or_any}

-- two texts that begin alike and are longer
pub record Alike (s t : List ℕ) : Type 0 where
  pub bytes : (i d : ℕ) → i < 2438 → get_or t i d ≡ get_or s i d
  pub long : 2439 ≤ length s
  pub longer : 2439 ≤ length t

-- a reading has come no further than its terms take it; after a refusal it is at 0
record Near (w : Scan) : Type 0 where
  few : w.terms ≤ 64
  near : w.at ≤ 6 + 38 * w.terms

record NearStep (h : Step) : Type 0 where
  progress : Near h.progress

module _ (s t : List ℕ) (a : Alike s t) where
  keys_same : (n i : ℕ) → i + n ≤ 2438 → keys_code n t i ≡ keys_code n s i
  unfolding keys_code
  keys_same zero i h = refl
  keys_same (suc n) i h =
      ap₂ (λ (b r : ℕ). then (key_code b (eqb n 0)) r) (a.bytes i 256 (omega arith)) (keys_same n (i + 1) (omega arith))

  fields_same : (i : ℕ) → i ≤ 2401 → key_fields_code t i ≡ key_fields_code s i
  unfolding key_fields_code
  fields_same i h =
      let n : ℕ = get_or s i 256 in
      ap (λ (k : ℕ). then (code_of k 3) (keys_code k t (i + 1))) (a.bytes i 256 (omega arith))
      ∙ then_same (code_of n 3) (keys_code n t (i + 1)) (keys_code n s (i + 1))
      (λ e. keys_same n (i + 1) (omega (arith, code_range n 3 e)))

  fields_range : (i : ℕ) → key_fields_code s i ≡ 0 → get_or s i 256 ≤ 3
  unfolding key_fields_code
  fields_range i e =
      let n : ℕ = get_or s i 256 in
      (code_range n 3 (then_both (code_of n 3) (keys_code n s (i + 1)) e).0).2

  starts_same : (k least i : ℕ) → i + 2 * k ≤ 2438 → starts_code k least t i ≡ starts_code k least s i
  unfolding starts_code
  starts_same zero least i h = refl
  starts_same (suc k) least i h =
      rw (a.bytes i 256 (omega arith), a.bytes (i + 1) 256 (omega arith), starts_same k (get_or s i 256 + 1) (i + 2) (omega arith)) refl

  -- behind the keys: one start, or a set of them
  one_same : (j : ℕ) → j ≤ 2405
      → source_code (get_or t j 256) (get_or t (j + 1) 256) ≡ source_code (get_or s j 256) (get_or s (j + 1) 256)
  one_same j h = rw (a.bytes j 256 (omega arith), a.bytes (j + 1) 256 (omega arith)) refl

  abbrev counted : List ℕ → ℕ → ℕ
  counted u j = then (code_of (get_or u j 256) 16) (starts_code (get_or u j 256) 0 u (j + 1))

  several_same : (j : ℕ) → j ≤ 2405 → counted t j ≡ counted s j
  several_same j h =
      let k : ℕ = get_or s j 256 in
      ap (λ (x : ℕ). then (code_of x 16) (starts_code x 0 t (j + 1))) (a.bytes j 256 (omega arith))
      ∙ then_same (code_of k 16) (starts_code k 0 t (j + 1)) (starts_code k 0 s (j + 1))
      (λ e. starts_same k 0 (j + 1) (omega (arith, code_range k 16 e)))

  path_code_same : (i : ℕ) → i ≤ 2401 → path_code t i ≡ path_code s i
  unfolding path_code
  path_code_same i h =
      rw (fields_same i h, a.bytes i 256 (omega arith))
      (then_same (key_fields_code s i) _ _ (λ e. one_same (i + 1 + get_or s i 256) (omega (arith, fields_range i e))))

  set_code_same : (i : ℕ) → i ≤ 2401 → set_code t i ≡ set_code s i
  unfolding set_code
  set_code_same i h =
      rw (fields_same i h, a.bytes i 256 (omega arith))
      (then_same (key_fields_code s i) _ _ (λ e. several_same (i + 1 + get_or s i 256) (omega (arith, fields_range i e))))

  path_range : (i : ℕ) → path_code s i ≡ 0 → get_or s i 256 ≤ 3
  unfolding path_code
  path_range i e = fields_range i (then_both (key_fields_code s i) _ e).0

  set_range : (i : ℕ) → set_code s i ≡ 0 → (get_or s i 256 ≤ 3) × (get_or s (i + 1 + get_or s i 256) 256 ≤ 16)
  unfolding set_code
  set_range i e =
      let p = then_both (key_fields_code s i) (counted s (i + 1 + get_or s i 256)) e in
      (fields_range i p.0, (code_range (get_or s (i + 1 + get_or s i 256) 256) 16 (then_both (code_of (get_or s (i + 1 + get_or s i 256) 256) 16) _ p.1).0).2)

  -- the path reductions
  keys_at_same : (i : ℕ) → i ≤ 2401 → keys_at t i ≡ keys_at s i
  unfolding keys_at
  keys_at_same i h =
      rw (a.bytes i 0 (omega arith), a.bytes (i + 1) 0 (omega arith), a.bytes (i + 2) 0 (omega arith), a.bytes (i + 3) 0 (omega arith)) refl

  -- the key count, which is there
  count_same : (i : ℕ) → i ≤ 2401 → get_or s i 0 ≡ get_or s i 256
  count_same i h = get_or_any s i 0 256 (omega (arith, a.long))

  path_at_same : (i : ℕ) → i ≤ 2401 → get_or s i 256 ≤ 3 → path_at t i ≡ path_at s i
  unfolding path_at
  path_at_same i h k =
      let n = count_same i h in
      rw (
        keys_at_same i h,
        a.bytes i 0 (omega arith),
        a.bytes (i + 1 + get_or s i 0) 0 (omega arith),
        a.bytes (i + 1 + get_or s i 0 + 1) 0 (omega arith),
      )
      refl

  sources_same : (keys k i : ℕ) → i + 2 * k ≤ 2438 → sources_at keys k t i ≡ sources_at keys k s i
  unfolding sources_at
  sources_same keys zero i h = refl
  sources_same keys (suc k) i h = ap₂ with_first (a.bytes i 0 (omega arith)) (sources_same keys k (i + 2) (omega arith))

  set_at_same : (i : ℕ) → i ≤ 2401 → get_or s i 256 ≤ 3 → set_at t i ≡ set_at s i
  unfolding set_at counted_sources
  set_at_same i h k =
      let n = count_same i h in
      let j : ℕ = i + 1 + get_or s i 0 in
      rw (keys_at_same i h, a.bytes i 0 (omega arith), a.bytes j 0 (omega arith)) (sources_same (keys_at s i) (min (get_or s j 0) 16) (j + 1) (omega arith))

  -- a step of a path reduction: the same refusal, or the same path reduction up to the same byte
  by_code : (c : ℕ) {x y : Step} → (c ≡ 0 → x ≡ y) → cond (eqb c 0) x (refused_step c) ≡ cond (eqb c 0) y (refused_step c)
  by_code c {x} {y} f = go (eqb c 0) refl
    where
      go : (b : Bool) → eqb c 0 ≡ b → cond b x (refused_step c) ≡ cond b y (refused_step c)
      go true e = f (eqb-true c 0 e)
      go false e = refl

  path_same : (w : Scan) → w.at ≤ 2400 → path_step t w ≡ path_step s w
  unfolding path_step
  path_same w h =
      let i : ℕ = w.at + 1 in
      rw (path_code_same i (omega arith))
      (by_code (path_code s i) (λ e. rw (a.bytes i 256 (omega arith), path_at_same i (omega arith) (path_range i e)) refl))

  set_same : (w : Scan) → w.at ≤ 2400 → set_step t w ≡ set_step s w
  unfolding set_step
  set_same w h =
      let i : ℕ = w.at + 1 in
      rw (set_code_same i (omega arith))
      (by_code (set_code s i)
      (λ e.
      let r = set_range i e in
      rw (a.bytes i 256 (omega arith), a.bytes (i + 1 + get_or s i 256) 256 (omega (arith, r.0)), set_at_same i (omega arith) r.0) refl))

  reduce_same : (follow : ℕ) (w : Scan) → w.at ≤ 2400 → reduce_step follow t w ≡ reduce_step follow s w
  unfolding reduce_step
  reduce_same follow w h = rw (a.bytes (w.at + 1) 256 (omega arith)) refl

  index_same : (w : Scan) (n : ℕ) → w.at ≤ 2400 → index_step t w n ≡ index_step s w n
  unfolding index_step
  index_same w n h = rw (a.bytes (w.at + 1) 256 (omega arith)) refl

  literal_same : (w : Scan) → w.at ≤ 2400 → literal_step t w ≡ literal_step s w
  unfolding literal_step
  literal_same w h = rw (a.bytes (w.at + 4) 256 (omega arith)) refl

  apply_same : (kind : TermKind) (w : Scan) → w.at ≤ 2400 → apply_step kind t w ≡ apply_step kind s w
  unfolding apply_step
  apply_same kind w h = rw (a.bytes (w.at + 1) 256 (omega arith)) refl

  leaf_same : (kind : TermKind) (tag : ℕ) (w : Scan) → w.at ≤ 2400 → leaf_step kind tag t w ≡ leaf_step kind tag s w
  unfolding leaf_step
  leaf_same OfVertex tag w h = rw (path_same w h, set_same w h) refl
  leaf_same OfResult tag w h = rw (reduce_same 1 w h, reduce_same 2 w h) refl
  leaf_same OfEntry tag w h = rw (index_same w w.paths h) refl
  leaf_same OfFinal tag w h = rw (index_same w w.reductions h) refl

  term_same : (kind : TermKind) (left : ℕ) (w : Scan) → Near w → term_step kind left t w ≡ term_step kind left s w
  unfolding term_step
  term_same kind left w g =
      rw (lt-leb (length t) w.at (omega (arith, a.longer, g.few, g.near)), lt-leb (length s) w.at (omega (arith, a.long, g.few, g.near)))
      (go (leb 64 w.terms) refl)
    where
      further : List ℕ → Step
      further u =
          cond (eqb left 0) (refused_step 11)
          (cond (eqb (get_or u w.at 0) (literal_tag kind)) (literal_step u w)
          (cond (eqb (get_or u w.at 0) (literal_tag kind + 1)) (apply_step kind u w) (leaf_step kind (get_or u w.at 0) u w)))

      go : (b : Bool) → leb 64 w.terms ≡ b → cond b (refused_step 12) (further t) ≡ cond b (refused_step 12) (further s)
      go true e = refl
      go false e =
          let h : w.at ≤ 2400 = omega (arith, leb-false 64 w.terms e, g.near) in
          rw (a.bytes w.at 0 (omega arith), leaf_same kind (get_or s w.at 0) w h, literal_same w h, apply_same kind w h) refl

  -- a refusal is at 0; one term more, of at most 38 bytes, where there were under 64
  near_blank : (c : ℕ) → Near (blank c)
  unfolding blank
  near_blank c = record { few = omega arith; near = omega arith }

  near_next : (w : Scan) (next : ℕ) → w.terms < 64 → w.at ≤ 6 + 38 * w.terms → next ≤ w.at + 38 → Near (advanced w next)
  unfolding advanced
  near_next w next l g h = record { few = omega arith; near = omega arith }

  near_kept : (w : Scan) (p : PackedPath) → Near w → Near (kept_path w p)
  unfolding kept_path
  near_kept w p g = go (leb 8 i)
    where
      i : ℕ
      i = slot_of 8 w.paths w.table p 0

      go : (b : Bool)
          → Near
          (cond b (blank 14)
          (record { code = w.code; at = w.at; terms = w.terms; paths = max w.paths (i + 1); reductions = w.reductions; table = set w.table i p }))
      go true = near_blank 14
      go false = record { few = g.few; near = g.near }

  near_refused : (c : ℕ) → NearStep (refused_step c)
  near_refused c = record { progress = near_blank c }

  -- a step by either side of its test
  near_cond : (b : Bool) {x y : Step} → (b ≡ true → NearStep x) → NearStep y → NearStep (cond b x y)
  near_cond true p q = p refl
  near_cond false p q = q

  near_path : (w : Scan) → w.terms < 64 → w.at ≤ 6 + 38 * w.terms → NearStep (path_step s w)
  unfolding path_step
  near_path w l g =
      near_cond (eqb (path_code s (w.at + 1)) 0)
      (λ e.
      let n = path_range (w.at + 1) (eqb-true (path_code s (w.at + 1)) 0 e) in
      record {
        progress = near_kept (advanced w (w.at + 1 + 3 + get_or s (w.at + 1) 256)) (path_at s (w.at + 1))
            (near_next w (w.at + 1 + 3 + get_or s (w.at + 1) 256) l g (omega (arith, n)));
      })
      (near_refused (path_code s (w.at + 1)))

  near_set : (w : Scan) → w.terms < 64 → w.at ≤ 6 + 38 * w.terms → NearStep (set_step s w)
  unfolding set_step
  near_set w l g =
      let i = w.at + 1 in
      let j = i + 1 + get_or s i 256 in
      near_cond (eqb (set_code s i) 0)
      (λ e.
      let r = set_range i (eqb-true (set_code s i) 0 e) in
      record {
        progress = near_kept (advanced w (j + 1 + 2 * get_or s j 256)) (set_at s i)
            (near_next w (j + 1 + 2 * get_or s j 256) l g (omega (arith, r.0, r.1)));
      })
      (near_refused (set_code s i))

  near_reduce : (follow : ℕ) (w : Scan) → w.terms < 64 → w.at ≤ 6 + 38 * w.terms → NearStep (reduce_step follow s w)
  unfolding reduce_step
  near_reduce follow w l g =
      let n = near_next w (w.at + 1 + 1) l g (omega arith) in
      near_cond (eqb (code_of (get_or s (w.at + 1) 256) 5) 0)
      (λ e. near_cond (leb 8 w.reductions) (λ f. near_refused 14) (record { progress = record { few = n.few; near = n.near } }))
      (near_refused (code_of (get_or s (w.at + 1) 256) 5))

  near_index : (w : Scan) (n : ℕ) → w.terms < 64 → w.at ≤ 6 + 38 * w.terms → NearStep (index_step s w n)
  unfolding index_step
  near_index w n l g =
      near_cond (ltb 255 (get_or s (w.at + 1) 256)) (λ e. near_refused 1)
      (near_cond (leb n (get_or s (w.at + 1) 256)) (λ e. near_refused 16) (record { progress = near_next w (w.at + 1 + 1) l g (omega arith) }))

  near_literal : (w : Scan) → w.terms < 64 → w.at ≤ 6 + 38 * w.terms → NearStep (literal_step s w)
  unfolding literal_step
  near_literal w l g = near_cond (ltb 255 (get_or s (w.at + 4) 256)) (λ e. near_refused 1) (record { progress = near_next w (w.at + 4 + 1) l g (omega arith) })

  near_apply : (kind : TermKind) (w : Scan) → w.terms < 64 → w.at ≤ 6 + 38 * w.terms → NearStep (apply_step kind s w)
  unfolding apply_step
  near_apply kind w l g =
      near_cond (eqb (code_of (get_or s (w.at + 1) 256) 11) 0)
      (λ e. record { progress = near_next w (w.at + 1 + 1) l g (omega arith) })
      (near_refused (code_of (get_or s (w.at + 1) 256) 11))

  near_leaf : (kind : TermKind) (tag : ℕ) (w : Scan) → w.terms < 64 → w.at ≤ 6 + 38 * w.terms → NearStep (leaf_step kind tag s w)
  unfolding leaf_step
  near_leaf OfVertex tag w l g =
      near_cond (eqb tag 0x10) (λ e. near_path w l g) (near_cond (eqb tag 0x13) (λ e. near_set w l g) (near_refused 9))
  near_leaf OfResult tag w l g =
      near_cond (eqb tag 0x20) (λ e. near_reduce 1 w l g) (near_cond (eqb tag 0x23) (λ e. near_reduce 2 w l g) (near_refused 9))
  near_leaf OfEntry tag w l g = near_cond (eqb tag 0x30) (λ e. near_index w w.paths l g) (near_refused 9)
  near_leaf OfFinal tag w l g = near_cond (eqb tag 0x31) (λ e. near_index w w.reductions l g) (near_refused 9)

  near_term : (kind : TermKind) (left : ℕ) (w : Scan) → Near w → NearStep (term_step kind left s w)
  unfolding term_step
  near_term kind left w g = near_cond (leb (length s) w.at) (λ e. near_refused 1) (go (leb 64 w.terms) refl)
    where
      tag : ℕ
      tag = get_or s w.at 0

      further : Step
      further =
          cond (eqb left 0) (refused_step 11)
          (cond (eqb tag (literal_tag kind)) (literal_step s w) (cond (eqb tag (literal_tag kind + 1)) (apply_step kind s w) (leaf_step kind tag s w)))

      go : (b : Bool) → leb 64 w.terms ≡ b → NearStep (cond b (refused_step 12) further)
      go true e = near_refused 12
      go false e =
          let l = leb-false 64 w.terms e in
          near_cond (eqb left 0) (λ f. near_refused 11)
          (near_cond (eqb tag (literal_tag kind)) (λ f. near_literal w l g.near)
          (near_cond (eqb tag (literal_tag kind + 1)) (λ f. near_apply kind w l g.near) (near_leaf kind tag w l g.near)))

  -- a term and all that it contains
  read_same : (kind : TermKind) (left : ℕ) (w : Scan) → Near w → (read kind left t w ≡ read kind left s w) × Near (read kind left s w)
  unfolding read
  read_same kind zero w g = rw (term_same kind zero w g) (go (eqb w.code 0))
    where
      h : Step
      h = term_step kind zero s w

      go : (b : Bool) → (◌≡◌ {A = Scan} (cond b h.progress w) (cond b h.progress w)) × Near (cond b h.progress w)
      go true = (refl, (near_term kind zero w g).progress)
      go false = (refl, g)
  read_same kind (suc left) w g =
      let p = go (λ m v. read_same m left v) (eqb w.code 0) (eqb here.follow 0) (eqb here.follow 1) in
      (ap (λ (h : Step). after t h (eqb w.code 0) (eqb h.follow 0) (eqb h.follow 1)) (term_same kind (suc left) w g) ∙ p.0, p.1)
    where
      here : Step
      here = term_step kind (suc left) s w

      n : Near here.progress
      n = (near_term kind (suc left) w g).progress

      after : List ℕ → Step → Bool → Bool → Bool → Scan
      after u h x y z =
          elim x [
            | true ↦ elim y [
              | true ↦ h.progress
              | false ↦ elim z [
                | true ↦ read h.inner left u h.progress
                | false ↦ read h.inner left u (read h.inner left u h.progress)
              ]
            ]
            | false ↦ w
          ]

      go : ((m : TermKind) (v : Scan) → Near v → (read m left t v ≡ read m left s v) × Near (read m left s v)) → (x y z : Bool)
          → (after t here x y z ≡ after s here x y z) × Near (after s here x y z)
      go deeper true true z = (refl, n)
      go deeper true false true = deeper here.inner here.progress n
      go deeper true false false =
          let p = deeper here.inner here.progress n in
          let q = deeper here.inner (read here.inner left s here.progress) p.1 in
          (ap (read here.inner left t) p.0 ∙ q.0, q.1)
      go deeper false y z = (refl, g)

  -- header and kind
  opening_same : opening_code 0x51 1 t ≡ opening_code 0x51 1 s
  unfolding header_code
  opening_same =
      rw (
        le-ltb (length t) 5 (omega (arith, a.longer)),
        le-ltb (length s) 5 (omega (arith, a.long)),
        a.bytes 0 0 (omega arith),
        a.bytes 1 0 (omega arith),
        a.bytes 2 0 (omega arith),
        a.bytes 3 0 (omega arith),
        a.bytes 4 0 (omega arith),
        a.bytes 5 256 (omega arith),
      )
      refl

  -- left-over bytes: there are some in either text
  ended_same : (w : Scan) → Near w → (ended t w ≡ ended s w) × ((ended s w).code ≡ 0 → ⊥)
  unfolding ended blank
  ended_same w g =
      rw (lt-ltb w.at (length t) (omega (arith, a.longer, g.few, g.near)), lt-ltb w.at (length s) (omega (arith, a.long, g.few, g.near)))
      (go (eqb w.code 0) refl)
    where
      go : (b : Bool) → eqb w.code 0 ≡ b → (◌≡◌ {A = Scan} (cond b (blank 6) w) (cond b (blank 6) w))
          × ((cond b (blank 6) w).code ≡ 0 → ⊥)
      go true e = (refl, λ z. omega arith)
      go false e = (refl, λ z. eqb-false w.code 0 e z)

  near_started : Near (started 6)
  unfolding started
  near_started = record { few = omega arith; near = omega arith }

  -- TEXTS THAT BEGIN ALIKE ARE REFUSED ALIKE
  pub scan_same : (query_scan t ≡ query_scan s) × (query_code s ≡ 0 → ⊥)
  unfolding query_scan blank
  scan_same = rw (opening_same, a.bytes 5 256 (omega arith), r.0, e.0) (go (eqb (opening_code 0x51 1 s) 0) refl)
    where
      kind : TermKind
      kind = term_kind (get_or s 5 256)

      r : (read kind 16 t (started 6) ≡ read kind 16 s (started 6)) × Near (read kind 16 s (started 6))
      r = read_same kind 16 (started 6) near_started

      e : (ended t (read kind 16 s (started 6)) ≡ ended s (read kind 16 s (started 6))) × ((ended s (read kind 16 s (started 6))).code ≡ 0 → ⊥)
      e = ended_same (read kind 16 s (started 6)) r.1

      whole : Scan
      whole = ended s (read kind 16 s (started 6))

      go : (b : Bool) → eqb (opening_code 0x51 1 s) 0 ≡ b
          → (◌≡◌ {A = Scan} (cond b whole (blank (opening_code 0x51 1 s))) (cond b whole (blank (opening_code 0x51 1 s))))
          × ((cond b whole (blank (opening_code 0x51 1 s))).code ≡ 0 → ⊥)
      go true p = (refl, e.1)
      go false p = (refl, λ z. eqb-false (opening_code 0x51 1 s) 0 p z)
