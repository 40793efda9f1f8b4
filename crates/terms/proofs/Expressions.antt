-- EXPRESSIONS OF WORKSHEETS ARE READ ALIKE WHATEVER THE TABLE HOLDS: the table stays as it was, and nothing else that is read depends on it. Assumes nothing.
use Prim.Native.Nat.{ℕ, zero, suc, ◌+◌, ◌-◌}
use mathlib.Core.Path.{◌≡◌, refl, sym, ap, ◌∙◌}
use mathlib.Core.Bool.{Bool, true, false, cond}
use mathlib.Core.List.{List}
use native.Mathlib.Omega.{arith}
use borrow.Author.Tests.{eqb-false, eq-eqb, ne_eqb}
use lib.Dec.{leb, ltb, eqb}
use lib.ListN.{length, get_or}
use Rattle.packed_path.specs.declared.PackedPath.{PackedPath}
use Rattle.fields.specs.Fields.{code_of}
use Rattle.progress.specs.Progress.{Scan, blank}
use Rattle.terms.specs.Terms.{Step, advanced, alone, apply_step, index_step, leaf_step, literal_step, literal_tag, read, refused_step, term_step}
use Rattle.terms.specs.declared.TermKind.{TermKind}
use Rattle.terms.specs.declared.TermKind.TheVariants.{OfEntry, OfFinal}
use Rattle.terms.proofs.Laws.{handed_on, read_next, read_none}

-- the kind of an expression: an entry's, or the last one of a worksheet
abbrev pub expression : Bool → TermKind
expression last = cond last OfFinal OfEntry

-- a reading with another table
abbrev pub with_table : Scan → List PackedPath → Scan
with_table w table = record { code = w.code; at = w.at; terms = w.terms; paths = w.paths; reductions = w.reductions; table = table }

-- the same where it was not refused: a refused one holds none
unfoldable pub held : Scan → List PackedPath → Scan
held w table = cond (eqb w.code 0) (with_table w table) (blank w.code)

-- a step with another table
unfoldable held_step : Step → List PackedPath → Step
held_step h table = record { progress = held h.progress table; follow = h.follow; inner = h.inner }

module _ (last : Bool) where
  abbrev kind : TermKind
  kind = expression last

  -- what follows a head of an expression is of its kind
  abbrev Follows : Step → Type 0
  Follows h = (h.follow ≡ 0 → ⊥) → h.inner ≡ kind

  either : (b : Bool) (x y : Step) → Follows x → Follows y → Follows (cond b x y)
  either true x y p q = p
  either false x y p q = q

  alone_follows : (w : Scan) → Follows (alone w)
  alone_follows w n = absurd (n refl)

  module _ (s : List ℕ) (table : List PackedPath) where
    choose : (b : Bool) (x y v w : Step) → held_step x table ≡ v → held_step y table ≡ w → held_step (cond b x y) table ≡ cond b v w
    unfolding held_step
    choose true x y v w p q = p
    choose false x y v w p q = q

    refusing : (k : ℕ) → (k ≡ 0 → ⊥) → held_step (refused_step k) table ≡ refused_step k
    unfolding held_step held blank
    refusing k n = rw (ne_eqb k 0 n) refl

    -- after a judgement by number
    judged : (k : ℕ) (x v : Step) → held_step x table ≡ v → held_step (cond (eqb k 0) x (refused_step k)) table ≡ cond (eqb k 0) v (refused_step k)
    judged k x v p = go (eqb k 0) refl
      where
        go : (b : Bool) → eqb k 0 ≡ b → held_step (cond b x (refused_step k)) table ≡ cond b v (refused_step k)
        go true e = p
        go false e = refusing k (eqb-false k 0 e)

    module _ (at terms paths reductions : ℕ) (t : List PackedPath) where
      abbrev one : Scan
      one = record { code = 0; at = at; terms = terms; paths = paths; reductions = reductions; table = t }

      abbrev other : Scan
      other = record { code = 0; at = at; terms = terms; paths = paths; reductions = reductions; table = table }

      onward : (next : ℕ) → held_step (alone (advanced one next)) table ≡ alone (advanced other next)
      unfolding held_step held advanced
      onward next = refl

      literal : held_step (literal_step s one) table ≡ literal_step s other
      unfolding literal_step
      literal = choose _ _ _ _ _ (refusing 1 (λ z. omega arith)) (onward _)

      apply : held_step (apply_step kind s one) table ≡ apply_step kind s other
      unfolding apply_step advanced held_step held
      apply = judged (code_of (get_or s (at + 1) 256) 11) (record { progress = advanced one (at + 1 + 1); follow = 2; inner = kind })
          (record { progress = advanced other (at + 1 + 1); follow = 2; inner = kind }) refl

      index : (count : ℕ) → held_step (index_step s one count) table ≡ index_step s other count
      unfolding index_step
      index count = choose _ _ _ _ _ (refusing 1 (λ z. omega arith)) (choose _ _ _ _ _ (refusing 16 (λ z. omega arith)) (onward _))

      nine : held_step (refused_step 9) table ≡ refused_step 9
      nine = refusing 9 (λ z. omega arith)

      leaf : (tag : ℕ) (b : Bool) → held_step (leaf_step (expression b) tag s one) table ≡ leaf_step (expression b) tag s other
      unfolding leaf_step
      leaf tag true = choose (eqb tag 0x31) _ _ _ _ (index reductions) nine
      leaf tag false = choose (eqb tag 0x30) _ _ _ _ (index paths) nine

      step : (left : ℕ) → held_step (term_step kind left s one) table ≡ term_step kind left s other
      unfolding term_step
      step left =
          let tag : ℕ = get_or s at 0 in
          choose (leb (length s) at) _ _ _ _ (refusing 1 (λ z. omega arith))
          (choose (leb 64 terms) _ _ _ _ (refusing 12 (λ z. omega arith))
          (choose (eqb left 0) _ _ _ _ (refusing 11 (λ z. omega arith))
          (choose (eqb tag (literal_tag kind)) _ _ _ _ literal
          (choose (eqb tag (literal_tag kind + 1)) _ _ _ _ apply (leaf tag last)))))

  judged_follows : (k : ℕ) (x : Step) → Follows x → Follows (cond (eqb k 0) x (refused_step k))
  judged_follows k x p = either (eqb k 0) x (refused_step k) p (alone_follows (blank k))

  index_follows : (s : List ℕ) (w : Scan) (count : ℕ) → Follows (index_step s w count)
  unfolding index_step
  index_follows s w count =
      let b : ℕ = get_or s (w.at + 1) 256 in
      let on : Scan = advanced w (w.at + 1 + 1) in
      either (ltb 255 b) (refused_step 1) (cond (leb count b) (refused_step 16) (alone on)) (alone_follows (blank 1))
      (either (leb count b) (refused_step 16) (alone on) (alone_follows (blank 16)) (alone_follows on))

  leaf_follows : (b : Bool) (tag : ℕ) (s : List ℕ) (w : Scan) → Follows (leaf_step (expression b) tag s w)
  unfolding leaf_step
  leaf_follows true tag s w =
      either (eqb tag 0x31) (index_step s w w.reductions) (refused_step 9) (index_follows s w w.reductions) (alone_follows (blank 9))
  leaf_follows false tag s w = either (eqb tag 0x30) (index_step s w w.paths) (refused_step 9) (index_follows s w w.paths) (alone_follows (blank 9))

  literal_follows : (s : List ℕ) (w : Scan) → Follows (literal_step s w)
  unfolding literal_step
  literal_follows s w =
      let on : Scan = advanced w (w.at + 4 + 1) in
      either (ltb 255 (get_or s (w.at + 4) 256)) (refused_step 1) (alone on) (alone_follows (blank 1)) (alone_follows on)

  apply_follows : (s : List ℕ) (w : Scan) → Follows (apply_step kind s w)
  unfolding apply_step
  apply_follows s w =
      let on : Step = record { progress = advanced w (w.at + 1 + 1); follow = 2; inner = kind } in
      judged_follows (code_of (get_or s (w.at + 1) 256) 11) on (λ n. refl)

  step_follows : (left : ℕ) (s : List ℕ) (w : Scan) → Follows (term_step kind left s w)
  unfolding term_step
  step_follows left s w =
      let tag : ℕ = get_or s w.at 0 in
      let others : Step = cond (eqb tag (literal_tag kind + 1)) (apply_step kind s w) (leaf_step kind tag s w) in
      let head : Step = cond (eqb tag (literal_tag kind)) (literal_step s w) others in
      let deep : Step = cond (eqb left 0) (refused_step 11) head in
      either (leb (length s) w.at) (refused_step 1) (cond (leb 64 w.terms) (refused_step 12) deep) (alone_follows (blank 1))
      (either (leb 64 w.terms) (refused_step 12) deep (alone_follows (blank 12))
      (either (eqb left 0) (refused_step 11) head (alone_follows (blank 11))
      (either (eqb tag (literal_tag kind)) (literal_step s w) others (literal_follows s w)
      (either (eqb tag (literal_tag kind + 1)) (apply_step kind s w) (leaf_step kind tag s w) (apply_follows s w) (leaf_follows last tag s w)))))

  -- a head, and the terms that follow it with so many levels of depth left
  unfoldable followed : ℕ → List ℕ → Step → Scan
  followed left s h =
      cond (eqb h.follow 0) h.progress
      (cond (eqb h.follow 1) (read h.inner left s h.progress) (read h.inner left s (read h.inner left s h.progress)))

  read_suc : (left : ℕ) (s : List ℕ) (w : Scan) → w.code ≡ 0 → read kind (suc left) s w ≡ followed left s (term_step kind (suc left) s w)
  unfolding followed
  read_suc left s w z = let e : suc left - 1 ≡ left = omega arith in read_next kind (suc left) s w (λ n. omega arith) ∙ rw (eq-eqb w.code 0 z, e) refl

  followed_table : (left : ℕ) (s : List ℕ) (h : Step) (table : List PackedPath) → Follows h
      → ((w : Scan) → held (read kind left s w) table ≡ read kind left s (held w table))
      → held (followed left s h) table ≡ followed left s (held_step h table)
  unfolding followed held_step
  followed_table left s h table f rest = go (eqb h.follow 0) refl (eqb h.follow 1)
    where
      go : (a : Bool) → eqb h.follow 0 ≡ a → (b : Bool)
          → held (cond a h.progress (cond b (read h.inner left s h.progress) (read h.inner left s (read h.inner left s h.progress)))) table
          ≡ cond a (held h.progress table)
          (cond b (read h.inner left s (held h.progress table)) (read h.inner left s (read h.inner left s (held h.progress table))))
      go true e b = refl
      go false e true = let i = f (eqb-false h.follow 0 e) in rw i (rest h.progress)
      go false e false =
          let i = f (eqb-false h.follow 0 e) in
          rw i (rest (read kind left s h.progress) ∙ ap (read kind left s) (rest h.progress))

  refused : (left : ℕ) (s : List ℕ) (w : Scan) (table : List PackedPath) → (w.code ≡ 0 → ⊥)
      → held (read kind left s w) table ≡ read kind left s (held w table)
  unfolding held blank
  refused left s w table n = rw (handed_on kind left s w n, ne_eqb w.code 0 n) (sym (handed_on kind left s (blank w.code) n))

  -- THE TABLE IS HELD, AND WHAT IS READ DOES NOT DEPEND ON IT
  pub any_table : (left : ℕ) (s : List ℕ) (w : Scan) (table : List PackedPath) → held (read kind left s w) table ≡ read kind left s (held w table)
  unfolding held held_step
  any_table zero s w table = go w.code
    where
      go : (k : ℕ)
          → held (read kind zero s (record { code = k; at = w.at; terms = w.terms; paths = w.paths; reductions = w.reductions; table = w.table })) table
          ≡ read kind zero s
          (held (record { code = k; at = w.at; terms = w.terms; paths = w.paths; reductions = w.reductions; table = w.table }) table)
      go zero =
          rw (
            read_none kind zero s (one s table w.at w.terms w.paths w.reductions w.table) refl,
            read_none kind zero s (other s table w.at w.terms w.paths w.reductions w.table) refl,
          )
          (ap (λ (x : Step). x.progress) (step s table w.at w.terms w.paths w.reductions w.table zero))
      go (suc k) = refused zero s _ table (λ e. omega arith)
  any_table (suc left) s w table = go w.code (λ v. any_table left s v table)
    where
      go : (k : ℕ) → ((v : Scan) → held (read kind left s v) table ≡ read kind left s (held v table))
          → held (read kind (suc left) s (record { code = k; at = w.at; terms = w.terms; paths = w.paths; reductions = w.reductions; table = w.table })) table
          ≡ read kind (suc left) s
          (held (record { code = k; at = w.at; terms = w.terms; paths = w.paths; reductions = w.reductions; table = w.table }) table)
      go zero rest =
          rw (
            read_suc left s (one s table w.at w.terms w.paths w.reductions w.table) refl,
            read_suc left s (other s table w.at w.terms w.paths w.reductions w.table) refl,
            ← step s table w.at w.terms w.paths w.reductions w.table (suc left),
          )
          (followed_table left s _ table (step_follows (suc left) s _) rest)
      go (suc k) rest = refused (suc left) s _ table (λ e. omega arith)
