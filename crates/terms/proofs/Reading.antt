-- What the reader cites: chains kept before their term is counted, heads, and the terms that follow them. Assumes nothing.
use Prim.Native.Nat.{ℕ, zero, suc, ◌+◌, ◌-◌, ◌*◌, ◌≤◌, ◌<◌, max}
use mathlib.Core.Path.{◌≡◌, refl, sym, ap, ◌∙◌}
use mathlib.Core.Bool.{Bool, true, false, cond}
use mathlib.Core.List.{List}
use native.Mathlib.Omega.{arith}
use borrow.Author.Tests.{eqb-false, eq-eqb, le-leb, lt-leb, ne_eqb}
use lib.Dec.{leb, ltb, eqb}
use lib.ListN.{length, get_or, set}
use Rattle.packed_path.specs.declared.PackedPath.{PackedPath}
use Rattle.fields.specs.Fields.{code_of}
use Rattle.path_fields.specs.Paths.{path_at, path_code, set_at, set_code}
use Rattle.progress.specs.declared.Progress.{Progress}
use Rattle.progress.specs.Progress.{Scan, blank, going}
use Rattle.terms.specs.Terms.{Step, advanced, alone, apply_step, index_step, kept_path, leaf_step, literal_step, literal_tag, path_step, read}
use Rattle.terms.specs.Terms.{reduce_step, refused_step, set_step, slot_of, tagged_step, term_step}
use Rattle.terms.specs.declared.TermKind.{TermKind}
use Rattle.terms.specs.declared.TermKind.TheVariants.{OfVertex, OfResult, OfEntry, OfFinal}
use Rattle.wire.specs.Refusal.{number}
use Rattle.wire.specs.declared.Refusal.{Refusal}
use Rattle.wire.proofs.Codes.{number_some}
use Rattle.terms.proofs.Laws.{handed_on, read_next, read_none}

-- a chain put into the table before the term is counted, as the code goes: the same
pub kept_on : (v : Progress) (w : Scan) (path : PackedPath) (end : ℕ) → w.code ≡ 0 → going v ≡ kept_path w path
    → advanced (going v) end ≡ kept_path (advanced w end) path
unfolding advanced blank kept_path
kept_on v w path end z e = go (leb 8 (slot_of 8 w.paths w.table path 0)) e
  where
    i : ℕ
    i = slot_of 8 w.paths w.table path 0

    go : (b : Bool)
        → going v
        ≡ cond b (blank 14)
        (record { code = w.code; at = w.at; terms = w.terms; paths = max w.paths (i + 1); reductions = w.reductions; table = set w.table i path })
        → advanced (going v) end
        ≡ cond b (blank 14)
        (record { code = w.code; at = end; terms = w.terms + 1; paths = max w.paths (i + 1); reductions = w.reductions; table = set w.table i path })
    go true e = absurd (let f : 0 ≡ 14 = ap (λ (x : Scan). x.code) e in omega arith)
    go false e = ap (λ (x : Scan). advanced x end) e

pub kept_refused : (k : ℕ) (w : Scan) (path : PackedPath) (end : ℕ) → w.code ≡ 0 → (k ≡ 0 → ⊥) → blank k ≡ kept_path w path
    → blank k ≡ kept_path (advanced w end) path
unfolding advanced blank kept_path
kept_refused k w path end z n e = go (leb 8 (slot_of 8 w.paths w.table path 0)) e
  where
    i : ℕ
    i = slot_of 8 w.paths w.table path 0

    go : (b : Bool)
        → blank k
        ≡ cond b (blank 14)
        (record { code = w.code; at = w.at; terms = w.terms; paths = max w.paths (i + 1); reductions = w.reductions; table = set w.table i path })
        → blank k
        ≡ cond b (blank 14)
        (record { code = w.code; at = end; terms = w.terms + 1; paths = max w.paths (i + 1); reductions = w.reductions; table = set w.table i path })
    go true e = e
    go false e = absurd (n (ap (λ (x : Scan). x.code) e ∙ z))

pub ruleset keeping = (kept_on, kept_refused, number_some)

-- an accepted head counts one term, and at most two terms follow it
abbrev Counts : Scan → Step → Type 0
Counts w x = x.progress.code ≡ 0 → (x.progress.terms ≡ w.terms + 1) × (x.follow ≤ 2)

module _ (w : Scan) where
  either : (b : Bool) (x y : Step) → Counts w x → Counts w y → Counts w (cond b x y)
  either true x y p q = p
  either false x y p q = q

  refused_counts : (k : ℕ) → (k ≡ 0 → ⊥) → Counts w (refused_step k)
  unfolding blank
  refused_counts k n e = absurd (n e)

  -- after a judgement by number
  judged_counts : (k : ℕ) (x : Step) → Counts w x → Counts w (cond (eqb k 0) x (refused_step k))
  judged_counts k x p = go (eqb k 0) refl
    where
      go : (b : Bool) → eqb k 0 ≡ b → Counts w (cond b x (refused_step k))
      go true e = p
      go false e = refused_counts k (eqb-false k 0 e)

  alone_counts : (end : ℕ) → Counts w (alone (advanced w end))
  unfolding advanced
  alone_counts end e = (refl, omega arith)

  kept_counts : (path : PackedPath) (end : ℕ) → Counts w (alone (kept_path (advanced w end) path))
  unfolding advanced blank kept_path
  kept_counts path end = go (leb 8 (slot_of 8 w.paths w.table path 0))
    where
      i : ℕ
      i = slot_of 8 w.paths w.table path 0

      go : (b : Bool)
          → Counts w (alone (cond b (blank 14)
          (record { code = w.code; at = end; terms = w.terms + 1; paths = max w.paths (i + 1); reductions = w.reductions; table = set w.table i path })))
      go true e = absurd (let f : 14 ≡ 0 = e in omega arith)
      go false e = (refl, omega arith)

  reduce_counts : (follow : ℕ) (s : List ℕ) → follow ≤ 2 → Counts w (reduce_step follow s w)
  unfolding advanced reduce_step
  reduce_counts follow s h = judged_counts _ _ (either (leb 8 w.reductions) (refused_step 14) counted (refused_counts 14 (λ z. omega arith)) (λ e. (refl, h)))
    where
      a : Scan
      a = advanced w (w.at + 1 + 1)

      counted : Step
      counted = record {
        progress = record { code = a.code; at = a.at; terms = a.terms; paths = a.paths; reductions = w.reductions + 1; table = a.table };
        follow = follow;
        inner = OfVertex;
      }

  index_counts : (count : ℕ) (s : List ℕ) → Counts w (index_step s w count)
  unfolding index_step
  index_counts count s =
      either _ _ _ (refused_counts 1 (λ z. omega arith)) (either _ _ _ (refused_counts 16 (λ z. omega arith)) (alone_counts _))

  path_counts : (s : List ℕ) → Counts w (path_step s w)
  unfolding path_step
  path_counts s =
      let at : ℕ = w.at + 1 in
      let end : ℕ = at + 3 + get_or s at 256 in
      judged_counts (path_code s at) (alone (kept_path (advanced w end) (path_at s at))) (kept_counts (path_at s at) end)

  set_counts : (s : List ℕ) → Counts w (set_step s w)
  unfolding set_step
  set_counts s =
      let at : ℕ = w.at + 1 in
      let count : ℕ = at + 1 + get_or s at 256 in
      let end : ℕ = count + 1 + 2 * get_or s count 256 in
      judged_counts (set_code s at) (alone (kept_path (advanced w end) (set_at s at))) (kept_counts (set_at s at) end)

  nine_counts : Counts w (refused_step 9)
  nine_counts = refused_counts 9 (λ z. omega arith)

  leaf_counts : (kind : TermKind) (tag : ℕ) (s : List ℕ) → Counts w (leaf_step kind tag s w)
  unfolding leaf_step
  leaf_counts OfVertex tag s =
      either (eqb tag 0x10) (path_step s w) (cond (eqb tag 0x13) (set_step s w) (refused_step 9)) (path_counts s)
      (either (eqb tag 0x13) (set_step s w) (refused_step 9) (set_counts s) nine_counts)
  leaf_counts OfResult tag s =
      either (eqb tag 0x20) (reduce_step 1 s w) (cond (eqb tag 0x23) (reduce_step 2 s w) (refused_step 9)) (reduce_counts 1 s (omega arith))
      (either (eqb tag 0x23) (reduce_step 2 s w) (refused_step 9) (reduce_counts 2 s (omega arith)) nine_counts)
  leaf_counts OfEntry tag s = either (eqb tag 0x30) (index_step s w w.paths) (refused_step 9) (index_counts w.paths s) nine_counts
  leaf_counts OfFinal tag s = either (eqb tag 0x31) (index_step s w w.reductions) (refused_step 9) (index_counts w.reductions s) nine_counts

  literal_counts : (s : List ℕ) → Counts w (literal_step s w)
  unfolding literal_step
  literal_counts s = either (ltb 255 (get_or s (w.at + 4) 256)) (refused_step 1) (alone (advanced w (w.at + 4 + 1)))
      (refused_counts 1 (λ z. omega arith)) (alone_counts (w.at + 4 + 1))

  apply_counts : (kind : TermKind) (s : List ℕ) → Counts w (apply_step kind s w)
  unfolding advanced apply_step
  apply_counts kind s =
      judged_counts (code_of (get_or s (w.at + 1) 256) 11) (record { progress = advanced w (w.at + 1 + 1); follow = 2; inner = kind })
      (λ e. (refl, omega arith))

  pub tagged_counts : (kind : TermKind) (tag : ℕ) (s : List ℕ) → Counts w (tagged_step kind tag s w)
  tagged_counts kind tag s =
      let others : Step = cond (eqb tag (literal_tag kind + 1)) (apply_step kind s w) (leaf_step kind tag s w) in
      either (eqb tag (literal_tag kind)) (literal_step s w) others (literal_counts s)
      (either (eqb tag (literal_tag kind + 1)) (apply_step kind s w) (leaf_step kind tag s w) (apply_counts kind s) (leaf_counts kind tag s))

-- so many terms, one behind the other
unfoldable pub several : ℕ → TermKind → ℕ → List ℕ → Scan → Scan
several zero kind left s w = w
several (suc n) kind left s w = several n kind left s (read kind left s w)

pub several_next : (n i : ℕ) (kind : TermKind) (left : ℕ) (s : List ℕ) (w : Scan) → i < n
    → several (n - i) kind left s w ≡ several (n - (i + 1)) kind left s (read kind left s w)
unfolding several
several_next n i kind left s w h = let e : n - i ≡ suc (n - (i + 1)) = omega arith in rw e refl

pub several_done : (n : ℕ) (kind : TermKind) (left : ℕ) (s : List ℕ) (w : Scan) → n ≡ 0 → several n kind left s w ≡ w
unfolding several
several_done n kind left s w e = rw e refl

-- where one of them is refused the others hand the refusal on
pub several_stopped : (n i : ℕ) (kind : TermKind) (left : ℕ) (s : List ℕ) (w : Scan) (e : Refusal) → i < n
    → blank (number e) ≡ read kind left s w → several (n - i) kind left s w ≡ blank (number e)
unfolding blank several
several_stopped n i kind left s w e h r = several_next n i kind left s w h ∙ ap (several (n - (i + 1)) kind left s) (sym r) ∙ go (n - (i + 1))
  where
    go : (m : ℕ) → several m kind left s (blank (number e)) ≡ blank (number e)
    go zero = refl
    go (suc m) = rw (handed_on kind left s (blank (number e)) (number_some e)) (go m)

-- the tests before a head
pub read_stopped : (kind : TermKind) (left : ℕ) (s : List ℕ) (w : Scan) (k : ℕ) → w.code ≡ 0 → term_step kind left s w ≡ refused_step k
    → read kind left s w ≡ blank k
read_stopped kind zero s w k z e = rw (read_none kind 0 s w refl, eq-eqb _ _ z, e) refl
read_stopped kind (suc left) s w k z e = rw (read_next kind (suc left) s w (λ n. omega arith), eq-eqb _ _ z, e) refl

pub read_short : (kind : TermKind) (left : ℕ) (s : List ℕ) (w : Scan) → w.code ≡ 0 → length s ≤ w.at → read kind left s w ≡ blank 1
unfolding term_step
read_short kind left s w z h = read_stopped kind left s w 1 z (rw (le-leb _ _ h) refl)

pub read_many : (kind : TermKind) (left : ℕ) (s : List ℕ) (w : Scan) → w.code ≡ 0 → w.at < length s → 64 ≤ w.terms
    → read kind left s w ≡ blank 12
unfolding term_step
read_many kind left s w z h m = read_stopped kind left s w 12 z (rw (lt-leb _ _ h, le-leb _ _ m) refl)

pub read_deep : (kind : TermKind) (left : ℕ) (s : List ℕ) (w : Scan) → w.code ≡ 0 → w.at < length s → w.terms < 64 → left ≡ 0
    → read kind left s w ≡ blank 11
unfolding term_step
read_deep kind left s w z h m d = read_stopped kind left s w 11 z (rw (lt-leb _ _ h, lt-leb _ _ m, eq-eqb _ _ d) refl)

-- and behind them: the head, and the terms that follow it
module _ (kind : TermKind) (left : ℕ) (s : List ℕ) (w : Scan) (z : w.code ≡ 0) (h : w.at < length s) (m : w.terms < 64) (d : left ≡ 0 → ⊥) where
  tagged : term_step kind left s w ≡ tagged_step kind (get_or s w.at 0) s w
  unfolding term_step
  tagged = rw (lt-leb _ _ h, lt-leb _ _ m, ne_eqb _ _ d) refl

  pub read_refused : (k : ℕ) → refused_step k ≡ tagged_step kind (get_or s w.at 0) s w → read kind left s w ≡ blank k
  read_refused k e = read_stopped kind left s w k z (tagged ∙ sym e)

  pub read_several : (head : Step) → head ≡ tagged_step kind (get_or s w.at 0) s w → head.progress.code ≡ 0
      → read kind left s w ≡ several head.follow head.inner (left - 1) s head.progress
  unfolding several
  read_several head e on =
      let few = (tagged_counts w kind (get_or s w.at 0) s (ap (λ (y : Step). y.progress.code) (sym e) ∙ on)).1 in
      let same = ap (λ (y : Step). y.follow) e in
      rw (read_next kind left s w d, eq-eqb _ _ z, tagged, ← e) (go head.follow (omega (arith, few, same)))
    where
      go : (n : ℕ) → n ≤ 2
          → cond (eqb n 0) head.progress
          (cond (eqb n 1) (read head.inner (left - 1) s head.progress)
          (read head.inner (left - 1) s (read head.inner (left - 1) s head.progress)))
          ≡ several n head.inner (left - 1) s head.progress
      go zero l = refl
      go (suc zero) l = refl
      go (suc (suc zero)) l = refl
      go (suc (suc (suc n))) l = absurd (omega arith)

pub ruleset reading = (read_short, read_many, read_deep, read_refused, several_next, several_done, several_stopped)
