use Prim.Native.Nat.{ℕ, ◌+◌, ◌*◌, ◌≤◌, ◌<◌}
use mathlib.Core.Path.{◌≡◌, refl, ap, ◌∙◌}
use mathlib.Core.Bool.{Bool, true, false, cond, ◌&&◌}
use mathlib.Core.List.{List}
use native.Mathlib.Omega.{arith}
use native.Mathlib.Decide.{ℕ_discrete}
use borrow.Author.Tests.{eq-eqb, ne_eqb}
use lib.Dec.{eqb}
use lib.ListN.{length, get_or, set, length-set}
use lib.Seq.{get_or-set_other}
use Rattle.vertex_set.specs.Sets.{emptied, inserted, member}
use Rattle.vertex_set.proofs.Sets.{member_emptied, replaced_length, replaced_other}
use Rattle.packed_path.specs.Packed.{sources_of}
use Rattle.packed_path.specs.Steps.{begins}
use Rattle.packed_figures.specs.declared.PathConstants.{PathConstants}
use Rattle.table.specs.Table.{cell_in}
use Rattle.table.specs.Steps.{started, word_in}
use Rattle.table.proofs.Cells.{cell_same, cells_same, marked_elsewhere, marked_here, marked_other, marked_size, replaced_words, stored_here}
use Rattle.table.proofs.Cells.{stored_marks, stored_slot, stored_vertex}
use Rattle.table.proofs.initialize.Invariants.{Upto}
use Rattle.table.proofs.initialize.Goals as goal

-- the set is empty at first, and the others are as they were
cleared : (j : ℕ) (old : List ℕ) (u : ℕ) → u < 256 → 4 * j + 4 ≤ length old → member (emptied old j) j u ≡ false
cleared j old u k room = member_emptied old j j u k room ∙ rw (eq-eqb j j refl)

cleared_others : (j : ℕ) (old : List ℕ) → j < 8 → 32 ≤ length old → (i : ℕ) → i < 8 → (i ≡ j → ⊥) → (u : ℕ) → u < 256
    → cell_in (emptied old j) i u ≡ cell_in old i u
cleared_others j old slot room i h n u k =
    cells_same old (emptied old j) i u (replaced_words old j _ i u slot) (member_emptied old j i u k (omega arith) ∙ rw (ne_eqb i j n))

-- the vertex v
module _ (b : ℕ → Bool) (c : PathConstants) (j : ℕ) (old new : List ℕ) (v : ℕ) (slot : j < 8) (few : v < 256) (room : 32 + 8 * v + j < length old)
    (p : Upto b c j old new v) where
  abbrev stored : List ℕ
  stored = set new (32 + 8 * v + j) (started c (b v) v)

  abbrev next : List ℕ
  next = cond (b v) (inserted stored j v) stored

  long : 4 * j + 4 ≤ length stored
  long = omega (arith, length-set new (32 + 8 * v + j) (started c (b v) v), p.size)

  word_kept : (i u : ℕ) → word_in next i u ≡ word_in stored i u
  word_kept i u = marked_other (b v) stored j v (32 + 8 * u + i) few (omega arith)

  apart : (i u : ℕ) → (u ≡ v → ⊥) → (eqb i j && eqb u v) ≡ false
  apart i u n = rw (ne_eqb u v n) (go (eqb i j))
    where
      go : (a : Bool) → (a && false) ≡ false
      go true = refl
      go false = refl

  mark_kept : (u : ℕ) → (u ≡ v → ⊥) → u < 256 → member next j u ≡ member new j u
  mark_kept u n k =
      marked_elsewhere (b v) stored j v j u few k long (apart j u n) ∙ stored_marks new j v (started c (b v) v) slot j u slot k

  one_more : Upto b c j old next (v + 1)
  one_more = record {
    words = λ u h. word u h (ℕ_discrete u v);
    marks = λ u h k. mark u h k (ℕ_discrete u v);
    blank = λ u h k. mark_kept u (λ e. omega (arith, e)) k ∙ p.blank u (omega arith) k;
    others = λ i h n u k.
        cells_same new next i u (word_kept i u ∙ stored_slot new j v (started c (b v) v) slot i u h n)
        (marked_elsewhere (b v) stored j v i u few k long (rw (ne_eqb i j n)) ∙ stored_marks new j v (started c (b v) v) slot i u h k)
        ∙ p.others i h n u k;
    kept = λ k h.
        marked_other (b v) stored j v k few (omega arith)
        ∙ get_or-set_other new (32 + 8 * v + j) k (started c (b v) v) 0 (λ e. omega (arith, e))
        ∙ p.kept k (omega arith);
    size = marked_size (b v) stored j v ∙ length-set new (32 + 8 * v + j) (started c (b v) v) ∙ p.size;
  }
    where
      word : (u : ℕ) → u < v + 1 → Dec (u ≡ v) → word_in next j u ≡ started c (b u) u
      word u h (yes e) = rw e (word_kept j v ∙ stored_here new j v (started c (b v) v) slot (omega (arith, p.size)))
      word u h (no n) = word_kept j u ∙ stored_vertex new j v (started c (b v) v) slot u n ∙ p.words u (omega arith)

      mark : (u : ℕ) → u < v + 1 → u < 256 → Dec (u ≡ v) → member next j u ≡ b u
      mark u h k (yes e) =
          rw e (marked_here (b v) stored j v few long (stored_marks new j v (started c (b v) v) slot j v slot few ∙ p.blank v (omega arith) few))
      mark u h k (no n) = mark_kept u n k ∙ p.marks u (omega arith) k

pub loop-v-init : goal.loop-v-init
loop-v-init c =
    let e = c.clear.ensures in
    record {
      words = λ u h. absurd (omega arith);
      marks = λ u h k. absurd (omega arith);
      blank = λ u h k. ap (λ (l : List ℕ). member l c.args.j u) e
          ∙ cleared c.args.j c.args.figures.now u k (omega (arith, c.requires.2, c.requires.3));
      others = λ i h n u k. refl;
      kept = λ k h. refl;
      size = refl;
    }

pub loop-v-preserved : goal.loop-v-preserved
loop-v-preserved c =
    let a = c.args in
    let l = c.loop-v in
    let e = c.clear.ensures in
    let old = ap length e ∙ replaced_length a.figures.now a.j _ in
    rw (
      c.insert_if.ensures,
      c.start_word.ensures,
      c.starts_at-here.ensures,
    )
    (one_more (begins (sources_of a.path)) a.c a.j _ l.figures l.v c.requires.2 (omega (arith, c.requires.1))
    (omega (arith, c.requires.2, c.requires.3, old)) l.invariant)

pub returns : goal.returns
returns c =
    let a = c.args in
    let l = c.loop-v in
    let p = l.invariant in
    let e : l.v ≡ a.n = omega arith in
    let e₀ = c.clear.ensures in
    record {
      cells = λ v h. cell_same l.figures a.j v _ _ (p.words v (omega (arith, e))) (p.marks v (omega (arith, e)) (omega (arith, c.requires.1)));
      others = λ m few i h n v k.
          p.others i h n v (omega arith)
          ∙ ap (λ (f : List ℕ). cell_in f i v) e₀
          ∙ cleared_others a.j a.figures.now c.requires.2 (omega (arith, c.requires.3)) i h n v (omega arith);
      kept = λ u.
          p.kept (32 + 8 * a.n + u) (omega (arith, e))
          ∙ ap (λ (f : List ℕ). get_or f (32 + 8 * a.n + u) 0) e₀
          ∙ replaced_other a.figures.now a.j _ (32 + 8 * a.n + u) (omega (arith, c.requires.2));
      size = p.size ∙ ap length e₀ ∙ replaced_length a.figures.now a.j _;
    }
