-- THE VERTICES OF SET 0, one after the other. Assumes nothing.
use Prim.Native.Nat.{ℕ, zero, suc, ◌+◌, ◌*◌, ◌≤◌, ◌<◌}
use mathlib.Core.Path.{◌≡◌, refl, sym, ap, ◌∙◌}
use mathlib.Core.Bool.{Bool, true, false, cond, ◌&&◌}
use mathlib.Core.List.{List}
use native.Mathlib.Omega.{arith}
use native.Mathlib.Decide.{ℕ_discrete, dec_lt}
use borrow.Author.Tests.{ne_eqb}
use lib.Dec.{eqb}
use lib.ListN.{length, set, length-set}
use lib.Seq.{get_or-set_other}
use Rattle.wire.specs.Wire.{at16}
use Rattle.graph.specs.Graph.{edge_in}
use Rattle.vertex_set.specs.Sets.{inserted, member}
use Rattle.packed_figures.specs.declared.PathConstants.{PathConstants}
use Rattle.table.specs.Steps.{Ready, Walked, lent_in, moves, next_word, reduced_upto, walked_mark, walked_word, word_in}
use Rattle.table.proofs.Cells.{marked_elsewhere, marked_here, marked_size, stored_here, stored_marks, stored_slot, stored_vertex}

-- a reduction depends on the words that the starts of the edges lend alone
pub reduced_same : (s : List ℕ) (c : PathConstants) (L L' : ℕ → ℕ) (word v i : ℕ)
    → ((k : ℕ) → k < i → L' (edge_in s k).from ≡ L (edge_in s k).from) → reduced_upto s c L' word v i ≡ reduced_upto s c L word v i
unfolding reduced_upto
reduced_same s c L L' word v zero same = refl
reduced_same s c L L' word v (suc i) same = rw (reduced_same s c L L' word v i (λ k h. same k (omega arith)), same i (omega arith)) refl

module _ (s : List ℕ) (c : PathConstants) (j : ℕ) (slot : j < 8) (old work : List ℕ) where
  abbrev L : ℕ → ℕ
  L = lent_in s old

  -- none yet
  pub walked_none : ((u : ℕ) → u < 256 → member work 1 u ≡ false) → Walked s c j old work old work 0
  walked_none blank = record {
    done = λ u h k. absurd (omega arith);
    left = λ u h. refl;
    others = λ i h n u. refl;
    marks = λ i h u k. refl;
    size = refl;
    chosen = λ u k. refl;
    kept = λ u. refl;
    moved = λ u h k. absurd (omega arith);
    rest = λ u h k. blank u k;
    room = refl;
  }

  -- vertices that are not in set 0 are passed over
  pub passed : (new work' : List ℕ) (v w : ℕ) → ((u : ℕ) → v ≤ u → u < w → member work' 0 u ≡ false) → v ≤ w
      → Walked s c j old work new work' v → Walked s c j old work new work' w
  passed new work' v w none up p = record {
    done = λ u h k. done u h k (dec_lt u v);
    left = λ u h. p.left u (omega arith);
    others = p.others;
    marks = p.marks;
    size = p.size;
    chosen = p.chosen;
    kept = p.kept;
    moved = λ u h k. moved u h k (dec_lt u v);
    rest = λ u h k. p.rest u (omega arith) k;
    room = p.room;
  }
    where
      out : (u : ℕ) → u < w → (u < v → ⊥) → u < 256 → member work 0 u ≡ false
      out u h l k = sym (p.chosen u k) ∙ none u (omega arith) h

      done : (u : ℕ) → u < w → u < 256 → Dec (u < v) → word_in new j u ≡ cond (member work 0 u) (next_word s c j L old u) (word_in old j u)
      done u h k (yes l) = p.done u l k
      done u h k (no l) = p.left u (omega arith) ∙ rw (out u h l k)

      moved : (u : ℕ) → u < w → u < 256 → Dec (u < v) → member work' 1 u ≡ (member work 0 u && moves s c j L old u)
      moved u h k (yes l) = p.moved u l k
      moved u h k (no l) = p.rest u (omega arith) k ∙ sym (ap (λ (b : Bool). b && moves s c j L old u) (out u h l k))

  -- the vertex v of set 0
  module _ (new work' : List ℕ) (v : ℕ) (p : Walked s c j old work new work' v) (table_room : 32 + 8 * v + j < length old)
      (work_room : 8 ≤ length work)
      (few : v < 256) (inside : v < at16 s 5) (chosen : member work' 0 v ≡ true) where
    word_was : word_in new j v ≡ word_in old j v
    word_was = p.left v (omega arith)

    -- its next word, by the table as it is now
    same : next_word s c j (lent_in s new) new v ≡ next_word s c j L old v
    same =
        ap (λ (x : ℕ). reduced_upto s c (lent_in s new) x v (at16 s 7)) word_was
        ∙ reduced_same s c L (lent_in s new) (word_in old j v) v (at16 s 7) (λ k h. p.kept (edge_in s k).from)

    abbrev test : Bool
    test = moves s c j (lent_in s new) new v

    test_is : test ≡ moves s c j L old v
    test_is = rw (same, word_was)

    abbrev x : ℕ
    x = next_word s c j (lent_in s new) new v

    abbrev stored : List ℕ
    stored = set new (32 + 8 * v + j) (next_word s c j (lent_in s new) new v)

    abbrev marked : List ℕ
    marked = cond (moves s c j (lent_in s new) new v) (inserted work' 1 v) work'

    long : 8 ≤ length work'
    long = omega (arith, p.room)

    set_kept : (f u : ℕ) → u < 256 → (eqb f 1 && eqb u v) ≡ false → member marked f u ≡ member work' f u
    set_kept f u k e = marked_elsewhere test work' 1 v f u few k long e

    one_more : Walked s c j old work stored marked (v + 1)
    one_more = record {
      done = λ u h k. done u h k (ℕ_discrete u v);
      left = λ u h. stored_vertex new j v x slot u (λ e. omega (arith, e)) ∙ p.left u (omega arith);
      others = λ i h n u. stored_slot new j v x slot i u h n ∙ p.others i h n u;
      marks = λ i h u k. stored_marks new j v x slot i u h k ∙ p.marks i h u k;
      size = length-set new (32 + 8 * v + j) x ∙ p.size;
      chosen = λ u k. set_kept 0 u k refl ∙ p.chosen u k;
      kept = λ u. get_or-set_other new (32 + 8 * v + j) (32 + 8 * at16 s 5 + u) x 0 (λ e. omega (arith, e)) ∙ p.kept u;
      moved = λ u h k. moved u h k (ℕ_discrete u v);
      rest = λ u h k. set_kept 1 u k (ne_eqb u v (λ e. omega (arith, e))) ∙ p.rest u (omega arith) k;
      room = marked_size test work' 1 v ∙ p.room;
    }
      where
        done : (u : ℕ) → u < v + 1 → u < 256 → Dec (u ≡ v) → word_in stored j u
            ≡ cond (member work 0 u) (next_word s c j L old u) (word_in old j u)
        done u h k (yes e) =
            rw (e, sym (p.chosen v few) ∙ chosen) (stored_here new j v x slot (omega (arith, p.size)) ∙ same)
        done u h k (no n) = stored_vertex new j v x slot u n ∙ p.done u (omega arith) k

        here : member marked 1 v ≡ (member work 0 v && moves s c j L old v)
        here =
            marked_here test work' 1 v few long (p.rest v (omega arith) few)
            ∙ test_is
            ∙ sym (ap (λ (b : Bool). b && moves s c j L old v) (sym (p.chosen v few) ∙ chosen))

        moved : (u : ℕ) → u < v + 1 → u < 256 → Dec (u ≡ v) → member marked 1 u ≡ (member work 0 u && moves s c j L old u)
        moved u h k (yes e) = rw e here
        moved u h k (no n) = set_kept 1 u k (ne_eqb u v n) ∙ p.moved u (omega arith) k

    pub walked_more : Walked s c j old work (walked_word s c j new v) (walked_mark s c j new work' v) (v + 1)
    unfolding walked_word walked_mark
    walked_more = one_more

-- what a walk asks, of a table and of `work` as they then are
pub ready_still : (s : List ℕ) (c : PathConstants) (j : ℕ) (l work l' work' : List ℕ) → Ready s c j l work
    → length l' ≡ length l → length work' ≡ length work → ((u : ℕ) → u < 256 → member work' 0 u ≡ member work 0 u)
    → ((u : ℕ) → lent_in s l' u ≡ lent_in s l u) → Ready s c j l' work'
ready_still s c j l work l' work' p e f same kept = record {
  lends = record {
    sound = p.lends.sound;
    table_fits = omega (arith, e, p.lends.table_fits);
    words_lent = λ u h. rw (kept u) (p.lends.words_lent u h);
  };
  slot = p.slot;
  work_fits = omega (arith, f, p.work_fits);
  walked_fit = λ v k m. p.walked_fit v k (sym (same v k) ∙ m);
}
