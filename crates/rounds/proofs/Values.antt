-- The value that is read off the table is that of the figures that it showed. Assumes nothing.
use Prim.Native.Nat.{ℕ, ◌+◌, ◌*◌, ◌-◌, ◌≤◌, ◌<◌}
use mathlib.Core.Path.{◌≡◌, refl, sym, ap, ◌∙◌}
use mathlib.Core.Bool.{Bool, true, false, cond}
use mathlib.Core.List.{List}
use native.Mathlib.Omega.{arith}
use borrow.Author.Tests.{lt-leb, ne_eqb}
use lib.Dec.{T, eqb}
use lib.ListN.{length}
use Rattle.value.specs.declared.Value.TheVariants.{Absent, Number}
use Rattle.walks.specs.Keys.{legal_keys}
use Rattle.walks.specs.Meaning.{value}
use Rattle.meaning.specs.Query.{PathReduction}
use Rattle.packed_figures.specs.Packed.{absent, constants, figure_of, figures_of}
use Rattle.packed_figures.proofs.Options.{word_figures, word_of_value}
use Rattle.table.specs.Steps.{value_word, word_in}
use Rattle.table.specs.Table.{Sound, SoundWord, cell_in, figures_in, value_in}
use Rattle.table.proofs.Cells.{cell_word}

-- a word of a value says it, as one more than the number, or 0
said : (b : Bool) (y : ℕ) → cond (eqb (cond b 0 (y + 1)) 0) Absent (Number (cond b 0 (y + 1) - 1)) ≡ cond b Absent (Number y)
said true y = refl
said false y = rw (ne_eqb (y + 1) 0 (λ e. omega (arith, e))) (ap Number (omega arith))

-- the value of a sound word
word_value : (ks : List ℕ) → T (legal_keys ks) → (r x : ℕ) → SoundWord ks r x
    → cond (eqb x absent) Absent (Number (figure_of (constants ks) x)) ≡ value (figures_of ks x)
word_value ks t r x w = rw w.packed (sym (word_of_value ks t w.figures w.packs) ∙ ap value (sym (word_figures ks t w.figures w.packs)))

-- THE VALUE READ IS THAT OF THE FIGURES SHOWN BEFORE, of a sound table whose words were replaced by those of their values
pub value_read : (n : ℕ) → n ≤ 256 → (c : PathReduction) → T (legal_keys c.keys) → (r : ℕ) (old new : List ℕ) (j : ℕ) → j < 8
    → Sound n c r old j → length new ≡ length old
    → (v : ℕ) → v < n → word_in new j v ≡ value_word (constants c.keys) (word_in old j v) → value_in new j v ≡ value (figures_in c old j v)
unfolding value_in figures_in
value_read n few c t r old new j slot x size v h e =
    let w : SoundWord c.keys r (cell_in old j v).word = x.words v h in
    let y = word_in old j v in
    rw (lt-leb 8 j slot, lt-leb 256 v (omega arith), lt-leb (length new) (32 + 8 * v + j) (omega (arith, x.long, size)), e)
    (said (eqb y absent) (figure_of (constants c.keys) y)
    ∙ word_value c.keys t r y (rw (cell_word old j v) at w)
    ∙ ap (λ (i : ℕ). value (figures_of c.keys i)) (sym (cell_word old j v)))
