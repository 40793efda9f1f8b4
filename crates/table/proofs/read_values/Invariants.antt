use Prim.Native.Nat.{ℕ, ◌≤◌, ◌<◌}
use mathlib.Core.Path.{◌≡◌}
use mathlib.Core.List.{List}
use lib.ListN.{length}
use Rattle.packed_figures.specs.declared.PathConstants.{PathConstants}
use Rattle.table.specs.Steps.{value_word, word_in}
use Rattle.table.proofs.read_values.Given as goal

-- those below v have their values, those from v on their words, and so have the other path reductions
pub record Upto (c : PathConstants) (j : ℕ) (old new : List ℕ) (v : ℕ) : Type 0 where
  pub done : (u : ℕ) → u < v → word_in new j u ≡ value_word c (word_in old j u)
  pub left : (u : ℕ) → v ≤ u → word_in new j u ≡ word_in old j u
  pub others : (i : ℕ) → i < 8 → (i ≡ j → ⊥) → (u : ℕ) → word_in new i u ≡ word_in old i u
  pub size : length new ≡ length old

abbrev pub invariant-loop-v : goal.invariant-loop-v
invariant-loop-v l = Upto l.c l.j l.initial.figures l.figures l.v
