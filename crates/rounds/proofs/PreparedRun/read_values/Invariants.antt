use Prim.Native.Nat.{ℕ, ◌≤◌, ◌<◌}
use mathlib.Core.Path.{◌≡◌}
use mathlib.Core.List.{List}
use lib.ListN.{length, get_or}
use Rattle.packed_figures.specs.declared.PathConstants.{PathConstants}
use Rattle.table.specs.Steps.{value_word, word_in}
use Rattle.rounds.specs.Steps.{no_constants}
use Rattle.rounds.proofs.PreparedRun.read_values.Given as goal

-- the first j have their values, the others their words
pub record Upto (n : ℕ) (all : List PathConstants) (old new : List ℕ) (j : ℕ) : Type 0 where
  pub done : (i : ℕ) → i < j → (v : ℕ) → v < n → word_in new i v ≡ value_word (get_or all i no_constants) (word_in old i v)
  pub left : (i : ℕ) → j ≤ i → i < 8 → (v : ℕ) → v < 256 → word_in new i v ≡ word_in old i v
  pub size : length new ≡ length old

abbrev pub invariant-loop-j : goal.invariant-loop-j
invariant-loop-j l = Upto l.n l.self.all l.initial.figures l.figures l.j
