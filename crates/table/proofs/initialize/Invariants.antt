use Prim.Native.Nat.{ℕ, ◌+◌, ◌*◌, ◌≤◌, ◌<◌}
use mathlib.Core.Path.{◌≡◌}
use mathlib.Core.Bool.{Bool, false}
use mathlib.Core.List.{List}
use lib.ListN.{length, get_or}
use Rattle.vertex_set.specs.Sets.{member}
use Rattle.packed_path.specs.Packed.{sources_of}
use Rattle.packed_path.specs.Steps.{begins}
use Rattle.packed_figures.specs.declared.PathConstants.{PathConstants}
use Rattle.table.specs.Table.{cell_in}
use Rattle.table.specs.Steps.{started, word_in}
use Rattle.table.proofs.initialize.Given as goal

pub record Upto (b : ℕ → Bool) (c : PathConstants) (j : ℕ) (old new : List ℕ) (v : ℕ) : Type 0 where
  pub words : (u : ℕ) → u < v → word_in new j u ≡ started c (b u) u
  pub marks : (u : ℕ) → u < v → u < 256 → member new j u ≡ b u
  pub blank : (u : ℕ) → v ≤ u → u < 256 → member new j u ≡ false
  pub others : (i : ℕ) → i < 8 → (i ≡ j → ⊥) → (u : ℕ) → u < 256 → cell_in new i u ≡ cell_in old i u
  pub kept : (k : ℕ) → 32 + 8 * v ≤ k → get_or new k 0 ≡ get_or old k 0
  pub size : length new ≡ length old

abbrev pub invariant-loop-v : goal.invariant-loop-v
invariant-loop-v l = Upto (begins (sources_of l.path)) l.c l.j l.initial.figures l.figures l.v
