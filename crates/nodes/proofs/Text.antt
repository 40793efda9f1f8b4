-- How long the text of terms is. Assumes nothing.
use Prim.Native.Nat.{ℕ, ◌/◌, ◌%◌, ◌≤◌}
use mathlib.Core.Path.{◌≡◌}
use mathlib.Core.Bool.{Bool, true, false, cond}
use mathlib.Core.List.{List, [], ◌∷◌, ◌++◌}
use native.Mathlib.Omega.{arith}
use lib.Dec.{ltb}
use lib.ListN.{length, take, length-append, length-take}
use Rattle.packed_path.specs.declared.PackedPath.{PackedPath}
use Rattle.packed_path.specs.Packed.{sources_of}
use Rattle.draft.proofs.Texts.{texts_short}
use Rattle.nodes.specs.declared.Term.{Term}
use Rattle.nodes.specs.declared.Term.TheVariants.{Apply, Empty, Entry, EntryIndex, Literal, Path, PathIndex, PathSet, Reduce, ReduceWhere}
use Rattle.nodes.specs.declared.Term.TheVariants.{ResultApply, ResultLiteral}
use Rattle.nodes.specs.Text.{key_text, keys_text, nodes_text, set_text, start_text, term_text}
use Rattle.nodes.proofs.Fields.{starts_length}

-- a key takes at most one byte, the key count and the keys four, a set of sources 33, a term 38
key_short : (n j b : ℕ) → length (key_text n j b) ≤ 1
key_short n j b = go (ltb j n)
  where
    go : (t : Bool) → length (cond t (b ∷ []) []) ≤ 1
    go true = omega arith
    go false = omega arith

keys_short : (w : ℕ) → length (keys_text w) ≤ 4
unfolding keys_text
keys_short w =
    let n = w % 256 in
    let a = key_text n 0 (w / 256 % 256) in
    let b = key_text n 1 (w / 65536 % 256) in
    let c = key_text n 2 (w / 16777216 % 256) in
    omega (
      arith,
      key_short n 0 (w / 256 % 256),
      key_short n 1 (w / 65536 % 256),
      key_short n 2 (w / 16777216 % 256),
      length-append a (b ++ c),
      length-append b c,
    )

pub set_short : (p : PackedPath) → length (set_text p) ≤ 33
set_short p = omega (arith, starts_length (take 16 (sources_of p)), length-take 16 (sources_of p))

term_short : (t : Term) → length (term_text t) ≤ 38
unfolding term_text
term_short Empty = omega arith
term_short (Path p) = omega (arith, keys_short p.keys, length-append (keys_text p.keys) (start_text p))
term_short (PathSet p) = omega (arith, keys_short p.keys, set_short p, length-append (keys_text p.keys) (set_text p))
term_short (Literal k) = omega arith
term_short (Apply o) = omega arith
term_short (Reduce o) = omega arith
term_short (ReduceWhere o) = omega arith
term_short (ResultLiteral k) = omega arith
term_short (ResultApply o) = omega arith
term_short (PathIndex i) = omega arith
term_short (EntryIndex i) = omega arith
term_short (Entry r) = omega arith

-- 72 nodes take at most 2,736 bytes
pub nodes_short : (count : ℕ) (l : List Term) → length l ≡ 72 → length (nodes_text (take count l)) ≤ 2736
nodes_short count l h = omega (arith, texts_short term_text 38 term_short (take count l), length-take count l)
