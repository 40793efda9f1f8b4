-- Sources judged in turn: what the loops over a path reduction's sources and over path reductions cite. Assumes nothing.
use Prim.Native.Nat.{ℕ, ◌+◌, ◌≤◌, ◌<◌}
use mathlib.Core.Path.{◌≡◌, refl, ◌∙◌}
use mathlib.Core.List.{List, map}
use native.Mathlib.Numerals.{add-one}
use borrow.Author.Tests.{le-ltb, lt-ltb}
use lib.ListN.{length, get_or, drop, drop_of_length-le}
use lib.Seq.{drop-cons}
use Rattle.packed_path.specs.declared.PackedPath.{PackedPath}
use Rattle.packed_path.specs.Packed.{no_path, path_of, sources_of}
use Rattle.packed_path.specs.Steps.{first_of, rest_of}
use Rattle.packed_path.proofs.Sources.{sources_first, sources_none}
use Rattle.wire.specs.Header.{then}
use Rattle.wire.proofs.Codes.{then_none, then_some}
use Rattle.engine.specs.Run.{outside_code, sources_code}

-- the first source of a path reduction, and those behind it
module _ (n : ℕ) (p : PackedPath) where
  pub outside_first : 0 < p.count → n ≤ first_of p → outside_code n (sources_of p) ≡ 13
  outside_first h k = rw (sources_first p h, le-ltb (first_of p) n k) refl

  pub outside_rest : 0 < p.count → first_of p < n → outside_code n (sources_of p) ≡ outside_code n (sources_of (rest_of p))
  outside_rest h k = rw (sources_first p h, lt-ltb (first_of p) n k) refl

  pub outside_none : p.count ≡ 0 → outside_code n (sources_of p) ≡ 0
  outside_none z = rw (sources_none p z) refl

-- those of the path reductions from the i-th on
module _ (n : ℕ) (table : List PackedPath) (i : ℕ) where
  -- the i-th is judged before those behind it
  source_next : i < length table → sources_code n (map path_of (drop i table))
      ≡ then (outside_code n (sources_of (get_or table i no_path))) (sources_code n (map path_of (drop (i + 1) table)))
  unfolding sources_code path_of
  source_next h = rw (add-one i, drop-cons table i no_path h) refl

  pub source_refused : i < length table → (outside_code n (sources_of (get_or table i no_path)) ≡ 0 → ⊥)
      → sources_code n (map path_of (drop i table)) ≡ outside_code n (sources_of (get_or table i no_path))
  source_refused h k = source_next h ∙ then_some _ _ k

  pub source_passed : i < length table → outside_code n (sources_of (get_or table i no_path)) ≡ 0
      → sources_code n (map path_of (drop i table)) ≡ sources_code n (map path_of (drop (i + 1) table))
  source_passed h k = source_next h ∙ then_none _ _ k

  -- behind the last there is nothing to refuse
  pub sources_passed : length table ≤ i → sources_code n (map path_of (drop i table)) ≡ 0
  unfolding sources_code
  sources_passed h = rw (drop_of_length-le table h) refl
