-- Path reductions as numbers, as the program goes. Nothing to believe: proofs/Packed says what these are over path reductions.
use Rattle.std.specs.Prelude.{ℕ, ◌+◌, ◌-◌, ◌*◌, ◌/◌, ◌%◌, Bool, true, List, [], ◌∷◌}
use Rattle.meaning.specs.Query.{member}
use Rattle.packed_path.specs.declared.PackedPath.{PackedPath}

-- the first source, and the others
abbrev pub first_of : PackedPath → ℕ
first_of p = p.low % 256

unfoldable pub rest_of : PackedPath → PackedPath
rest_of p = record {
  keys = p.keys;
  count = p.count - 1;
  low = p.low / 256 + 72057594037927936 * (p.high % 256);
  high = p.high / 256;
}

-- may a walk start at v? With no sources it may anywhere
abbrev pub begins : List ℕ → ℕ → Bool
begins [] v = true
begins (s ∷ ss) v = member v (s ∷ ss)
