-- A PATH REDUCTION AS NUMBERS: of every legal one the numbers give it back (`path_back`, proofs/Packed).
use Rattle.std.specs.Prelude.{ℕ, zero, suc, ◌+◌, ◌*◌, ◌/◌, ◌%◌, Bool, ◌&&◌, List, [], ◌∷◌, eqb, length, get_or, take}
use Rattle.meaning.specs.Query.{PathReduction}
use Rattle.packed_path.specs.declared.PackedPath.{PackedPath}

-- bytes as one number, the first one lowest; and so many bytes of a number
abbrev pub number_of : List ℕ → ℕ
number_of [] = 0
number_of (b ∷ bs) = b + 256 * number_of bs

abbrev pub bytes_of : ℕ → ℕ → List ℕ
bytes_of zero x = []
bytes_of (suc k) x = x % 256 ∷ bytes_of k (x / 256)

-- "key count, three key bytes with unused ones 0"
abbrev pub keys_number : ℕ → ℕ → ℕ → ℕ → ℕ
keys_number n a b c = n + 256 * a + 65536 * b + 16777216 * c

-- sources as two numbers of 64 bits, behind the number of the keys
abbrev pub with_sources : ℕ → List ℕ → PackedPath
with_sources keys ss = record {
  keys = keys;
  count = length ss;
  low = number_of ss % 18446744073709551616;
  high = number_of ss / 18446744073709551616;
}

abbrev pub packed : PathReduction → PackedPath
packed c = with_sources (keys_number (length c.keys) (get_or c.keys 0 0) (get_or c.keys 1 0) (get_or c.keys 2 0)) c.sources

-- and back
abbrev pub keys_in : ℕ → List ℕ
keys_in x = take (x % 256) (x / 256 % 256 ∷ x / 65536 % 256 ∷ x / 16777216 % 256 ∷ [])

unfoldable pub sources_of : PackedPath → List ℕ
sources_of p = bytes_of p.count (p.low + 18446744073709551616 * p.high)

unfoldable pub path_of : PackedPath → PathReduction
path_of p = record { keys = keys_in p.keys; sources = sources_of p }

-- are they the same, field by field?
unfoldable pub same_packed : PackedPath → PackedPath → Bool
same_packed a b = eqb a.keys b.keys && (eqb a.low b.low && (eqb a.count b.count && eqb a.high b.high))

-- one source more, before the others
unfoldable pub with_first : ℕ → PackedPath → PackedPath
with_first source p = record {
  keys = p.keys;
  count = p.count + 1;
  low = source + 256 * (p.low % 72057594037927936);
  high = p.low / 72057594037927936 + 256 * (p.high % 72057594037927936);
}

-- what stands in a table where no path reduction does
abbrev pub no_path : PackedPath
no_path = record { keys = 0; count = 0; low = 0; high = 0 }
