-- The table of keys (document 01, "Layouts"): a key is a number, and its row says which value of a walk it looks at, whether the least or the greatest is kept,
-- and whether it may stand before the last key.
use Rattle.std.specs.Prelude.{ℕ, zero, suc, ◌≤◌, Bool, true, false, ◌&&◌, List, [], ◌∷◌, leb, length, get_or}
use Rattle.walks.specs.declared.Measure.{Measure}
use Rattle.walks.specs.declared.Measure.TheVariants.{Edges, Weight, Source, Bottleneck}
use Rattle.walks.specs.declared.Extreme.{Extreme}
use Rattle.walks.specs.declared.Extreme.TheVariants.{Least, Greatest}
use Rattle.walks.specs.declared.KeyRow.{KeyRow}

-- | 1 | passages walked | least | yes |     | 2 | seconds added up | least | yes |        | 3 | starting place | least | yes |
-- | 4 | starting place | greatest | yes |   | 5 | smallest crate size | greatest | no |   | 6 | smallest crate size | least | no |
abbrev pub table : List KeyRow
table =
    record { measure = Edges; kept = Least; early = true }
    ∷ record { measure = Weight; kept = Least; early = true }
    ∷ record { measure = Source; kept = Least; early = true }
    ∷ record { measure = Source; kept = Greatest; early = true }
    ∷ record { measure = Bottleneck; kept = Greatest; early = false }
    ∷ record { measure = Bottleneck; kept = Least; early = false }
    ∷ []

-- the row of a number that is no key's: it stands in no legal query
abbrev pub no_key : KeyRow
no_key = record { measure = Edges; kept = Least; early = false }

-- the row of a key, counted from 1
unfoldable pub key_row : ℕ → KeyRow
key_row zero = no_key
key_row (suc k) = get_or table k no_key

-- "9 | code | an illegal .. key ..": a key is a number of the table
abbrev pub known : ℕ → Bool
known k = leb 1 k && leb k 6

-- the columns of a key's row: "Value of a walk", "Kept", and whether it may stand before the last
abbrev pub measure : ℕ → Measure
measure k = (key_row k).measure

abbrev pub kept : ℕ → Extreme
kept k = (key_row k).kept

abbrev pub early : ℕ → Bool
early k = (key_row k).early

-- x is at least as good as y; the same as a test
abbrev pub Good : Extreme → ℕ → ℕ → Type 0
Good Least x y = x ≤ y
Good Greatest x y = y ≤ x

abbrev pub good? : Extreme → ℕ → ℕ → Bool
good? Least x y = leb x y
good? Greatest x y = leb y x

-- "key 5 or 6 before the last": every key but the last may stand before the last
abbrev pub in_order : List ℕ → Bool
in_order [] = true
in_order (k ∷ []) = true
in_order (k ∷ (j ∷ ks)) = early k && in_order (j ∷ ks)

-- each key is one of the table's
abbrev pub all_known : List ℕ → Bool
all_known [] = true
all_known (k ∷ ks) = known k && all_known ks

-- "key count 1 to 3, the keys"
abbrev pub legal_keys : List ℕ → Bool
legal_keys ks = leb 1 (length ks) && leb (length ks) 3 && all_known ks && in_order ks
