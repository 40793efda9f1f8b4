-- Bytes put one after the other into a draft, as the program goes. Nothing to believe: `put_holds` (proofs/Drafts) says that a draft holds the bytes put, and
-- `drafted` that one made of nothing but these bytes is them.
use Rattle.std.specs.Prelude.{ℕ, ◌+◌, cond, List, [], ◌∷◌, leb, length, set}

-- a lent buffer, the first `len` of whose bytes have been put
pub record Draft : Type 0 where
  pub bytes : List ℕ
  pub len : ℕ

abbrev pub draft : List ℕ → ℕ → Draft
draft bytes len = record { bytes = bytes; len = len }

-- one byte more; no change where there is no room
unfoldable pub put_byte : Draft → ℕ → Draft
put_byte d b = cond (leb (length d.bytes) d.len) d (draft (set d.bytes d.len b) (d.len + 1))

-- bytes in turn
unfoldable pub put_list : Draft → List ℕ → Draft
put_list d [] = d
put_list d (b ∷ l) = put_list (put_byte d b) l
