-- Answers byte by byte, written by hand from document 01: that of its first trial ("keys 2 from 0: 0, 5, 2, 5; rounds 3"); one row, absent; a number of 64
-- bits, 256 vertices and 512 rounds.
use mathlib.Core.Path.{◌≡◌, refl}
use mathlib.Core.List.{[], ◌∷◌}
use Rattle.answer.specs.Answer.{answer_bytes, rows_bytes}
use Rattle.value.specs.declared.Value.TheVariants.{Absent, Number}

-- THE BYTES OF THREE ANSWERS
pub answer_samples : (answer_bytes 4 3 0 (Number 0 ∷ Number 5 ∷ Number 2 ∷ Number 5 ∷ [])
    ≡ 0x4c ∷ 0x50 ∷ 0x41 ∷ 1 ∷ 0 ∷ 4 ∷ 0 ∷ 3 ∷ 0 ∷ 0
    ∷ 1 ∷ 0 ∷ 0 ∷ 0 ∷ 0 ∷ 0 ∷ 0 ∷ 0 ∷ 0
    ∷ 1 ∷ 5 ∷ 0 ∷ 0 ∷ 0 ∷ 0 ∷ 0 ∷ 0 ∷ 0
    ∷ 1 ∷ 2 ∷ 0 ∷ 0 ∷ 0 ∷ 0 ∷ 0 ∷ 0 ∷ 0
    ∷ 1 ∷ 5 ∷ 0 ∷ 0 ∷ 0 ∷ 0 ∷ 0 ∷ 0 ∷ 0 ∷ [])
    × (answer_bytes 4 1 1 (Absent ∷ []) ≡ 0x4c ∷ 0x50 ∷ 0x41 ∷ 1 ∷ 0 ∷ 4 ∷ 0 ∷ 1 ∷ 0 ∷ 1 ∷ 0 ∷ 0 ∷ 0 ∷ 0 ∷ 0 ∷ 0 ∷ 0
    ∷ 0 ∷ 0 ∷ [])
    × (answer_bytes 256 512 1 (Number 0x0807060504030201 ∷ []) ≡ 0x4c ∷ 0x50 ∷ 0x41 ∷ 1 ∷ 0 ∷ 0 ∷ 1 ∷ 0 ∷ 2 ∷ 1 ∷ 1 ∷ 1 ∷ 2
    ∷ 3 ∷ 4 ∷ 5 ∷ 6 ∷ 7 ∷ 8 ∷ [])
unfolding answer_bytes rows_bytes
answer_samples = (refl, refl, refl)
