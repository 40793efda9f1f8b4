-- Bytes laid at the front of a buffer: k is how many of the first n there are. Assumes nothing.
use Prim.Native.Nat.{ℕ, ◌≤◌, min}
use mathlib.Core.Path.{◌≡◌, refl, sym, ap, ◌∙◌}
use mathlib.Core.List.{List, ◌++◌}
use native.Mathlib.Decide.{dec_le}
use native.Mathlib.Omega.{arith}
use borrow.Author.Tests.{le-ltb}
use lib.ListN.{length, take, drop, length-take}
use lib.Seq.{take_all, take-length}
use Rattle.wire.specs.Wire.{done, reply_number, reply_buffer, fitted}

module _ (s : List ℕ) (n k : ℕ) (e : k ≡ min n (length s)) where
  -- the first n bytes are k, and are the first k
  whole_length : length (take n s) ≡ k
  whole_length = omega (arith, length-take n s)

  front : take k s ≡ take n s
  front = go (dec_le n (length s))
    where
      go : Dec (n ≤ length s) → take k s ≡ take n s
      go (yes h) = ap (λ (j : ℕ). take j s) (let p : k ≡ n = omega arith in p)
      go (no h) = take_all k s (omega arith) ∙ sym (take_all n s (omega arith))

  -- where they fit the number is k, and the buffer begins with them
  laid_done : (out : List ℕ) → k ≤ length out → fitted (take n s) (length out) ≡ done (take n s)
  laid_done out h = rw (whole_length, le-ltb (length out) k h) refl

  pub laid_number : (out : List ℕ) → k ≤ length out → k ≡ reply_number (fitted (take n s) (length out))
  laid_number out h = rw (laid_done out h) (sym whole_length)

  pub laid_buffer : (out : List ℕ) → k ≤ length out
      → take (length (take k s)) (take k s) ++ drop (length (take k s)) out ≡ reply_buffer (fitted (take n s) (length out)) out
  laid_buffer out h = rw (laid_done out h, take-length (take k s), front) refl
