-- How a question or a worksheet begins: what is accepted. Assumes nothing.
use Prim.Native.Nat.{ℕ, ◌≤◌}
use mathlib.Core.Path.{◌≡◌}
use mathlib.Core.List.{List}
use borrow.Author.Tests.{ltb-false}
use lib.Dec.{ltb}
use lib.ListN.{get_or}
use Rattle.wire.specs.Header.{header_code}
use Rattle.wire.proofs.Codes.{past, then_both}
use Rattle.fields.specs.Fields.{kind_code, opening_code}

-- an accepted opening has an accepted header and the kind 0 or 1
pub opening_found : (letter newest : ℕ) (s : List ℕ) → opening_code letter newest s ≡ 0
    → (header_code letter newest 5 s ≡ 0) × (get_or s 5 256 ≤ 1)
opening_found letter newest s e =
    let p = then_both (header_code letter newest 5 s) (kind_code (get_or s 5 256)) e in
    let q = past (ltb 255 (get_or s 5 256)) 0 _ p.1 in
    (p.0, ltb-false _ _ (past (ltb 1 (get_or s 5 256)) 8 _ q.1).0)
