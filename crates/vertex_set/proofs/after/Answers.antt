use Prim.Native.Nat.{◌+◌, ◌*◌, ◌/◌, ◌%◌}
use mathlib.Core.Path.{◌≡◌, sym, ◌∙◌}
use native.Mathlib.Omega.{arith}
use lib.Count.{count_trailing_zeros}
use Rattle.vertex_set.proofs.Sets.{last_digit, met_from, met_here, none_above}
use Rattle.vertex_set.proofs.after.Goals as goal

pub returns-then-rest-ne0 : goal.returns-then-rest-ne0
returns-then-rest-ne0 c =
    let s = c in
    let a = s.args in
    let v = a.m.vertex in
    let words = a.words.now in
    let bound = (c.type_inv.words (4 * a.f + v / 64)).fits in
    let some = c.if-rest-ne0.true in
    let e : 64 * (v / 64) + (v % 64 + 1) ≡ v + 1 = omega arith in
    let t = count_trailing_zeros 64 a.m.above in
    rw e at
    (met_here words a.f (v / 64) (v % 64 + 1) (omega (arith, s.requires.0)) (last_digit words a.f v bound (λ z. some (s.requires.1 ∙ z))) bound
    a.m.above s.requires.1 some _ (c.lowest.ensures.0 ∙ omega arith) c.lowest.ensures.1)

pub returns : goal.returns
returns c =
    let s = c in
    let a = s.args in
    let v = a.m.vertex in
    met_from a.words.now a.f (64 * (v / 64 + 1)) (v + 1) _
    (none_above a.words.now a.f v s.requires.0 (sym s.requires.1 ∙ c.if-rest-ne0.false)) c.from_word.ensures
