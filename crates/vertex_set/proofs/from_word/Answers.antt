use Prim.Native.Nat.{◌+◌, ◌*◌}
use mathlib.Core.Path.{◌≡◌, sym, ap, ◌∙◌}
use native.Mathlib.Nat.{div-one}
use native.Mathlib.Omega.{arith}
use lib.ListN.{get_or}
use Rattle.vertex_set.specs.Sets.{next_member}
use Rattle.vertex_set.proofs.Sets.{met_from, met_here, next_end, next_word}
use Rattle.vertex_set.proofs.from_word.Goals as goal

pub returns-then-word-ne0 : goal.returns-then-word-ne0
returns-then-word-ne0 c =
    let a = c.args in
    let l = c.loop-j in
    let w = get_or a.words.now (4 * a.f + l.j) 0 in
    let e : 64 * l.j + 0 ≡ 64 * l.j = omega arith in
    met_from a.words.now a.f (64 * l.j + 0) (64 * a.k) _ (ap (next_member a.words.now a.f) e ∙ l.invariant)
    (met_here a.words.now a.f l.j 0 (omega arith) (omega arith) (c.type_inv.words (4 * a.f + l.j)).fits w (sym (div-one w))
    c.if-word-ne0.true _ (c.lowest.ensures.0 ∙ omega arith) c.lowest.ensures.1)

pub loop-j-preserved : goal.loop-j-preserved
loop-j-preserved c =
    let a = c.args in
    let l = c.loop-j in
    sym (next_word a.words.now a.f l.j (omega arith) c.if-word-ne0.false) ∙ l.invariant

pub returns : goal.returns
returns c =
    let a = c.args in
    let e : 64 * c.loop-j.j ≡ 256 = omega arith in
    record {
      vertex_is = sym (next_end a.words.now a.f) ∙ ap (next_member a.words.now a.f) (sym e) ∙ c.loop-j.invariant;
      above_is = λ h. absurd (omega arith);
    }
