use Prim.Native.Nat.{◌+◌, ◌<◌}
use mathlib.Core.Path.{◌≡◌, sym, ◌∙◌}
use native.Mathlib.Omega.{arith}
use Rattle.packed_path.specs.declared.PackedPath.{PackedPath}
use Rattle.packed_path.specs.Steps.{rest_of}
use Rattle.packed_path.proofs.Sources.{begins_member, begins_not, member_first, member_rest}
use Rattle.packed_path.proofs.starts_at.Goals as goal

-- one source less
less : (p : PackedPath) → 0 < p.count → (rest_of p).count + 1 ≡ p.count
unfolding rest_of
less p h = omega arith

pub returns-then-first-v : goal.returns-then-first-v
returns-then-first-v c =
    let p = c.args.p in
    let v = c.args.v in
    let l = c.loop in
    let first = sym c.first.ensures.0 ∙ c.if-first-v.true in
    sym (begins_member p v (omega arith) ∙ sym l.invariant.1 ∙ member_first l.left v (omega arith) first)

pub loop-preserved : goal.loop-preserved
loop-preserved c =
    let l = c.loop in (
      rw c.rest-left.ensures (omega (arith, less l.left (omega arith))),
      rw c.rest-left.ensures
          (sym (member_rest l.left c.args.v (omega arith) (λ e. c.if-first-v.false (c.first.ensures.0 ∙ e))) ∙ l.invariant.1),
    )

pub returns : goal.returns
returns c = begins_not c.args.p c.loop.left c.args.v (omega arith) c.loop.invariant.1
