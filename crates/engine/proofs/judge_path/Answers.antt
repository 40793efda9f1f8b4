use Prim.Native.Nat.{◌+◌, ◌<◌}
use mathlib.Core.Path.{◌≡◌, sym, ◌∙◌}
use native.Mathlib.Omega.{arith}
use Rattle.packed_path.specs.declared.PackedPath.{PackedPath}
use Rattle.packed_path.specs.Steps.{rest_of}
use Rattle.engine.proofs.Sources.{outside_first, outside_none, outside_rest}
use Rattle.engine.proofs.judge_path.Goals as goal

-- one source less
less : (p : PackedPath) → 0 < p.count → (rest_of p).count + 1 ≡ p.count
unfolding rest_of
less p h = omega arith

pub returns-then-n-first : goal.returns-then-n-first
returns-then-n-first c =
    let l = c.loop in
    sym (sym l.invariant.1 ∙ outside_first c.args.n l.left (omega arith) (omega (arith, c.first.ensures.0)))

pub loop-preserved : goal.loop-preserved
loop-preserved c =
    let l = c.loop in (
      rw c.rest-left.ensures (omega (arith, less l.left (omega arith))),
      rw c.rest-left.ensures
          (sym (outside_rest c.args.n l.left (omega arith) (omega (arith, c.first.ensures.0))) ∙ l.invariant.1),
    )

pub returns : goal.returns
returns c = let l = c.loop in sym (sym l.invariant.1 ∙ outside_none c.args.n l.left (omega arith))
