use Rattle.packed_figures.specs.Packed.{constants}
use Rattle.packed_figures.proofs.Three.{three_shift, three_unit}
use Rattle.packed_figures.proofs.ThreeKeys.constants.Goals as goal

pub returns : goal.returns
unfolding constants
returns c =
    let a = c.args.self.a in
    let b = c.args.self.b in
    let k = c.args.self.c in
    rw (
      c.flip_for.ensures,
      c.shift_of_third.ensures,
      c.if_same.ensures.0,
      c.unit_of-3.ensures,
      c.unit_of-2.ensures,
      c.unit_of.ensures,
      c.power-top.ensures.0,
      c.bits_of.ensures.0,
      c.unit_of-weight.ensures,
      c.units-u.ensures.0,
      three_unit a b k 1,
      three_unit a b k 2,
      three_unit a b k 3,
      three_unit a b k 4,
      three_shift a b k,
    )
