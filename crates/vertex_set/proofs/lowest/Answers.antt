use mathlib.Core.Path.{refl}
use lib.Count.{count_trailing_zeros}
use lib.Pow.{shr-shr}
use Rattle.vertex_set.proofs.lowest.Goals as goal

pub returns : goal.returns
returns c = (refl, shr-shr c.args.word (count_trailing_zeros 64 c.args.word) 1)
