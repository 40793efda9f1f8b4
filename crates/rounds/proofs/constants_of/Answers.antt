use mathlib.Core.Path.{◌≡◌, ◌∙◌}
use lib.Dec.{T}
use Rattle.walks.specs.Keys.{legal_keys}
use Rattle.packed_path.specs.declared.PackedPath.{PackedPath}
use Rattle.packed_path.specs.Packed.{path_of}
use Rattle.packed_figures.specs.Packed.{constants}
use Rattle.packed_figures.specs.Steps.{path_keys}
use Rattle.packed_figures.proofs.Three.{path_constants_are}
use Rattle.rounds.proofs.constants_of.Goals as goal

-- the keys of a path reduction are those of its number
of_path : (p : PackedPath) → T (legal_keys (path_of p).keys) → constants (path_keys p.keys) ≡ constants (path_of p).keys
unfolding path_of
of_path p t = path_constants_are p.keys t

pub returns : goal.returns
returns c = c.path_constants.ensures ∙ of_path c.args.path c.requires
