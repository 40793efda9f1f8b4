use mathlib.Core.Path.{◌≡◌}
use mathlib.Core.List.{map}
use lib.ListN.{drop}
use Rattle.packed_path.specs.Packed.{path_of}
use Rattle.engine.specs.Run.{sources_code}
use Rattle.engine.proofs.judge_sources.Given as goal

abbrev pub invariant-loop-path : goal.invariant-loop-path
invariant-loop-path l = sources_code l.n (map path_of (drop l.path-index l.paths)) ≡ sources_code l.n (map path_of l.paths)
