-- A READER'S TABLE HOLDS THE PATH REDUCTIONS OF THE PLAN, as numbers. Assumes nothing.
use mathlib.Core.Path.{◌≡◌, ap, ◌∙◌}
use mathlib.Core.List.{List, map}
use Rattle.meaning.specs.Query.{PathReduction}
use Rattle.packed_path.specs.Packed.{path_of}
use Rattle.packed_path.proofs.Packed.{paths_back}
use Rattle.term_text.proofs.Table.{Table, numbers_held}
use Rattle.progress.specs.Progress.{Scan}
use Rattle.engine.specs.Steps.{paths_of}

-- so the path reductions of the table are the plan's
pub paths_held : (w : Scan) (cs : List PathReduction) → Table w cs → paths_of w ≡ cs
paths_held w cs t = ap (map path_of) (numbers_held w cs t) ∙ paths_back cs t.legal
