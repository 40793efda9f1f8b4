use Prim.Native.Nat.{◌-◌, ◌≤◌}
use mathlib.Core.Path.{◌≡◌}
use lib.ListN.{take}
use Rattle.packed_path.specs.Packed.{sources_of}
use Rattle.term_text.specs.Text.{starts_bytes}
use Rattle.draft.specs.Steps.{draft, put_list}
use Rattle.nodes.proofs.put_set.Given as goal

abbrev pub invariant-loop : goal.invariant-loop
invariant-loop l = (l.end - l.counter ≤ l.rest.count)
    × (put_list (draft l.d l.next) (starts_bytes (take (l.end - l.counter) (sources_of l.rest)))
    ≡ put_list (draft l.initial.d l.initial.next) (starts_bytes (take l.end (sources_of l.initial.rest))))
