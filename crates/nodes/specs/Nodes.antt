-- The typed form of terms (document 01, "Layouts"): an array of 72 nodes, each a term without those that it contains.
use Rattle.std.specs.Prelude.{◌-◌, List, ◌++◌, length, replicate}
use Rattle.nodes.specs.declared.Term.{Term}
use Rattle.nodes.specs.declared.Term.TheVariants.{Empty}

-- the terms in front, the rest of 72 nodes empty
abbrev pub padded : List Term → List Term
padded l = l ++ replicate (72 - length l) Empty
