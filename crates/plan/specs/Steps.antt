-- The kinds of a worksheet, as the program names them. Nothing to believe: the contract of `scan` speaks of the kind byte alone.
use Rattle.std.specs.Prelude.{ℕ}
use Rattle.plan.specs.declared.Kind.{Kind}
use Rattle.plan.specs.declared.Kind.TheVariants.{EachVertex, OneResult}

-- the kind byte of a kind
abbrev pub kind_byte : Kind → ℕ
kind_byte EachVertex = 0
kind_byte OneResult = 1
