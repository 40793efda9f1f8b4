-- The numbers of refusals (document 01, "Numbers at the desk"; document 02, b), and how a call ends by number.
use Rattle.std.specs.Prelude.{ℕ, ◌+◌, Result, Ok, Err}
use Rattle.wire.specs.declared.Refusal.{Refusal}
use Rattle.wire.specs.declared.Refusal.TheVariants.{Short, Mark, Version, Vertices, Edges, Length, NoVertex, Capacity, Code, KeyOrder, Deep, Terms}
use Rattle.wire.specs.declared.Refusal.TheVariants.{Source, Full, Room, NoRow, SourceOrder}

-- "number, name": 1 to 16, and 17 "starts order"
abbrev pub number : Refusal → ℕ
number Short = 1
number Mark = 2
number Version = 3
number Vertices = 4
number Edges = 5
number Length = 6
number NoVertex = 7
number Capacity = 8
number Code = 9
number KeyOrder = 10
number Deep = 11
number Terms = 12
number Source = 13
number Full = 14
number Room = 15
number NoRow = 16
number SourceOrder = 17

-- "0 | done": the number of what was judged
abbrev pub code : {A : Type 0} → Result A Refusal → ℕ
code (Ok x) = 0
code (Err e) = number e

-- "a result under 65,536 is the bytes written and 65,536 plus a number is a refusal"
abbrev pub number_of : Result ℕ Refusal → ℕ
number_of (Ok n) = n
number_of (Err e) = 65536 + number e
