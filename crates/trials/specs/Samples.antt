-- Samples of document 01 and of document 02, a and b, beside the marked trials, each worked out by hand: operators and reductions, runs, the numbers that
-- readers give, and the bytes that fusing gives.
use Rattle.std.specs.Prelude.{ℕ, List, [], ◌∷◌, ◌++◌}
use Rattle.std.proofs.Math.Option.{Option, none, some}
use Rattle.meaning.specs.Meaning.{Outcome}
use Rattle.meaning.specs.Plan.{fuse}
use Rattle.meaning.specs.Query.{Query, VertexTerm, each, number, operator, over, over_where, path, path_set, single}
use Rattle.meaning.specs.Run.{Way, run, stopped}
use Rattle.value.specs.declared.Value.{Value}
use Rattle.value.specs.declared.Value.TheVariants.{Absent, Number}
use Rattle.value.specs.Value.{operate, reduce}
use Rattle.walks.specs.Walks.{Graph, edge}
use Rattle.trials.specs.Trials.{Expected, Trial, expected, fuses, graph_a}

-- operators and reductions: the last number that fits, the first that does not, an absent operand, ties

abbrev top : ℕ
top = 18446744073709551615

abbrev pub samples : List (Value × Value)
samples =
    (operate 1 (Number 3) (Number 4), Number 3)
    ∷ (operate 1 (Number 3) Absent, Number 3)
    ∷ (operate 1 Absent (Number 0), Number 0)
    ∷ (operate 1 Absent Absent, Absent)
    ∷ (operate 2 (Number 3) (Number 4), Number 4)
    ∷ (operate 2 Absent (Number 4), Number 4)
    ∷ (operate 2 (Number top) Absent, Number top)
    ∷ (operate 2 Absent Absent, Absent)
    ∷ (operate 3 (Number top) (Number 0), Number top)
    ∷ (operate 3 (Number top) (Number 1), Absent)
    ∷ (operate 3 Absent (Number 4), Absent)
    ∷ (operate 3 (Number 3) Absent, Absent)
    ∷ (operate 4 (Number 4) (Number 4), Number 0)
    ∷ (operate 4 (Number 3) (Number 4), Absent)
    ∷ (operate 5 (Number 4294967297) (Number 4294967295), Number top)
    ∷ (operate 5 (Number 4294967296) (Number 4294967296), Absent)
    ∷ (operate 6 (Number 7) (Number 2), Number 3)
    ∷ (operate 6 (Number 7) (Number 0), Absent)
    ∷ (operate 7 (Number 7) (Number 7), Number 1)
    ∷ (operate 7 (Number 7) (Number 8), Number 0)
    ∷ (operate 7 Absent Absent, Absent)
    ∷ (operate 8 (Number 7) (Number 7), Number 0)
    ∷ (operate 8 (Number 7) (Number 8), Number 1)
    ∷ (operate 9 (Number 7) (Number 7), Number 0)
    ∷ (operate 9 (Number 8) (Number 7), Number 1)
    ∷ (operate 10 (Number 5) (Number 9), Number 1)
    ∷ (operate 10 (Number 5) (Number 0), Number 0)
    ∷ (operate 10 (Number 0) Absent, Absent)
    ∷ (operate 11 (Number 5) (Number 0), Number 1)
    ∷ (operate 11 (Number 0) (Number 0), Number 0)
    ∷ (operate 11 (Number 5) Absent, Absent)
    ∷ (operate 12 (Number 5) (Number 5), Absent)
    ∷ (reduce 1 (Absent ∷ Number 4 ∷ Number 6 ∷ []), Number 4)
    ∷ (reduce 2 (Number 4 ∷ Absent ∷ Number 6 ∷ []), Number 6)
    ∷ (reduce 3 (Number 4 ∷ Absent ∷ Number 6 ∷ []), Number 10)
    ∷ (reduce 3 (Number top ∷ Number 1 ∷ Number 1 ∷ []), Absent)
    ∷ (reduce 3 (Absent ∷ Absent ∷ []), Absent)
    ∷ (reduce 4 (Number 4 ∷ Absent ∷ Number 6 ∷ []), Number 1)
    ∷ (reduce 4 (Number 4 ∷ Number 0 ∷ []), Number 0)
    ∷ (reduce 4 (Number 9 ∷ []), Number 1)
    ∷ (reduce 5 (Number 0 ∷ Absent ∷ Number 9 ∷ []), Number 1)
    ∷ (reduce 5 (Number 0 ∷ []), Number 0)
    ∷ (reduce 6 (Number 9 ∷ []), Absent)
    ∷ []

-- a run: on a graph, of a fused query, to quiet or for a given number of rounds
pub record Run : Type 0 where
  pub graph : Graph
  pub query : Query
  pub limit : Option ℕ
  pub outcome : Outcome

abbrev limited : Way → Graph → Query → Option ℕ → Outcome
limited way g q none = run way g.vertices (fuse q)
limited way g q (some r) = stopped way g.vertices (fuse q) r

-- its outcome, by a way to run
abbrev pub outcome_by : (Graph → Way) → Run → Outcome
outcome_by way s = limited (way s.graph) s.graph s.query s.limit

abbrev sample : Graph → Query → Option ℕ → ℕ → List Value → Run
sample g q limit rounds xs = record { graph = g; query = q; limit = limit; outcome = record { rounds = rounds; rows = xs } }

-- a path reduction from one source, from anywhere, and from a set (0x13)
abbrev from : List ℕ → ℕ → VertexTerm
from ks s = path (record { keys = ks; sources = s ∷ [] })

abbrev from_anywhere : List ℕ → VertexTerm
from_anywhere ks = path (record { keys = ks; sources = [] })

abbrev from_any : List ℕ → List ℕ → VertexTerm
from_any ks ss = path_set (record { keys = ks; sources = ss })

-- the sum over vertices of the least weight from 0, less the greatest sum of fewest edges and least weight: 12 - 7
abbrev two_paths : Query
two_paths =
    single (operator 4 (over 3 (from (2 ∷ []) 0)) (over 2 (operator 3 (from (1 ∷ []) 0) (from (2 ∷ []) 0))))

-- "the sum, or the largest, over places farther than a given time": of the seconds from 0, where they are above k
abbrev farther : ℕ → ℕ → Query
farther o k = single (over_where o (operator 9 (from (2 ∷ []) 0) (number k)) (from (2 ∷ []) 0))

-- an operator on the seconds from 0 and from s
abbrev both_from : ℕ → ℕ → VertexTerm
both_from o s = operator o (from (2 ∷ []) 0) (from (2 ∷ []) s)

-- 0→1 9 s, 0→2 1 s, 2→1 1 s, all of size 3: in round 2 only the weight at 1 changes
abbrev detour : Graph
detour = record { vertices = 3; edges = edge 0 1 9 3 ∷ edge 0 2 1 3 ∷ edge 2 1 1 3 ∷ [] }

-- samples of runs
abbrev pub runs : List Run
runs =
    -- keys 3 and 4, from anywhere: the least and the greatest vertex that a walk starts at
    sample graph_a (each (from_anywhere (3 ∷ []))) none 3 (Number 0 ∷ Number 0 ∷ Number 0 ∷ Number 0 ∷ [])
    ∷ sample graph_a (each (from_anywhere (4 ∷ []))) none 2 (Number 0 ∷ Number 2 ∷ Number 2 ∷ Number 3 ∷ [])
    ∷ sample graph_a (each (from (4 ∷ []) 2)) none 3 (Absent ∷ Number 2 ∷ Number 2 ∷ Number 2 ∷ [])
    -- three keys: of the walks of least weight those of fewest edges
    ∷ sample graph_a (each (from (2 ∷ 1 ∷ 6 ∷ []) 0)) none 3 (Number 65535 ∷ Number 10 ∷ Number 4 ∷ Number 7 ∷ [])
    -- "when the figure of any of its keys changes, the earlier keys included"
    ∷ sample detour (each (from (2 ∷ 6 ∷ []) 0)) none 3 (Number 65535 ∷ Number 3 ∷ Number 3 ∷ [])
    -- two path reductions, three times written; operands in order
    ∷ sample graph_a two_paths none 3 (Number 5 ∷ [])
    ∷ sample graph_a (each (operator 6 (number 7) (from (2 ∷ []) 0))) none 3 (Absent ∷ Number 1 ∷ Number 3 ∷ Number 1 ∷ [])
    -- "A place counts where the condition is a number other than 0; an absent condition leaves the place out"; an absent value is skipped; with none left
    -- absent
    ∷ sample graph_a (farther 3 2) none 3 (Number 10 ∷ [])
    ∷ sample graph_a (farther 2 2) none 3 (Number 5 ∷ [])
    ∷ sample graph_a (farther 3 9) none 3 (Absent ∷ [])
    ∷ sample graph_a (single (over_where 3 (from (2 ∷ []) 2) (number 7))) none 3 (Number 14 ∷ [])
    ∷ sample graph_a (single (over_where 1 (number 1) (from (2 ∷ []) 2))) none 3 (Number 0 ∷ [])
    -- "A walk may begin at any of them." (document 02, b): keys 2 from 0 and 2, "rounds included"; the greatest start; crate sizes
    ∷ sample graph_a (each (from_any (2 ∷ []) (0 ∷ 2 ∷ []))) none 3 (Number 0 ∷ Number 3 ∷ Number 0 ∷ Number 3 ∷ [])
    ∷ sample graph_a (each (from_any (2 ∷ []) (0 ∷ 2 ∷ []))) (some 1) 1 (Number 0 ∷ Number 3 ∷ Number 0 ∷ Absent ∷ [])
    ∷ sample graph_a (each (from_any (4 ∷ []) (0 ∷ 2 ∷ []))) none 3 (Number 0 ∷ Number 2 ∷ Number 2 ∷ Number 2 ∷ [])
    ∷ sample graph_a (each (from_any (6 ∷ []) (0 ∷ 2 ∷ []))) none 4 (Number 65535 ∷ Number 4 ∷ Number 4 ∷ Number 4 ∷ [])
    -- "operators min and max with one absent operand give the other operand" (document 02, c): from 3 a walk leads to 3 alone; plus is absent elsewhere
    ∷ sample graph_a (each (both_from 1 3)) none 3 (Number 0 ∷ Number 5 ∷ Number 2 ∷ Number 0 ∷ [])
    ∷ sample graph_a (each (both_from 2 3)) none 3 (Number 0 ∷ Number 5 ∷ Number 2 ∷ Number 5 ∷ [])
    ∷ sample graph_a (each (both_from 3 3)) none 3 (Absent ∷ Absent ∷ Absent ∷ Number 5 ∷ [])
    -- with both absent, absent: with no passage neither start leads to 1 or 2
    ∷ sample graph_a (each (both_from 1 3)) (some 0) 0 (Number 0 ∷ Absent ∷ Absent ∷ Number 0 ∷ [])
    ∷ sample graph_a (each (both_from 2 3)) (some 0) 0 (Number 0 ∷ Absent ∷ Absent ∷ Number 0 ∷ [])
    -- the lesser of both starts is the value from the set of both, at 0 too, where 2 does not lead
    ∷ sample graph_a (each (both_from 1 2)) none 3 (Number 0 ∷ Number 3 ∷ Number 0 ∷ Number 3 ∷ [])
    ∷ sample graph_a (single (over 4 (operator 7 (from_any (2 ∷ []) (0 ∷ 2 ∷ [])) (both_from 1 2)))) none 3 (Number 1 ∷ [])
    -- "A set of one is the same chain as 0x10 with that start."
    ∷ sample graph_a (each (from_any (2 ∷ []) (0 ∷ []))) none 3 (Number 0 ∷ Number 5 ∷ Number 2 ∷ Number 5 ∷ [])
    -- "With no chain that is round 1."
    ∷ sample graph_a (single (number 9)) none 1 (Number 9 ∷ [])
    -- "stopped after a given 16-bit number of rounds, 0 allowed; it then does that many, quiet or not"
    ∷ sample graph_a (each (from (2 ∷ []) 0)) (some 0) 0 (Number 0 ∷ Absent ∷ Absent ∷ Absent ∷ [])
    ∷ sample graph_a (each (from (2 ∷ []) 0)) (some 1) 1 (Number 0 ∷ Number 5 ∷ Number 2 ∷ Absent ∷ [])
    ∷ sample graph_a (each (from (2 ∷ []) 0)) (some 5) 5 (Number 0 ∷ Number 5 ∷ Number 2 ∷ Number 5 ∷ [])
    ∷ []

-- the bytes of a question or a worksheet, with the number that reading them gives
pub record Reading : Type 0 where
  pub bytes : List ℕ
  pub number : ℕ

abbrev headed : ℕ → List ℕ → ℕ → Reading
headed letter l k = record { bytes = 0x4c ∷ 0x50 ∷ letter ∷ 0x01 ∷ 0x00 ∷ l; number = k }

-- starts below 256, low byte first; 1 to 15
abbrev low : List ℕ → List ℕ
low [] = []
low (s ∷ ss) = s ∷ 0x00 ∷ low ss

abbrev to_15 : List ℕ
to_15 = 1 ∷ 2 ∷ 3 ∷ 4 ∷ 5 ∷ 6 ∷ 7 ∷ 8 ∷ 9 ∷ 10 ∷ 11 ∷ 12 ∷ 13 ∷ 14 ∷ 15 ∷ []

-- a question of one chain 0x13 of key 2, from its set count on; a worksheet of one chain of key 2, from behind its key bytes to its entry count
abbrev one_set : List ℕ → ℕ → Reading
one_set l = headed 0x51 (0x00 ∷ 0x13 ∷ 0x01 ∷ 0x02 ∷ l)

abbrev one_path : ℕ → List ℕ → ℕ → Reading
one_path version l k = record {
  bytes = 0x4c ∷ 0x50 ∷ 0x57 ∷ version ∷ 0x00 ∷ 0x00 ∷ 0x01 ∷ 0x01 ∷ 0x02 ∷ 0x00 ∷ 0x00 ∷ (l ++ (0x01 ∷ 0x00 ∷ 0x30 ∷ 0x00 ∷ []));
  number = k;
}

-- samples of questions
abbrev pub queries : List Reading
queries =
    -- keys 3,4,1: read; 6,1: 10; key 7, key counts 0 and 4: 9
    headed 0x51 (0x00 ∷ 0x10 ∷ 0x03 ∷ 0x03 ∷ 0x04 ∷ 0x01 ∷ 0x00 ∷ 0x00 ∷ []) 0
    ∷ headed 0x51 (0x00 ∷ 0x10 ∷ 0x02 ∷ 0x06 ∷ 0x01 ∷ 0x00 ∷ 0x00 ∷ []) 10
    ∷ headed 0x51 (0x00 ∷ 0x10 ∷ 0x01 ∷ 0x07 ∷ 0x00 ∷ 0x00 ∷ []) 9
    ∷ headed 0x51 (0x00 ∷ 0x10 ∷ 0x00 ∷ 0x00 ∷ 0x00 ∷ []) 9
    ∷ headed 0x51 (0x00 ∷ 0x10 ∷ 0x04 ∷ 0x01 ∷ 0x01 ∷ 0x01 ∷ 0x01 ∷ 0x00 ∷ 0x00 ∷ []) 9
    -- starts 255, 256 and anywhere
    ∷ headed 0x51 (0x00 ∷ 0x10 ∷ 0x01 ∷ 0x02 ∷ 0xff ∷ 0x00 ∷ []) 0
    ∷ headed 0x51 (0x00 ∷ 0x10 ∷ 0x01 ∷ 0x02 ∷ 0x00 ∷ 0x01 ∷ []) 13
    ∷ headed 0x51 (0x00 ∷ 0x10 ∷ 0x01 ∷ 0x02 ∷ 0xff ∷ 0xff ∷ []) 0
    -- a third kind; a result term of kind 0; a byte missing, a byte left over; another letter
    ∷ headed 0x51 (0x02 ∷ 0x11 ∷ 0x00 ∷ 0x00 ∷ 0x00 ∷ 0x00 ∷ []) 9
    ∷ headed 0x51 (0x00 ∷ 0x21 ∷ 0x00 ∷ 0x00 ∷ 0x00 ∷ 0x00 ∷ []) 9
    ∷ headed 0x51 (0x00 ∷ 0x11 ∷ 0x00 ∷ 0x00 ∷ 0x00 ∷ []) 1
    ∷ headed 0x51 (0x00 ∷ 0x11 ∷ 0x00 ∷ 0x00 ∷ 0x00 ∷ 0x00 ∷ 0x00 ∷ []) 6
    ∷ headed 0x57 (0x00 ∷ 0x11 ∷ 0x00 ∷ 0x00 ∷ 0x00 ∷ 0x00 ∷ []) 2
    -- a condition and a value; no value, no condition, no reduction; a sixth reduction; a result term for a condition; a reduction in a place term
    ∷ headed 0x51 (0x01 ∷ 0x23 ∷ 0x03 ∷ 0x11 ∷ 0x01 ∷ 0x00 ∷ 0x00 ∷ 0x00 ∷ 0x10 ∷ 0x01 ∷ 0x02 ∷ 0x00 ∷ 0x00 ∷ []) 0
    ∷ headed 0x51 (0x01 ∷ 0x23 ∷ 0x03 ∷ 0x11 ∷ 0x01 ∷ 0x00 ∷ 0x00 ∷ 0x00 ∷ []) 1
    ∷ headed 0x51 (0x01 ∷ 0x23 ∷ 0x03 ∷ []) 1
    ∷ headed 0x51 (0x01 ∷ 0x23 ∷ []) 1
    ∷ headed 0x51 (0x01 ∷ 0x23 ∷ 0x06 ∷ []) 9
    ∷ headed 0x51 (0x01 ∷ 0x23 ∷ 0x03 ∷ 0x21 ∷ 0x01 ∷ 0x00 ∷ 0x00 ∷ 0x00 ∷ []) 9
    ∷ headed 0x51 (0x00 ∷ 0x23 ∷ 0x03 ∷ []) 9
    -- "a set count 1 to 16, the 16-bit starts strictly rising": read; the set count missing, 0 and 17
    ∷ one_set (0x01 ∷ low (255 ∷ [])) 0
    ∷ one_set (0x02 ∷ low (0 ∷ 2 ∷ [])) 0
    ∷ one_set (0x10 ∷ low (0 ∷ to_15)) 0
    ∷ one_set [] 1
    ∷ one_set (0x00 ∷ []) 9
    ∷ one_set (0x11 ∷ low (0 ∷ to_15)) 9
    -- a start missing, its high byte missing, the second missing, a byte left over; 256, and "65,535 inside a set is 13"
    ∷ one_set (0x01 ∷ []) 1
    ∷ one_set (0x01 ∷ 0x00 ∷ []) 1
    ∷ one_set (0x02 ∷ 0x00 ∷ 0x00 ∷ []) 1
    ∷ one_set (0x01 ∷ 0x00 ∷ 0x00 ∷ 0x00 ∷ []) 6
    ∷ one_set (0x02 ∷ 0x00 ∷ 0x00 ∷ 0x00 ∷ 0x01 ∷ []) 13
    ∷ one_set (0x01 ∷ 0xff ∷ 0xff ∷ []) 13
    -- '17 "starts order" when a start doesn't exceed the one before': equal, lower; start by start, so before the 13 of a later one
    ∷ one_set (0x02 ∷ low (1 ∷ 1 ∷ [])) 17
    ∷ one_set (0x02 ∷ low (1 ∷ 0 ∷ [])) 17
    ∷ one_set (0x03 ∷ 0x01 ∷ 0x00 ∷ 0x01 ∷ 0x00 ∷ 0x00 ∷ 0x01 ∷ []) 17
    -- keys before the set count; a set is a place term
    ∷ headed 0x51 (0x00 ∷ 0x13 ∷ 0x02 ∷ 0x05 ∷ 0x02 ∷ 0x11 ∷ []) 10
    ∷ headed 0x51 (0x01 ∷ 0x13 ∷ 0x01 ∷ 0x02 ∷ 0x01 ∷ 0x00 ∷ 0x00 ∷ []) 9
    ∷ []

-- samples of worksheets
abbrev pub plans : List Reading
plans =
    -- "counts above 8 are 14 at that byte, but for kind 0 every e other than 1 is 9"
    headed 0x57 (0x01 ∷ 0x09 ∷ []) 14
    ∷ headed 0x57 (0x01 ∷ 0x00 ∷ 0x09 ∷ []) 14
    ∷ headed 0x57 (0x00 ∷ 0x00 ∷ 0x09 ∷ []) 9
    -- a literal at each vertex; an index of no path reduction; a filler that is not 0
    ∷ headed 0x57 (0x00 ∷ 0x00 ∷ 0x01 ∷ 0x00 ∷ 0x11 ∷ 0x07 ∷ 0x00 ∷ 0x00 ∷ 0x00 ∷ []) 0
    ∷ headed 0x57 (0x00 ∷ 0x00 ∷ 0x01 ∷ 0x00 ∷ 0x30 ∷ 0x00 ∷ []) 16
    ∷ headed 0x57 (0x00 ∷ 0x01 ∷ 0x01 ∷ 0x02 ∷ 0x03 ∷ 0x00 ∷ 0x00 ∷ 0x00 ∷ 0x01 ∷ 0x00 ∷ 0x30 ∷ 0x00 ∷ []) 9
    -- with 128 added a condition stands before the value: 129 to 133 and no other, for kind 1 alone
    ∷ headed 0x57
    (0x01 ∷ 0x00 ∷ 0x01 ∷ 0x81 ∷ 0x11 ∷ 0x01 ∷ 0x00 ∷ 0x00 ∷ 0x00 ∷ 0x11 ∷ 0x07 ∷ 0x00 ∷ 0x00 ∷ 0x00 ∷ 0x31 ∷ 0x00 ∷ []) 0
    ∷ headed 0x57 (0x01 ∷ 0x00 ∷ 0x01 ∷ 0x81 ∷ 0x11 ∷ 0x01 ∷ 0x00 ∷ 0x00 ∷ 0x00 ∷ 0x31 ∷ 0x00 ∷ []) 9
    ∷ headed 0x57 (0x01 ∷ 0x00 ∷ 0x01 ∷ 0x80 ∷ []) 9
    ∷ headed 0x57 (0x01 ∷ 0x00 ∷ 0x01 ∷ 0x86 ∷ []) 9
    ∷ headed 0x57 (0x00 ∷ 0x00 ∷ 0x01 ∷ 0x81 ∷ []) 9
    -- version 2: "a set count (0 for anywhere) and its starts", up to 16 of them
    ∷ one_path 2 (0x00 ∷ []) 0
    ∷ one_path 2 (0x01 ∷ low (0 ∷ [])) 0
    ∷ one_path 2 (0x02 ∷ low (0 ∷ 2 ∷ [])) 0
    ∷ one_path 2 (0x10 ∷ low (0 ∷ to_15)) 0
    ∷ one_path 2 (0x11 ∷ low (0 ∷ to_15)) 9
    ∷ one_path 2 (0x01 ∷ 0xff ∷ 0xff ∷ []) 13
    ∷ one_path 2 (0x02 ∷ low (1 ∷ 1 ∷ [])) 17
    -- "Both are read": neither 0 nor 3; the bytes of one version under the other
    ∷ one_path 1 (0x00 ∷ 0x00 ∷ []) 0
    ∷ one_path 0 (0x00 ∷ 0x00 ∷ []) 3
    ∷ one_path 3 (0x00 ∷ []) 3
    ∷ one_path 1 (0x00 ∷ []) 13
    ∷ one_path 1 (0x02 ∷ low (0 ∷ 2 ∷ [])) 9
    ∷ one_path 2 (0x00 ∷ 0x00 ∷ []) 9
    ∷ one_path 2 (0x01 ∷ 0x00 ∷ []) 13
    ∷ []

-- bytes of questions behind the version, and of worksheets from it on
abbrev fusing : List ℕ → List ℕ → Expected → Trial
fusing bs ws = fuses (0x4c ∷ 0x50 ∷ 0x51 ∷ 0x01 ∷ 0x00 ∷ bs) (0x4c ∷ 0x50 ∷ 0x57 ∷ ws) graph_a

-- samples of fusing: "version 2 .. when some set has two or more; else version 1"
abbrev pub fusings : List Trial
fusings =
    -- keys 2 from 0 and 2, as it is
    fusing (0x00 ∷ 0x13 ∷ 0x01 ∷ 0x02 ∷ 0x02 ∷ low (0 ∷ 2 ∷ []))
    (0x02 ∷ 0x00 ∷ 0x00 ∷ 0x01 ∷ 0x01 ∷ 0x02 ∷ 0x00 ∷ 0x00 ∷ 0x02 ∷ 0x00 ∷ 0x00 ∷ 0x02 ∷ 0x00
    ∷ 0x01 ∷ 0x00 ∷ 0x30 ∷ 0x00 ∷ [])
    (expected (Number 0 ∷ Number 3 ∷ Number 0 ∷ Number 3 ∷ []) (some 3))
    -- those from anywhere and those from 0 added, less these: set counts 0, 1 and 2
    ∷ fusing
    (0x00 ∷ 0x12 ∷ 0x04 ∷ 0x12 ∷ 0x03 ∷ 0x10 ∷ 0x01 ∷ 0x02 ∷ 0xff ∷ 0xff ∷ 0x10 ∷ 0x01 ∷ 0x02 ∷ 0x00 ∷ 0x00
    ∷ 0x13 ∷ 0x01 ∷ 0x02 ∷ 0x02 ∷ low (0 ∷ 2 ∷ []))
    (0x02 ∷ 0x00 ∷ 0x00 ∷ 0x03 ∷ 0x01 ∷ 0x02 ∷ 0x00 ∷ 0x00 ∷ 0x00 ∷ 0x01 ∷ 0x02 ∷ 0x00 ∷ 0x00 ∷ 0x01 ∷ 0x00 ∷ 0x00
    ∷ 0x01 ∷ 0x02 ∷ 0x00 ∷ 0x00 ∷ 0x02 ∷ 0x00 ∷ 0x00 ∷ 0x02 ∷ 0x00 ∷ 0x01 ∷ 0x00
    ∷ 0x12 ∷ 0x04 ∷ 0x12 ∷ 0x03 ∷ 0x30 ∷ 0x00 ∷ 0x30 ∷ 0x01 ∷ 0x30 ∷ 0x02 ∷ [])
    (expected (Number 0 ∷ Number 2 ∷ Number 2 ∷ Number 2 ∷ []) (some 3))
    -- "A set of one is the same chain as 0x10 with that start.": one chain, in version 1
    ∷ fusing (0x00 ∷ 0x12 ∷ 0x03 ∷ 0x13 ∷ 0x01 ∷ 0x02 ∷ 0x01 ∷ 0x00 ∷ 0x00 ∷ 0x10 ∷ 0x01 ∷ 0x02 ∷ 0x00 ∷ 0x00 ∷ [])
    (0x01 ∷ 0x00 ∷ 0x00 ∷ 0x01 ∷ 0x01 ∷ 0x02 ∷ 0x00 ∷ 0x00 ∷ 0x00 ∷ 0x00 ∷ 0x01 ∷ 0x00
    ∷ 0x12 ∷ 0x03 ∷ 0x30 ∷ 0x00 ∷ 0x30 ∷ 0x00 ∷ [])
    (expected (Number 0 ∷ Number 10 ∷ Number 4 ∷ Number 10 ∷ []) (some 3))
    ∷ []
