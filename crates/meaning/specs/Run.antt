-- The runs of a plan, by pull and by push: the figures of each path reduction round by round, the rounds, and the rows.
use Rattle.std.specs.Prelude.{ℕ, zero, suc, ◌<◌, ◌≡◌, List, [], ◌∷◌, map, get_or}
use Rattle.std.proofs.Math.Option.{Option, none, some}
use Rattle.value.specs.declared.Value.{Value}
use Rattle.value.specs.declared.Value.TheVariants.{Absent, Number}
use Rattle.value.specs.Value.{chosen, operate, reduce}
use Rattle.walks.specs.Meaning.{value}
use Rattle.walks.specs.Rounds.{State, pushed, rounds, state}
use Rattle.walks.specs.Walks.{Graph}
use Rattle.meaning.specs.Meaning.{Outcome}
use Rattle.meaning.specs.Plan.{Body, Plan, Term, VertexReduction, apply, each_vertex, leaf, literal, one_result}
use Rattle.meaning.specs.Query.{PathReduction, network_of}

-- the value of a term, of the values of its leaves; of an expression, whose leaves are indices into a list of values
abbrev pub value_of : {A : Type 0} → (A → Value) → Term A → Value
value_of f (leaf a) = f a
value_of f (literal k) = Number k
value_of f (apply o s t) = operate o (value_of f s) (value_of f t)

abbrev pub evaluate : List Value → Term ℕ → Value
evaluate vs = value_of (λ i. get_or vs i Absent)

-- f at the n numbers from i on
abbrev pub tabulate : {A : Type 0} → ℕ → ℕ → (ℕ → A) → List A
tabulate zero i f = []
tabulate (suc n) i f = f i ∷ tabulate n (suc i) f

-- the values of an expression at the n vertices, where the path reductions have the values F v at the vertex v
abbrev pub at_vertices : (ℕ → List Value) → ℕ → Term ℕ → List Value
at_vertices F n t = tabulate n zero (λ v. evaluate (F v) t)

-- those of them that count by a condition, all where there is none; an entry's result
abbrev pub picked : (ℕ → List Value) → ℕ → Option (Term ℕ) → List Value → List Value
picked F n none xs = xs
picked F n (some c) xs = chosen (at_vertices F n c) xs

abbrev pub reduced : (ℕ → List Value) → ℕ → VertexReduction ℕ → Value
reduced F n e = reduce e.reduction (picked F n e.condition (at_vertices F n e.body))

-- the rows of a plan's body: n for kind 0, one for kind 1
abbrev pub body_rows : Body → (ℕ → List Value) → ℕ → List Value
body_rows (each_vertex t) F n = at_vertices F n t
body_rows (one_result es t) F n = evaluate (map (reduced F n) es) t ∷ []

-- WHAT THE ROWS OF A PLAN MUST BE, fused or not: its expressions over values that its path reductions may be worth; L says which those are, of one path
-- reduction, and at a vertex
abbrev pub Worth : (PathReduction → Value → Type 0) → List PathReduction → List Value → Type 0
Worth L [] [] = Unit {0}
Worth L [] (x ∷ xs) = ⊥
Worth L (c ∷ cs) [] = ⊥
Worth L (c ∷ cs) (x ∷ xs) = L c x × Worth L cs xs

abbrev pub PlanRows : (PathReduction → ℕ → Value → Type 0) → ℕ → Plan → List Value → Type 0
PlanRows L n p xs = (F : ℕ → List Value) × ((v : ℕ) → v < n → Worth (λ c. L c v) p.paths (F v)) × (xs ≡ body_rows p.body F n)

-- a way to run: the figures of each path reduction after each round at each vertex. By pull, and by push:
abbrev pub Way : Type 0
Way = PathReduction → ℕ → State

abbrev pub pull : Graph → Way
pull g c = state (network_of g c) c.keys

abbrev pub push : Graph → Way
push g c = pushed (network_of g c) c.keys

-- "A run stops after the first round, counted from 1, in which no place changes for any chain."
abbrev pub run_rounds : Way → ℕ → Plan → ℕ
run_rounds W n p = rounds n (map W p.paths)

-- the values of the path reductions after r rounds at the vertex v
abbrev pub values_at : Way → List PathReduction → ℕ → ℕ → List Value
values_at W cs r v = map (λ c. value (W c r v)) cs

-- "Each run can also be stopped after a given 16-bit number of rounds, 0 allowed; it then does that many, quiet or not, reports that number and answers from
-- the values reached."
unfoldable pub stopped : Way → ℕ → Plan → ℕ → Outcome
stopped W n p r = record { rounds = r; rows = body_rows p.body (values_at W p.paths r) n }

-- with no number given: to the first round that changes nothing
unfoldable pub run : Way → ℕ → Plan → Outcome
run W n p = stopped W n p (run_rounds W n p)
