-- ROUNDS, to compute: what each vertex holds after each round, by pull and by push, and how many rounds there are.
use Rattle.std.specs.Prelude.{ℕ, zero, suc, ◌*◌, Bool, true, false, cond, not, ◌&&◌, List, [], ◌∷◌, eqb}
use Rattle.std.proofs.Math.Option.{Option, none, some}
use Rattle.walks.specs.Keys.{measure, kept, good?}
use Rattle.walks.specs.Walks.{Edge, Network, base, extend}

-- a path reduction's figures at each vertex
abbrev pub State : Type 0
State = ℕ → Option (List ℕ)

-- xs is at least as good as ys by the keys, the first key first
abbrev pub precedes : List ℕ → List ℕ → List ℕ → Bool
precedes [] xs ys = true
precedes (k ∷ ks) [] ys = true
precedes (k ∷ ks) (x ∷ xs) [] = true
precedes (k ∷ ks) (x ∷ xs) (y ∷ ys) = cond (eqb x y) (precedes ks xs ys) (good? (kept k) x y)

-- the better of two lists of figures; with one absent, the other; of equal ones the first
unfoldable pub best : List ℕ → Option (List ℕ) → Option (List ℕ) → Option (List ℕ)
best ks none b = b
best ks (some xs) none = some xs
best ks (some xs) (some ys) = cond (precedes ks xs ys) (some xs) (some ys)

-- the figures of the empty walk at v; those of walks with the edge e after them
abbrev pub bases : List ℕ → ℕ → List ℕ
bases [] v = []
bases (k ∷ ks) v = base (measure k) v ∷ bases ks v

abbrev pub extend_all : List ℕ → Edge → List ℕ → List ℕ
extend_all [] e xs = []
extend_all (k ∷ ks) e [] = []
extend_all (k ∷ ks) e (x ∷ xs) = extend (measure k) e x ∷ extend_all ks e xs

-- the same where there may be no walk
abbrev pub through : List ℕ → Edge → Option (List ℕ) → Option (List ℕ)
through ks e none = none
through ks e (some xs) = some (extend_all ks e xs)

-- "start values are round 0": at a source the figures of the empty walk
abbrev pub initial : Bool → List ℕ → ℕ → Option (List ℕ)
initial true ks v = some (bases ks v)
initial false ks v = none

-- what the edge e brings to its end from the state S, where the test says that it does
abbrev pub brings : Bool → List ℕ → Edge → State → Option (List ℕ)
brings true ks e S = through ks e (S e.from)
brings false ks e S = none

-- the best at v of what it held in S and what the edges below i that pass the test `live` bring
unfoldable pub gather : Network → List ℕ → (ℕ → Bool) → State → ℕ → ℕ → Option (List ℕ)
gather N ks live S v zero = S v
gather N ks live S v (suc i) = best ks (gather N ks live S v i) (brings (live i && eqb (N.edge i).to v) ks (N.edge i) S)

-- BY PULL: each round goes over all usable edges
unfoldable pub state : Network → List ℕ → ℕ → State
state N ks zero v = initial (N.source v) ks v
state N ks (suc r) v = gather N ks N.usable (state N ks r) v N.edges

-- equal figures, as a test
abbrev pub same_list : List ℕ → List ℕ → Bool
same_list [] [] = true
same_list [] (y ∷ ys) = false
same_list (x ∷ xs) [] = false
same_list (x ∷ xs) (y ∷ ys) = eqb x y && same_list xs ys

-- the same of a vertex, which may hold none
abbrev pub same : Option (List ℕ) → Option (List ℕ) → Bool
same none none = true
same none (some ys) = false
same (some xs) none = false
same (some xs) (some ys) = same_list xs ys

-- whether there are figures: a walk leads here
abbrev pub reached : Option (List ℕ) → Bool
reached none = false
reached (some xs) = true

-- BY PUSH: a round goes over the usable edges from the vertices that changed in the round before (before the first: that hold figures). A state and its marks.
pub record Marked : Type 0 where
  pub holds : State
  pub changed : ℕ → Bool

-- one round
abbrev pub push_round : Network → List ℕ → Marked → State
push_round N ks p v = gather N ks (λ i. N.usable i && p.changed (N.edge i).from) p.holds v N.edges

-- each round from the one before, with the vertices that it changed
unfoldable pub marked : Network → List ℕ → ℕ → Marked
marked N ks zero = record { holds = λ v. initial (N.source v) ks v; changed = λ v. reached (initial (N.source v) ks v) }
marked N ks (suc r) =
    let p = marked N ks r in record { holds = push_round N ks p; changed = λ v. not (same (push_round N ks p v) (p.holds v)) }

-- the state alone
abbrev pub pushed : Network → List ℕ → ℕ → State
pushed N ks r = (marked N ks r).holds

-- several path reductions together, each as its states round by round, on n vertices. "A place changes for a chain when the figure of any of its keys changes,
-- the earlier keys included, or when absent gives way to a number": the round after r changes no vertex below n for one; for any
abbrev pub unchanged : (ℕ → State) → ℕ → ℕ → Bool
unchanged S r zero = true
unchanged S r (suc n) = same (S (suc r) n) (S r n) && unchanged S r n

abbrev pub quiet : ℕ → List (ℕ → State) → ℕ → Bool
quiet n [] r = true
quiet n (S ∷ Ss) r = unchanged S r n && quiet n Ss r

-- the first round after r that passes a test, counted from 1; at most d rounds are tried before
unfoldable pub first : (ℕ → Bool) → ℕ → ℕ → ℕ
first q zero r = suc r
first q (suc d) r = elim (q r) [ true ↦ suc r | false ↦ first q d (suc r) ]

-- "A run stops after the first round, counted from 1, in which no place changes for any chain." (`rounds_first` and `rounds_bound` say that it is among the
-- 2n.)
unfoldable pub rounds : ℕ → List (ℕ → State) → ℕ
rounds n Ss = first (quiet n Ss) (2 * n) zero
