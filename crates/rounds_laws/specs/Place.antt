-- A PUSH ROUND AT ONE PLACE, AS THE DEFINITION IS PRINTED (source document 000, Fig. 8, Definition 3): "for each place, over its changed predecessors, reducing
-- into the place's former value" (document 02, e).
use Rattle.std.specs.Prelude.{ℕ, zero, suc, Bool, cond, ◌&&◌, List, [], ◌∷◌, ◌++◌, eqb}
use Rattle.std.proofs.Math.Option.{Option}
use Rattle.walks.specs.Rounds.{State, best, through}
use Rattle.walks.specs.Walks.{Network}

-- "let {u₀, .., uₙ₋₁} := CPreds(v)": the edges into v from changed vertices, by their rows in map order, of those below i (equal rows are different
-- edges)
unfoldable pub changed_into : Network → (ℕ → Bool) → ℕ → ℕ → List ℕ
changed_into N changed v zero = []
changed_into N changed v (suc i) =
    changed_into N changed v i ++ cond (N.usable i && changed (N.edge i).from && eqb (N.edge i).to v) (i ∷ []) []

-- "Sᵢ₊₁ := R(Sᵢ, P(S(uᵢ), uᵢ → v))": the propagated value of each is reduced into what was reached; Sₙ is left
abbrev pub reduced_into : Network → List ℕ → State → Option (List ℕ) → List ℕ → Option (List ℕ)
reduced_into N ks S reached [] = reached
reduced_into N ks S reached (i ∷ is) = reduced_into N ks S (best ks reached (through ks (N.edge i) (S (N.edge i).from))) is

-- "S₀ := S(v)", the value of the round before
abbrev pub place : Network → List ℕ → State → (ℕ → Bool) → State
place N ks S changed v = reduced_into N ks S (S v) (changed_into N changed v N.edges)
