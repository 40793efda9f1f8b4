-- Every row of a run fits 64 bits, for any 16-bit number of rounds. Assumes nothing.
use Prim.Native.Nat.{ℕ, zero, suc, ◌^◌, ◌<◌}
use mathlib.Core.Bool.{Bool, true, false, cond}
use mathlib.Core.List.{List, [], ◌∷◌, map}
use mathlib.Core.Option.{Option, none, some}
use native.Mathlib.Omega.{arith}
use lib.ListN.{length, get_or}
use Rattle.value.specs.declared.Value.{Value}
use Rattle.value.specs.declared.Value.TheVariants.{Absent}
use Rattle.value.specs.Value.{chosen, counts}
use Rattle.value.proofs.Held.{AllHeld, Held, operate_held, reduce_held}
use Rattle.walks.specs.Lists.{All}
use Rattle.walks.specs.Meaning.{value}
use Rattle.walks.specs.Walks.{Graph}
use Rattle.walks.proofs.Bounds.{value_held}
use Rattle.meaning.specs.Limits.{BodyLegal, EntryLegal, Every, GraphLegal, PathFits, PlanLegal}
use Rattle.meaning.specs.Plan.{Body, Plan, Term, VertexReduction, apply, each_vertex, leaf, literal, one_result}
use Rattle.meaning.specs.Query.{PathReduction, network_of}
use Rattle.meaning.specs.Run.{at_vertices, body_rows, evaluate, picked, pull, reduced, stopped, tabulate, value_of, values_at}
use Rattle.meaning.proofs.Rounds.{network_fits, path_in_order}

-- a term whose leaves have machine numbers has one
term_held : {A : Type 0} (f : A → Value) (t : Term A) → Every (λ a. Held (f a)) t → Held (value_of f t)
term_held f (leaf a) h = h
term_held f (literal k) h = let l : k < 2 ^ 32 = h in omega arith
term_held f (apply o s t) h = operate_held o (value_of f s) (value_of f t) (term_held f s h.2) (term_held f t h.3)

-- those that count are held where all are
chosen_held : (cs xs : List Value) → AllHeld xs → AllHeld (chosen cs xs)
chosen_held [] xs h = tt
chosen_held (c ∷ cs) [] h = tt
chosen_held (c ∷ cs) (x ∷ xs) h = go (counts c) (chosen_held cs xs h.1)
  where
    go : (b : Bool) → AllHeld (chosen cs xs) → AllHeld (cond b (x ∷ chosen cs xs) (chosen cs xs))
    go true k = (h.0, k)
    go false k = k

-- so it is over a list of values, at the vertices, in the entries, in the rows
held_at : (vs : List Value) → AllHeld vs → (i : ℕ) → Held (get_or vs i Absent)
held_at [] h i = tt
held_at (v ∷ vs) h zero = h.0
held_at (v ∷ vs) h (suc i) = held_at vs h.1 i

module _ (vs : List Value) (h : AllHeld vs) (c : ℕ) where
  every_held : (t : Term ℕ) → Every (λ i. i < c) t → Every (λ i. Held (get_or vs i Absent)) t
  every_held (leaf i) e = held_at vs h i
  every_held (literal k) e = e
  every_held (apply o s t) e = (e.0, e.1, every_held s e.2, every_held t e.3)

  evaluate_held : (t : Term ℕ) → Every (λ i. i < c) t → Held (evaluate vs t)
  evaluate_held t e = term_held (λ i. get_or vs i Absent) t (every_held t e)

module _ (F : ℕ → List Value) (held : (v : ℕ) → AllHeld (F v)) (c : ℕ) where
  vertices_held : (t : Term ℕ) → Every (λ i. i < c) t → (n i : ℕ) → AllHeld (tabulate n i (λ v. evaluate (F v) t))
  vertices_held t e zero i = tt
  vertices_held t e (suc n) i = (evaluate_held (F i) (held i) c t e, vertices_held t e n (suc i))

  picked_held : (o : Option (Term ℕ)) (n : ℕ) (xs : List Value) → AllHeld xs → AllHeld (picked F n o xs)
  picked_held none n xs h = h
  picked_held (some t) n xs h = chosen_held (at_vertices F n t) xs h

  entries_held : (n : ℕ) (es : List (VertexReduction ℕ)) → All (EntryLegal c) es → AllHeld (map (reduced F n) es)
  entries_held n [] l = tt
  entries_held n (e ∷ es) l =
      let xs = at_vertices F n e.body in (
        reduce_held e.reduction (picked F n e.condition xs) (picked_held e.condition n xs (vertices_held e.body l.0.3.0 n zero)),
        entries_held n es l.1,
      )

  body_held : (b : Body) (n : ℕ) → BodyLegal c b → AllHeld (body_rows b F n)
  body_held (each_vertex t) n l = vertices_held t l.0 n zero
  body_held (one_result es t) n l = (evaluate_held (map (reduced F n) es) (entries_held n es l.1) (length es) t l.2.0, tt)

module _ (g : Graph) (legal : GraphLegal g) where
  path_held : (c : PathReduction) → PathFits g.vertices c → (r v : ℕ) → r < 65536 → Held (value (pull g c r v))
  path_held c p r v h =
      value_held (network_of g c) (network_fits g legal.fits c p) (omega (arith, legal.few_vertices)) legal.weights c.keys
      (path_in_order g.vertices c p) r v h

  values_held : (cs : List PathReduction) → All (PathFits g.vertices) cs → (r : ℕ) → r < 65536 → (v : ℕ) → AllHeld (values_at (pull g) cs r v)
  values_held [] f r h v = tt
  values_held (c ∷ cs) f r h v = (path_held c f.0 r v h, values_held cs f.1 r h v)

  -- EVERY ROW OF A STOPPED RUN FITS 64 BITS
  pub rows_held : (p : Plan) → PlanLegal g.vertices p → (r : ℕ) → r < 65536 → AllHeld (stopped (pull g) g.vertices p r).rows
  unfolding stopped
  rows_held p l r h = body_held (values_at (pull g) p.paths r) (values_held p.paths l.paths_legal r h) (length p.paths) p.body g.vertices
      l.body_legal
