-- NO LEGAL PLAN IS LONGER THAN 560 BYTES, in either version: 8, in version 2 37 for each of 8 path reductions, and 256 behind the entry count. An expression
-- of k operators has k + 1 leaves, so at most 7k + 5 bytes. Assumes nothing.
use Prim.Native.Nat.{ℕ, suc, ◌+◌, ◌*◌, ◌≤◌}
use mathlib.Core.Path.{◌≡◌, refl}
use mathlib.Core.Bool.{Bool, true, false, cond}
use mathlib.Core.List.{List, [], ◌∷◌, ◌++◌}
use mathlib.Core.Option.{Option, none, some}
use native.Mathlib.Omega.{arith}
use lib.Dec.{eqb}
use lib.ListN.{length, length-append}
use Rattle.meaning.specs.Limits.{BodyLegal, PlanLegal, condition_terms, entry_terms, plan_terms, terms}
use Rattle.meaning.specs.Plan.{Body, Plan, Term, VertexReduction, apply, each_vertex, leaf, literal, one_result}
use Rattle.meaning.specs.Query.{PathReduction}
use Rattle.term_text.specs.Text.{expression_bytes, start_of, starts_bytes}
use Rattle.term_text.proofs.Sources.{starts_size}
use Rattle.terms.specs.declared.TermKind.{TermKind}
use Rattle.terms.specs.declared.TermKind.TheVariants.{OfEntry, OfFinal}
use Rattle.walks.specs.Lists.{All}
use Rattle.wire.specs.Wire.{le16}
use Rattle.plan.specs.Text.{all_listed_bytes, body_bytes, condition_bytes, encode, entries_bytes, listed_bytes}
use Rattle.plan.proofs.ListedPaths.{Listed, all_listed}

-- an expression, by its operators
expression_short : (kind : TermKind) (t : Term ℕ) → (k : ℕ) × (terms t ≡ 2 * k + 1) × (length (expression_bytes kind t) ≤ 7 * k + 5)
expression_short kind (leaf i) = (0, refl, omega arith)
expression_short kind (literal x) = (0, refl, omega arith)
expression_short kind (apply o s t) =
    let a = expression_short kind s in
    let b = expression_short kind t in (
      suc (a.0 + b.0),
      omega (arith, a.1, b.1),
      omega (arith, a.2, b.2, length-append (expression_bytes kind s) (expression_bytes kind t)),
    )

-- at most so many expressions, by their operators; other bytes beside them
abbrev Short : (most bytes terms other : ℕ) → Type 0
Short most bytes terms other = (k : ℕ) × (n : ℕ) × (n ≤ most) × (terms ≡ 2 * k + n) × (bytes ≤ 7 * k + 5 * n + other)

condition_short : (c : Option (Term ℕ)) → Short 1 (length (condition_bytes c)) (condition_terms c) 0
condition_short none = (0, 0, omega arith, refl, omega arith)
condition_short (some t) = let a = expression_short OfEntry t in (a.0, 1, omega arith, a.1, omega (arith, a.2))

-- two for each entry, and its reduction byte
entries_short : (es : List (VertexReduction ℕ)) → Short (2 * length es) (length (entries_bytes es)) (entry_terms es) (length es)
entries_short [] = (0, 0, omega arith, refl, omega arith)
entries_short (e ∷ es) =
    let a = condition_short e.condition in
    let b = expression_short OfEntry e.body in
    let c = entries_short es in
    let l = condition_bytes e.condition in
    let m = expression_bytes OfEntry e.body in (
      a.0 + b.0 + c.0,
      a.1 + 1 + c.1,
      omega (arith, a.2, c.2),
      omega (arith, a.3, b.1, c.3),
      omega (arith, a.4, b.2, c.4, length-append l m, length-append (l ++ m) (entries_bytes es)),
    )

-- the entry count, and 256 bytes behind it
body_short : (count : ℕ) (b : Body) → BodyLegal count b → plan_terms b ≤ 64 → length (body_bytes b) ≤ 257
body_short count (each_vertex t) l h = let a = expression_short OfEntry t in omega (arith, a.1, a.2)
body_short count (one_result es t) l h =
    let a = entries_short es in
    let b = expression_short OfFinal t in
    omega (arith, a.2, a.3, a.4, b.1, b.2, l.0, length-append (entries_bytes es) (expression_bytes OfFinal t))

-- path reductions of at most 37 bytes each
listed_short : (version : ℕ) (c : PathReduction) → Listed version c → length (listed_bytes version c) ≤ 37
listed_short version c f = go (eqb version 1)
  where
    go : (b : Bool)
        → suc (suc (suc (suc (length (cond b (le16 (start_of c.sources)) (length c.sources ∷ starts_bytes c.sources)))))) ≤ 37
    go true = omega arith
    go false = omega (arith, starts_size c.sources, f.0.1.2)

all_short : (version : ℕ) (cs : List PathReduction) → All (Listed version) cs → length (all_listed_bytes version cs) ≤ 37 * length cs
all_short version [] f = omega arith
all_short version (c ∷ cs) f =
    omega (arith, listed_short version c f.0, all_short version cs f.1, length-append (listed_bytes version c) (all_listed_bytes version cs))

pub plan_short : (p : Plan) → PlanLegal 256 p → length (encode p) ≤ 560
plan_short p l =
    omega (
      arith,
      length-append (all_listed_bytes p.version p.paths) (body_bytes p.body),
      all_short p.version p.paths (all_listed p l),
      body_short (length p.paths) p.body l.body_legal l.few_terms,
      l.few_paths,
    )
