-- A legal query fuses to a legal plan, with as many terms. Assumes nothing.
use Prim.Native.Nat.{ℕ, zero, ◌+◌, ◌≤◌, ◌<◌}
use mathlib.Core.Path.{◌≡◌, refl, sym, ap₂, ◌∙◌, subst}
use mathlib.Core.Bool.{Bool, true, false, cond}
use mathlib.Core.List.{List, [], ◌∷◌, ◌++◌}
use native.Mathlib.Omega.{arith}
use borrow.Author.Tests.{leb-false}
use lib.Dec.{T, leb}
use lib.ListN.{length, length-append}
use Rattle.walks.specs.Lists.{All}
use Rattle.meaning.specs.Limits.{BodyLegal, EntryLegal, Every, Expression, HeldBy, PathFits, PlanLegal, QueryLegal, TermFits, TermsFit, depth}
use Rattle.meaning.specs.Limits.{depth_of, entry_terms, plan_terms, query_terms, size_of, terms}
use Rattle.meaning.specs.Plan.{VertexReduction, among, entries, expression, final, fuse, version_of}
use Rattle.meaning.specs.Query.{Kind, PathReduction, Query, QueryTerm, ResultTerm, VertexTerm, each, number, operator, over, over_where, path, path_set}
use Rattle.meaning.specs.Query.{paths, single, reduction_count, written_paths}
use Rattle.meaning.proofs.Lists.{all_append, all_left, all_right, all_weaken}
use Rattle.meaning.proofs.Paths.{position_below, put_all_has, put_all_holds}

-- THE PATH REDUCTIONS OF A LEGAL QUERY ARE LEGAL
module _ (n : ℕ) where
  term_paths : {κ : Kind} (t : QueryTerm κ) → TermFits n t → All (PathFits n) (paths t)
  term_paths (path c) h = (h.0, tt)
  term_paths (path_set c) h = (h.0, tt)
  term_paths (over o t) h = term_paths t h.2
  term_paths (over_where o c t) h = all_append _ (paths c) (paths t) (term_paths c h.2) (term_paths t h.3)
  term_paths (number x) h = tt
  term_paths (operator o s t) h = all_append _ (paths s) (paths t) (term_paths s h.2) (term_paths t h.3)

  pub legal_paths : (q : Query) → TermsFit n q → All (PathFits n) (written_paths q)
  legal_paths (each t) h = term_paths t h
  legal_paths (single t) h = term_paths t h

-- a vertex term has no reduction; a result term has as many entries as reductions
no_reduction : (t : VertexTerm) → reduction_count t ≡ 0
no_reduction (path c) = refl
no_reduction (path_set c) = refl
no_reduction (number x) = refl
no_reduction (operator o s t) = omega (arith, no_reduction s, no_reduction t)

pub entries_length : (cs : List PathReduction) (t : ResultTerm) → length (entries cs t) ≡ reduction_count t
entries_length cs (over o t) = omega (arith, no_reduction t)
entries_length cs (over_where o c t) = omega (arith, no_reduction c, no_reduction t)
entries_length cs (number x) = refl
entries_length cs (operator o s t) = length-append (entries cs s) (entries cs t) ∙ ap₂ ◌+◌ (entries_length cs s) (entries_length cs t)

entry_append : (es ds : List (VertexReduction ℕ)) → entry_terms (es ++ ds) ≡ entry_terms es + entry_terms ds
entry_append [] ds = omega arith
entry_append (e ∷ es) ds = omega (arith, entry_append es ds)

module _ (cs : List PathReduction) where
  -- they stand among cs
  abbrev Has : List PathReduction → Type 0
  Has = All (λ c. T (among c cs))

  -- an expression has the terms and the depth of its vertex term
  expression_terms : (t : VertexTerm) → terms (expression cs t) ≡ size_of t
  expression_terms (path c) = refl
  expression_terms (path_set c) = refl
  expression_terms (number x) = refl
  expression_terms (operator o s t) = omega (arith, expression_terms s, expression_terms t)

  expression_depth : (t : VertexTerm) → depth (expression cs t) ≡ depth_of t
  expression_depth (path c) = refl
  expression_depth (path_set c) = refl
  expression_depth (number x) = refl
  expression_depth (operator o s t) = omega (arith, expression_depth s, expression_depth t)

  -- the entries and the final expression have the terms of the result term
  entries_terms : (t : ResultTerm) (k : ℕ) → entry_terms (entries cs t) + terms (final k t) ≡ size_of t
  entries_terms (over o t) k = omega (arith, expression_terms t)
  entries_terms (over_where o c t) k = omega (arith, expression_terms c, expression_terms t)
  entries_terms (number x) k = refl
  entries_terms (operator o s t) k = omega (arith, entry_append (entries cs s) (entries cs t), entries_terms s k, entries_terms t (k + reduction_count s))

  module _ (n : ℕ) where
    expression_every : (t : VertexTerm) → TermFits n t → Has (paths t) → Every (λ i. i < length cs) (expression cs t)
    expression_every (path c) p h = position_below c cs h.0
    expression_every (path_set c) p h = position_below c cs h.0
    expression_every (number x) p h = p
    expression_every (operator o s t) p h =
        (p.0, p.1, expression_every s p.2 (all_left _ (paths s) (paths t) h), expression_every t p.3 (all_right _ (paths s) (paths t) h))

    expression_legal : (t : VertexTerm) → TermFits n t → Has (paths t) → depth_of t ≤ 16 → Expression (length cs) (expression cs t)
    expression_legal t p h d = (expression_every t p h, omega (arith, expression_depth t))

    entries_legal : (t : ResultTerm) → TermFits n t → Has (paths t) → depth_of t ≤ 16 → All (EntryLegal (length cs)) (entries cs t)
    entries_legal (over o t) p h d = ((p.0, p.1, tt, expression_legal t p.2 h (omega arith)), tt)
    entries_legal (over_where o c t) p h d = (
      (
        p.0,
        p.1,
        expression_legal c p.2 (all_left _ (paths c) (paths t) h) (omega arith),
        expression_legal t p.3 (all_right _ (paths c) (paths t) h) (omega arith),
      ),
      tt,
    )
    entries_legal (number x) p h d = tt
    entries_legal (operator o s t) p h d =
        all_append _ (entries cs s) (entries cs t) (entries_legal s p.2 (all_left _ (paths s) (paths t) h) (omega arith))
        (entries_legal t p.3 (all_right _ (paths s) (paths t) h) (omega arith))

-- the final expression: its indices are below the count, and it is no deeper
module _ (n : ℕ) where
  final_every : (t : ResultTerm) → TermFits n t → (k m : ℕ) → k + reduction_count t ≤ m → Every (λ i. i < m) (final k t)
  final_every (over o t) p k m l = omega arith
  final_every (over_where o c t) p k m l = omega arith
  final_every (number x) p k m l = p
  final_every (operator o s t) p k m l = (p.0, p.1, final_every s p.2 k m (omega arith), final_every t p.3 (k + reduction_count s) m (omega arith))

final_depth : (t : ResultTerm) (k : ℕ) → depth (final k t) ≤ depth_of t
final_depth (over o t) k = omega arith
final_depth (over_where o c t) k = omega arith
final_depth (number x) k = omega arith
final_depth (operator o s t) k = omega (arith, final_depth s k, final_depth t (k + reduction_count s))

-- FUSING KEEPS THE NUMBER OF TERMS
pub fuse_terms : (q : Query) → plan_terms (fuse q).body ≡ query_terms q
fuse_terms (each t) = expression_terms (fuse (each t)).paths t
fuse_terms (single t) = entries_terms (fuse (single t)).paths t zero

body_legal : (n : ℕ) (q : Query) → QueryLegal n q → BodyLegal (length (fuse q).paths) (fuse q).body
body_legal n (each t) h = expression_legal (fuse (each t)).paths n t h.legal (put_all_has [] (paths t)) h.shallow
body_legal n (single t) h =
    let cs = (fuse (single t)).paths in
    let l = entries_length cs t in (
      omega (arith, l, h.few_reductions),
      entries_legal cs n t h.legal (put_all_has [] (paths t)) h.shallow,
      (final_every n t h.legal zero (length (entries cs t)) (omega (arith, l)), omega (arith, final_depth t zero, h.shallow)),
    )

-- the version of a plan is known, and has bytes for its path reductions
version_known : (cs : List PathReduction) → (1 ≤ version_of cs) × (version_of cs ≤ 2)
version_known [] = (omega arith, omega arith)
version_known (c ∷ cs) = go (leb 2 (length c.sources)) (version_known cs)
  where
    go : (b : Bool) → (1 ≤ version_of cs) × (version_of cs ≤ 2) → (1 ≤ cond b 2 (version_of cs)) × (cond b 2 (version_of cs) ≤ 2)
    go true h = (omega arith, omega arith)
    go false h = h

version_holds : (cs : List PathReduction) → All (HeldBy (version_of cs)) cs
version_holds [] = tt
version_holds (c ∷ cs) = go (leb 2 (length c.sources)) refl (version_holds cs)
  where
    go : (b : Bool) → leb 2 (length c.sources) ≡ b → All (HeldBy (version_of cs)) cs → All (HeldBy (cond b 2 (version_of cs))) (c ∷ cs)
    go true e h = (λ l. absurd (omega arith), all_weaken cs (λ d x l. absurd (omega arith)) h)
    go false e h = (λ l. omega (arith, leb-false 2 (length c.sources) e), h)

-- FUSING A LEGAL QUERY GIVES A LEGAL PLAN
pub fuse_legal : (n : ℕ) (q : Query) → QueryLegal n q → PlanLegal n (fuse q)
fuse_legal n q h = record {
  known_version = version_known (fuse q).paths;
  paths_held = version_holds (fuse q).paths;
  few_paths = h.few_paths;
  paths_legal = put_all_holds (PathFits n) [] (written_paths q) tt (legal_paths n q h.legal);
  body_legal = body_legal n q h;
  few_terms = subst (λ (x : ℕ). x ≤ 64) (sym (fuse_terms q)) h.few_terms;
}
