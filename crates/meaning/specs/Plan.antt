-- Plans (document 01: worksheets), and fusing.
use Rattle.std.specs.Prelude.{ℕ, zero, suc, ◌+◌, Bool, false, cond, ◌&&◌, ◌||◌, List, [], ◌∷◌, ◌++◌, leb, length}
use Rattle.std.proofs.Math.Option.{Option, none, some}
use Rattle.walks.specs.Rounds.{same_list}
use Rattle.meaning.specs.Query.{PathReduction, Query, ResultTerm, VertexTerm, each, number, operator, over, over_where, path, path_set, reduction_count}
use Rattle.meaning.specs.Query.{single, written_paths}

-- expressions over leaves of some kind: a leaf, a literal, or an operator
pub data Term (A : Type 0) : Type 0 where
  leaf : A → Term A
  literal : ℕ → Term A
  apply : ℕ → Term A → Term A → Term A

-- an entry with its reduction, over all vertices or over those that count by the condition (document 02, a)
pub record VertexReduction (A : Type 0) : Type 0 where
  pub reduction : ℕ
  pub condition : Option (Term A)
  pub body : Term A

-- the expressions of a plan. Kind 0: one entry with no reduction, over the indices of path reductions (0x30). Kind 1: entries with their reductions, and a
-- final expression over the indices of entries (0x31)
pub data Body : Type 0 where
  each_vertex : Term ℕ → Body
  one_result : List (VertexReduction ℕ) → Term ℕ → Body

-- "c chains", and the expressions; "a writer keeps the version it is handed" (document 02, b)
pub record Plan : Type 0 where
  pub version : ℕ
  pub paths : List PathReduction
  pub body : Body

-- equal path reductions, as a test; the starts are "strictly rising", so equal sets are equal lists
abbrev pub same_path : PathReduction → PathReduction → Bool
same_path c d = same_list c.keys d.keys && same_list c.sources d.sources

-- where a path reduction first stands in a list (its length, where it does not)
abbrev pub position : PathReduction → List PathReduction → ℕ
position c [] = zero
position c (d ∷ ds) = cond (same_path c d) zero (suc (position c ds))

-- does a path reduction stand in a list?
abbrev pub among : PathReduction → List PathReduction → Bool
among c [] = false
among c (d ∷ ds) = same_path c d || among c ds

-- "Fusing puts equal chains together, in order of first writing": one more after those of a list, and each of a list in turn
abbrev pub put : List PathReduction → PathReduction → List PathReduction
put cs c = cond (among c cs) cs (cs ++ (c ∷ []))

abbrev pub put_all : List PathReduction → List PathReduction → List PathReduction
put_all cs [] = cs
put_all cs (d ∷ ds) = put_all (put cs d) ds

-- "Fusing writes version 2 .. when some set has two or more; else version 1." (document 02, b)
abbrev pub version_of : List PathReduction → ℕ
version_of [] = 1
version_of (c ∷ cs) = cond (leb 2 (length c.sources)) 2 (version_of cs)

-- a vertex term over the indices of the path reductions cs: "0x30 and a chain's index for a chain ..; operators and literals keep their bytes"
abbrev pub expression : List PathReduction → VertexTerm → Term ℕ
expression cs (path c) = leaf (position c cs)
expression cs (path_set c) = leaf (position c cs)
expression cs (number x) = literal x
expression cs (operator o s t) = apply o (expression cs s) (expression cs t)

-- "and reductions in order of writing": the entries of a result term
abbrev pub entries : List PathReduction → ResultTerm → List (VertexReduction ℕ)
entries cs (over o t) = record { reduction = o; condition = none; body = expression cs t } ∷ []
entries cs (over_where o c t) = record { reduction = o; condition = some (expression cs c); body = expression cs t } ∷ []
entries cs (number x) = []
entries cs (operator o s t) = entries cs s ++ entries cs t

-- a result term over the indices of its entries, the first being k: "0x31 and an entry's index for a reduction"
abbrev pub final : ℕ → ResultTerm → Term ℕ
final k (over o t) = leaf k
final k (over_where o c t) = leaf k
final k (number x) = literal x
final k (operator o s t) = apply o (final k s) (final (k + reduction_count s) t)

-- the expressions of the plan: for kind 0 the vertex term's, for kind 1 the entries and the final one
abbrev pub fuse_body : List PathReduction → Query → Body
fuse_body cs (each t) = each_vertex (expression cs t)
fuse_body cs (single t) = one_result (entries cs t) (final zero t)

-- the plan that a query is fused to
abbrev pub fuse : Query → Plan
fuse q = let cs = put_all [] (written_paths q) in record { version = version_of cs; paths = cs; body = fuse_body cs q }
