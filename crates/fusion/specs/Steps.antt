-- Fusing as the program goes, from the nodes of the query to those of the plan. Nothing to believe: `fuse_steps` (proofs/Exact) says that of all bytes its
-- reply is `fuse_reply`.
use Rattle.std.specs.Prelude.{ℕ, suc, ◌≡◌, ◌+◌, ◌%◌, min, cond, List, [], ◌∷◌, leb, eqb, set, take}
use Rattle.nodes.specs.declared.Term.{Term}
use Rattle.nodes.specs.declared.Term.TheVariants.{Empty, Path, PathSet, Literal, Apply, Reduce, ReduceWhere, ResultLiteral, ResultApply, PathIndex}
use Rattle.nodes.specs.declared.Term.TheVariants.{EntryIndex, Entry}
use Rattle.nodes.specs.Nodes.{padded}
use Rattle.plan_form.specs.declared.Form.{Form}
use Rattle.packed_path.specs.declared.PackedPath.{PackedPath}
use Rattle.packed_path.specs.Packed.{same_packed}
use Rattle.plan_form.specs.Form.{any_set, write_reply}
use Rattle.query.specs.Query.{query_code}
use Rattle.query_form.specs.declared.Reading.{Reading}
use Rattle.query_form.specs.Form.{query_reading}
use Rattle.wire.specs.Wire.{Reply, unless}
use Rattle.fusion.specs.declared.Written.{Written}

-- where a path reduction stands in a list (its length, where it does not)
unfoldable pub index_of : PackedPath → List PackedPath → ℕ
index_of p [] = 0
index_of p (x ∷ l) = cond (same_packed x p) 0 (suc (index_of p l))

-- what a node of a query is in the entries of its plan: "0x30 and a chain's index for a chain", whichever of its two bytes it has, "a reduction byte and an
-- expression", with 128 added where there is a condition (o is one of the five: the remainder keeps the byte below 256); "operators and literals keep their
-- bytes"; a literal or operator of a result term is in none
unfoldable pub entry_term : List PackedPath → Term → Term
entry_term table Empty = Empty
entry_term table (Path p) = PathIndex (index_of p table)
entry_term table (PathSet p) = PathIndex (index_of p table)
entry_term table (Literal x) = Literal x
entry_term table (Apply o) = Apply o
entry_term table (Reduce o) = Entry o
entry_term table (ReduceWhere o) = Entry (o % 128 + 128)
entry_term table (ResultLiteral x) = Empty
entry_term table (ResultApply o) = Empty
entry_term table (PathIndex i) = Empty
entry_term table (EntryIndex i) = Empty
entry_term table (Entry o) = Empty

-- what it is in the final expression, where k reductions were written before it: "0x31 and an entry's index for a reduction"; a node of a vertex term is
-- nothing there
unfoldable pub final_term : ℕ → Term → Term
final_term k Empty = Empty
final_term k (Path p) = Empty
final_term k (PathSet p) = Empty
final_term k (Literal x) = Empty
final_term k (Apply o) = Empty
final_term k (Reduce o) = EntryIndex k
final_term k (ReduceWhere o) = EntryIndex k
final_term k (ResultLiteral x) = ResultLiteral x
final_term k (ResultApply o) = ResultApply o
final_term k (PathIndex i) = Empty
final_term k (EntryIndex i) = Empty
final_term k (Entry o) = Empty

-- what it is in the entries, whichever reductions were written before it
abbrev pub entries_term : List PackedPath → ℕ → Term → Term
entries_term table k t = entry_term table t

-- how many nodes a term takes: an empty one none
unfoldable pub size : Term → ℕ
size Empty = 0
size (Path p) = 1
size (PathSet p) = 1
size (Literal x) = 1
size (Apply o) = 1
size (Reduce o) = 1
size (ReduceWhere o) = 1
size (ResultLiteral x) = 1
size (ResultApply o) = 1
size (PathIndex i) = 1
size (EntryIndex i) = 1
size (Entry o) = 1

-- how many reductions it is
unfoldable pub reduces : Term → ℕ
reduces Empty = 0
reduces (Path p) = 0
reduces (PathSet p) = 0
reduces (Literal x) = 0
reduces (Apply o) = 0
reduces (Reduce o) = 1
reduces (ReduceWhere o) = 1
reduces (ResultLiteral x) = 0
reduces (ResultApply o) = 0
reduces (PathIndex i) = 0
reduces (EntryIndex i) = 0
reduces (Entry o) = 0

-- a term behind those written, while there is room; the next one overwrites an empty one
unfoldable pub put_term : Written → Term → Written
put_term d t = cond (leb 72 d.len) d (record { list = set d.list d.len t; len = d.len + size t })

-- one part of the plan, from nodes of the query before which k reductions were written; `part` says what a node is there
unfoldable pub put_part : (ℕ → Term → Term) → ℕ → Written → List Term → Written
put_part part k d [] = d
put_part part k d (n ∷ l) = put_part part (k + reduces n) (put_term d (part k n)) l

-- what a function that fuses nodes may answer, said as a function of the reductions before the node and the node
abbrev pub Computes : (Term → ℕ → Term → Type 0) → (ℕ → Term → Term) → Type 0
Computes answers part = (t : Term) (k : ℕ) (r : Term) → answers t k r → r ≡ part k t

-- the part that such a function puts behind `start`
abbrev pub PutsPart : (Term → ℕ → Term → Type 0) → Written → List Term → Written → Type 0
PutsPart answers start nodes written = (part : ℕ → Term → Term) → Computes answers part → written ≡ put_part part 0 start nodes

-- what stands before the entries: "Kind 0 has e = 1 and reduction byte 0"
unfoldable pub first_written : ℕ → Written
first_written kind = cond (eqb kind 0) (record { list = padded (Entry 0 ∷ []); len = 1 }) (record { list = padded []; len = 0 })

-- "Kind 0 has e = 1"; for kind 1 "reductions in order of writing"
unfoldable pub entries_of : ℕ → ℕ → ℕ
entries_of kind reductions = cond (eqb kind 0) 1 (min reductions 8)

-- the typed form of the plan, from what was read of the query
unfoldable pub fused_form : Reading → Form
fused_form r =
    let l = take r.form.count r.form.nodes in
    let w = put_part final_term 0 (put_part (entries_term r.table) 0 (first_written r.form.kind) l) l in
    record {
      version = cond (any_set (take r.paths r.table)) 2 1;
      kind = r.form.kind;
      paths = min r.paths 8;
      table = r.table;
      entries = entries_of r.form.kind r.reductions;
      count = w.len;
      nodes = w.list;
    }

-- the reply: the refusal of the query, or the writer's to that form
unfoldable pub steps_reply : List ℕ → ℕ → Reply
steps_reply s room = unless (query_code s) (write_reply (fused_form (query_reading s)) room)
