-- Plans in their typed form, and what reading and writing them says (document 01: worksheet `LPW`).
use Rattle.std.specs.Prelude.{ℕ, ◌+◌, Bool, cond, List, [], ◌∷◌, ◌++◌, map, Result, Ok, Err, leb, eqb, length, drop, take}
use Rattle.std.specs.List.{list_any}
use Rattle.std.proofs.Math.Option.{Option, none, some}
use Rattle.meaning.specs.Limits.{plan_terms}
use Rattle.meaning.specs.Plan.{Body, Plan, Term, VertexReduction, each_vertex, one_result}
use Rattle.nodes.specs.declared.Term.{Term as Node}
use Rattle.nodes.specs.declared.Term.TheVariants.{Entry}
use Rattle.draft.specs.Texts.{texts}
use Rattle.nodes.specs.Text.{nodes_text, set_text, start_text}
use Rattle.nodes.specs.Nodes.{padded}
use Rattle.nodes.specs.Tree.{entry_nodes, final_nodes}
use Rattle.plan.specs.Plan.{plan_code, plan_scan}
use Rattle.plan.specs.Text.{entry_count, kind_of, reduction_byte}
use Rattle.plan.specs.Tree.{plan_of}
use Rattle.packed_path.specs.declared.PackedPath.{PackedPath}
use Rattle.packed_path.specs.Packed.{packed}
use Rattle.wire.specs.Header.{header_bytes}
use Rattle.wire.specs.Wire.{Reply, fitted, le32, unless}
use Rattle.plan_form.specs.declared.Form.{Form}

-- the nodes of a condition where there is one: "the condition's expression precedes the value's"
abbrev pub condition_nodes : Option (Term ℕ) → List Node
condition_nodes none = []
condition_nodes (some c) = entry_nodes c

-- and of entries: "e entries, each a reduction byte and an expression"
abbrev pub entries_nodes : List (VertexReduction ℕ) → List Node
entries_nodes [] = []
entries_nodes (e ∷ es) =
    Entry (reduction_byte e.reduction e.condition) ∷ (condition_nodes e.condition ++ (entry_nodes e.body ++ entries_nodes es))

-- and of a plan: "for kind 1 a final expression"; "Kind 0 has e = 1 and reduction byte 0"
abbrev pub body_nodes : Body → List Node
body_nodes (each_vertex t) = Entry 0 ∷ entry_nodes t
body_nodes (one_result es t) = entries_nodes es ++ final_nodes t

-- THE TYPED FORM OF A PLAN; behind its path reductions the table may hold anything, `rest`
unfoldable pub form_of : Plan → (rest : List PackedPath) → Form
form_of p rest = record {
  version = p.version;
  kind = kind_of p.body;
  paths = length p.paths;
  table = map packed p.paths ++ rest;
  entries = entry_count p.body;
  count = plan_terms p.body + entry_count p.body;
  nodes = padded (body_nodes p.body);
}

-- a path reduction in a plan of a version, from its numbers: "key count, three key bytes with unused ones 0", then one start, or "a set count (0 for anywhere)
-- and its starts after its key bytes" (document 02, b)
unfoldable pub listed_text : ℕ → PackedPath → List ℕ
listed_text version p = le32 p.keys ++ cond (eqb version 1) (start_text p) (set_text p)

-- "c chains"
abbrev pub all_listed_text : ℕ → List PackedPath → List ℕ
all_listed_text version = texts (listed_text version)

-- has any of them two sources or more?
abbrev pub any_set : List PackedPath → Bool
any_set = list_any (λ p. leb 2 p.count)

-- "What that version has no bytes for is refused 3, where a reader judges the version." (document 02, b): version 1 has none for a set of two or more
abbrev pub held_code : ℕ → List PackedPath → ℕ
held_code version ps = cond (eqb version 1) (cond (any_set ps) 3 0) 0

-- THE BYTES OF A TYPED FORM, legal or not: "kind byte; chain count c (0 to 8) and c chains ..; entry count e; e entries ..; .. a final expression"
unfoldable pub form_bytes : Form → List ℕ
form_bytes f =
    header_bytes 0x57 f.version
    ++ (f.kind ∷ f.paths ∷ (all_listed_text f.version (take f.paths f.table) ++ (f.entries ∷ nodes_text (take f.count f.nodes))))

-- "A writer judges what it is handed as the reader of its bytes would, then 15"; it "keeps the version it is handed" (document 02, b)
unfoldable pub write_reply : Form → ℕ → Reply
write_reply f room =
    unless (held_code f.version (take f.paths f.table)) (unless (plan_code (form_bytes f)) (fitted (form_bytes f) room))

-- THE READING OF ACCEPTED BYTES: the typed form of the plan that they write; behind its path reductions the table holds what the scan leaves there
unfoldable pub plan_reading : List ℕ → Form
plan_reading s = let w = plan_scan s in form_of (plan_of s) (drop w.paths w.table)

-- THE READING OF ANY BYTES: that of accepted ones, or the number of the refusal
unfoldable pub plan_judged : List ℕ → Result Form ℕ
plan_judged s = cond (eqb (plan_code s) 0) (Ok (plan_reading s)) (Err (plan_code s))
