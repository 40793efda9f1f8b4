-- THE PLAN THAT ACCEPTED BYTES WRITE: of every legal plan's encoding it is the plan (`plan_back`, proofs/Tree).
use Rattle.std.specs.Prelude.{ℕ, ◌+◌, ◌-◌, ◌*◌, true, false, List, leb, eqb, get_or, take, drop}
use Rattle.std.proofs.Math.Option.{none, some}
use Rattle.meaning.specs.Plan.{Body, Plan, VertexReduction, each_vertex, one_result}
use Rattle.meaning.specs.Query.{PathReduction}
use Rattle.term_text.specs.Tree.{Reader, expression_of, one_start, several_of, starts_of}
use Rattle.wire.specs.Wire.{at16}

-- "key count, three key bytes with unused ones 0, 16-bit start" in version 1; in version 2 "a set count (0 for anywhere) and its starts after its key bytes"
-- (document 02, b)
unfoldable pub listed_path : ℕ → Reader PathReduction
listed_path version s i =
    let keys = take (get_or s i 0) (drop (i + 1) s) in
    let k = get_or s (i + 4) 0 in
    elim (eqb version 1) [
      | true ↦ record { tree = record { keys = keys; sources = one_start (at16 s (i + 4)) }; end = i + 6 }
      | false ↦ record { tree = record { keys = keys; sources = starts_of k s (i + 5) }; end = i + 5 + 2 * k }
    ]

-- "a reduction byte and an expression"; with 128 added "the condition's expression precedes the value's" (document 02, a)
unfoldable pub entry_of : Reader (VertexReduction ℕ)
entry_of s i =
    let t = expression_of 0x11 s (i + 1) in
    elim (leb 128 (get_or s i 0)) [
      | true ↦
          let u = expression_of 0x11 s t.end in
          record { tree = record { reduction = get_or s i 0 - 128; condition = some t.tree; body = u.tree }; end = u.end }
      | false ↦ record { tree = record { reduction = get_or s i 0; condition = none; body = t.tree }; end = t.end }
    ]

-- "entry count e; e entries ..; for kind 1 a final expression"; "Kind 0 has e = 1 and reduction byte 0"
unfoldable pub body_of : (kind : ℕ) → List ℕ → ℕ → Body
body_of kind s i =
    elim (eqb kind 0) [
      | true ↦ each_vertex (expression_of 0x11 s (i + 2)).tree
      | false ↦ let es = several_of entry_of (get_or s i 0) s (i + 1) in one_result es.tree (expression_of 0x21 s es.end).tree
    ]

-- "kind byte; chain count c (0 to 8) and c chains", behind the five bytes of the header
unfoldable pub plan_of : List ℕ → Plan
plan_of s =
    let version = get_or s 3 0 in
    let cs = several_of (listed_path version) (get_or s 6 0) s 7 in
    record { version = version; paths = cs.tree; body = body_of (get_or s 5 0) s cs.end }
