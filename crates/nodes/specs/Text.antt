-- The bytes of terms (document 01, "Layouts").
use Rattle.std.specs.Prelude.{ℕ, ◌/◌, ◌%◌, cond, List, [], ◌∷◌, ◌++◌, ltb, eqb, take}
use Rattle.packed_path.specs.declared.PackedPath.{PackedPath}
use Rattle.packed_path.specs.Packed.{sources_of}
use Rattle.term_text.specs.Text.{starts_bytes}
use Rattle.draft.specs.Texts.{texts}
use Rattle.wire.specs.Wire.{le16, le32}
use Rattle.nodes.specs.declared.Term.{Term}
use Rattle.nodes.specs.declared.Term.TheVariants.{Empty, Path, PathSet, Literal, Apply, Reduce, ReduceWhere, ResultLiteral, ResultApply, PathIndex}
use Rattle.nodes.specs.declared.Term.TheVariants.{EntryIndex, Entry}

-- key byte j of a path reduction of n keys
abbrev pub key_text : ℕ → ℕ → ℕ → List ℕ
key_text n j b = cond (ltb j n) (b ∷ []) []

-- "key count 1 to 3, the keys", from the number of the keys: as many as the count says
unfoldable pub keys_text : ℕ → List ℕ
keys_text w =
    w % 256
    ∷ (key_text (w % 256) 0 (w / 256 % 256) ++ (key_text (w % 256) 1 (w / 65536 % 256) ++ key_text (w % 256) 2 (w / 16777216 % 256)))

-- "a 16-bit start (0 to 255, or 65,535 for anywhere)". It has no bytes for a set of two or more: 256 is written, which a reader refuses by 13
unfoldable pub start_field : PackedPath → ℕ
start_field p = cond (eqb p.count 0) 65535 (cond (eqb p.count 1) p.low 256)

abbrev pub start_text : PackedPath → List ℕ
start_text p = le16 (start_field p)

-- "a set count 1 to 16, the 16-bit starts" (document 02, b). A count above 16 is refused at its byte, by 9: no more starts are written
abbrev pub set_text : PackedPath → List ℕ
set_text p = p.count ∷ starts_bytes (take 16 (sources_of p))

-- "key count 1 to 3, the keys, a 16-bit start"
abbrev pub path_text : PackedPath → List ℕ
path_text p = keys_text p.keys ++ start_text p

-- "key count, keys, a set count 1 to 16, the 16-bit starts" (document 02, b)
abbrev pub path_set_text : PackedPath → List ℕ
path_set_text p = keys_text p.keys ++ set_text p

-- the bytes of a term without those that it contains: "0x10, key count 1 to 3, the keys, a 16-bit start ..; 0x11 and a 32-bit literal; 0x12, operator, ..",
-- "0x20, reduction, ..; 0x21 and a 32-bit literal; 0x22, operator, ..", 0x23 as 0x20; 0x13: "a chain whose start is a set" (document 02, b); "0x30 and a
-- chain's index for a chain, 0x31 and an entry's index for a reduction"; "e entries, each a reduction byte and an expression"; an empty term is a byte that no
-- term starts with
unfoldable pub term_text : Term → List ℕ
term_text Empty = 0 ∷ []
term_text (Path p) = 0x10 ∷ path_text p
term_text (PathSet p) = 0x13 ∷ path_set_text p
term_text (Literal k) = 0x11 ∷ le32 k
term_text (Apply o) = 0x12 ∷ o ∷ []
term_text (Reduce o) = 0x20 ∷ o ∷ []
term_text (ReduceWhere o) = 0x23 ∷ o ∷ []
term_text (ResultLiteral k) = 0x21 ∷ le32 k
term_text (ResultApply o) = 0x22 ∷ o ∷ []
term_text (PathIndex i) = 0x30 ∷ i ∷ []
term_text (EntryIndex i) = 0x31 ∷ i ∷ []
term_text (Entry r) = r ∷ []

-- "written operator first"
abbrev pub nodes_text : List Term → List ℕ
nodes_text = texts term_text
