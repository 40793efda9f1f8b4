-- FUSING, BYTES TO BYTES (document 01: `fuse`).
use Rattle.std.specs.Prelude.{ℕ, List}
use Rattle.meaning.specs.Plan.{fuse}
use Rattle.plan.specs.Text.{encode}
use Rattle.query.specs.Query.{query_code}
use Rattle.query.specs.Tree.{query_of}
use Rattle.wire.specs.Wire.{Reply, fitted, unless}

-- "Fusing judges the question, then 15": a refusal of the query by its number; else the bytes of the plan that it is fused to, where they fit
unfoldable pub fuse_reply : List ℕ → ℕ → Reply
fuse_reply s room = unless (query_code s) (fitted (encode (fuse (query_of s))) room)
