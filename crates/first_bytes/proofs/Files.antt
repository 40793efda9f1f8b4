-- A FILE OF ANY LENGTH IS ANSWERED AS ITS FIRST BYTES ARE: what a program may read at most. Assumes nothing.
use Prim.Native.Nat.{ℕ, ◌≤◌}
use mathlib.Core.Path.{◌≡◌, refl, ap}
use mathlib.Core.Bool.{Bool, true, false}
use mathlib.Core.List.{List}
use native.Mathlib.Omega.{arith}
use borrow.Author.Tests.{leb-true, leb-false, ne_eqb}
use lib.Dec.{leb}
use lib.ListN.{length, take, length-take}
use lib.Seq.{get_or-take, take_all}
use Rattle.engine.specs.declared.Limit.{Limit}
use Rattle.engine.specs.Run.{run_reply}
use Rattle.fusion.specs.Fusion.{fuse_reply}
use Rattle.graph.specs.Graph.{graph_code}
use Rattle.plan.specs.Plan.{plan_code}
use Rattle.query.specs.Query.{query_code}
use Rattle.progress.specs.Progress.{Scan}
use Rattle.wire.specs.Wire.{Reply, unless}
use Rattle.first_bytes.proofs.Graph as graph
use Rattle.first_bytes.proofs.Query as query

-- two refusals by the same number
refused_both : (k l : ℕ) (x y : Reply) → k ≡ l → (l ≡ 0 → ⊥) → unless k x ≡ unless l y
refused_both k l x y e n = rw (e, ne_eqb l 0 n) refl

-- a question by 2,439 bytes or more
pub long_query : (s : List ℕ) (k room : ℕ) → 2439 ≤ k → fuse_reply (take k s) room ≡ fuse_reply s room
unfolding fuse_reply
long_query s k room h = go (leb (length s) k) refl
  where
    go : (b : Bool) → leb (length s) k ≡ b → fuse_reply (take k s) room ≡ fuse_reply s room
    go true e = ap (λ (u : List ℕ). fuse_reply u room) (take_all k s (leb-true (length s) k e))
    go false e =
        let l = leb-false (length s) k e in
        let r = query.scan_same s (take k s)
        (record { bytes = λ i d b. get_or-take k s i d (omega arith); long = omega arith; longer = omega (arith, length-take k s) }) in
        refused_both (query_code (take k s)) (query_code s) _ _ (ap (λ (w : Scan). w.code) r.0) r.1

-- a map by 8,202 bytes or more
pub long_graph : (limit : Limit) (w s : List ℕ) (k room : ℕ) → 8202 ≤ k → run_reply limit w (take k s) room ≡ run_reply limit w s room
unfolding run_reply
long_graph limit w s k room h = go (leb (length s) k) refl
  where
    go : (b : Bool) → leb (length s) k ≡ b → run_reply limit w (take k s) room ≡ run_reply limit w s room
    go true e = ap (λ (u : List ℕ). run_reply limit w u room) (take_all k s (leb-true (length s) k e))
    go false e =
        let l = leb-false (length s) k e in
        let r = graph.code_same s (take k s)
        (record { bytes = λ i b. get_or-take k s i 0 (omega arith); long = omega arith; longer = omega (arith, length-take k s) }) in
        ap (unless (plan_code w)) (refused_both (graph_code (take k s)) (graph_code s) _ _ r.0 r.1)
