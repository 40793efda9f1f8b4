use Prim.Native.Nat.{ℕ, zero, suc, ◌+◌, ◌-◌, ◌/◌, ◌≤◌, ◌<◌}
use mathlib.Core.Path.{◌≡◌, refl, sym, ap, ◌∙◌}
use mathlib.Core.List.{List, ◌∷◌}
use native.Mathlib.Omega.{arith}
use lib.ListN.{length, take}
use Rattle.packed_path.specs.declared.PackedPath.{PackedPath}
use Rattle.packed_path.specs.Packed.{bytes_of, sources_of}
use Rattle.packed_path.specs.Steps.{first_of, rest_of}
use Rattle.packed_path.proofs.Sources.{sources_first}
use Rattle.term_text.specs.Text.{starts_bytes}
use Rattle.wire.specs.Wire.{le16}
use Rattle.draft.specs.Steps.{Draft, draft, put_list}
use Rattle.draft.proofs.Texts.{take_least}
use Rattle.nodes.proofs.put_set.Goals as goal

-- as many sources as are counted
bytes_length : (k x : ℕ) → length (bytes_of k x) ≡ k
bytes_length zero x = refl
bytes_length (suc k) x = ap suc (bytes_length k (x / 256))

sources_length : (p : PackedPath) → length (sources_of p) ≡ p.count
unfolding sources_of
sources_length p = bytes_length p.count _

-- the first of k sources is put, and the others are left
put_next : (d : Draft) (p : PackedPath) (k : ℕ) → 0 < k → k ≤ p.count
    → put_list d (starts_bytes (take k (sources_of p))) ≡ put_list (put_list d (le16 (first_of p))) (starts_bytes (take (k - 1) (sources_of (rest_of p))))
unfolding put_list
put_next d p k h l =
    let e : k ≡ suc (k - 1) = omega arith in
    ap (put_list d)
    (ap (λ (s : List ℕ). starts_bytes (take k s)) (sources_first p (omega arith))
    ∙ ap (λ (n : ℕ). starts_bytes (take n (first_of p ∷ sources_of (rest_of p)))) e)

pub loop-preserved : goal.loop-preserved
unfolding rest_of
loop-preserved c =
    let l = c.loop in
    let left = c.min-end.result - l.counter in
    let more : 0 < left = omega arith in
    let less : c.min-end.result - (l.counter + 1) ≡ left - 1 = omega arith in (
      rw c.rest-rest.ensures (omega arith),
      rw (c.rest-rest.ensures, c.put16-next.ensures, c.first.ensures.0, less)
          (sym (put_next (draft l.d l.next) l.rest left more l.invariant.0) ∙ l.invariant.1),
    )

-- when none is left, the first 16 have been put
pub returns : goal.returns
unfolding put_list
returns c =
    let l = c.loop in
    let p = c.args.p in
    let none : c.min-end.result - l.counter ≡ 0 = omega arith in
    let first = take_least 16 c.min-end.result (sources_of p) (omega (arith, sources_length p)) in
    (rw none at l.invariant.1) ∙ rw (first, c.put-next.ensures) refl
