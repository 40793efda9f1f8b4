-- What the loops cite: keys and starts one by one. Assumes nothing.
use Prim.Native.Nat.{ℕ, zero, suc, ◌+◌, ◌-◌, ◌*◌, ◌≤◌, ◌<◌}
use mathlib.Core.Path.{◌≡◌, refl, ap, ◌∙◌}
use mathlib.Core.List.{List}
use native.Mathlib.Omega.{arith}
use lib.Dec.{eqb}
use lib.ListN.{get_or}
use Rattle.std.proofs.lemmas.Grind.{common_steps}
use Rattle.wire.specs.Header.{then}
use Rattle.fields.specs.Fields.{key_code}
use Rattle.packed_path.specs.Packed.{with_first}
use Rattle.path_fields.specs.Paths.{keys_code, sources_at, start_code, starts_code}

-- of n keys the one behind the first i, and those after it
pub keys_next : (n i : ℕ) (s : List ℕ) (at : ℕ) → i < n
    → keys_code (n - i) s (at + i)
    ≡ then (key_code (get_or s (at + i) 256) (eqb (i + 1) n)) (keys_code (n - (i + 1)) s (at + (i + 1)))
unfolding keys_code
keys_next n i s at h =
    let e : n - i ≡ suc (n - (i + 1)) = omega arith in
    let f : at + i + 1 ≡ at + (i + 1) = omega arith in
    let last : eqb (n - (i + 1)) 0 ≡ eqb (i + 1) n = grind (arith, common_steps) in
    rw (e, f, last) refl

-- of k starts the one behind the first i, and those after it
pub starts_next : (k i least : ℕ) (s : List ℕ) (at : ℕ) → i < k
    → starts_code (k - i) least s (at + 2 * i)
    ≡ then (start_code least (get_or s (at + 2 * i) 256) (get_or s (at + 2 * i + 1) 256))
    (starts_code (k - (i + 1)) (get_or s (at + 2 * i) 256 + 1) s (at + 2 * (i + 1)))
unfolding starts_code
starts_next k i least s at h =
    let e : k - i ≡ suc (k - (i + 1)) = omega arith in
    let f : at + 2 * i + 2 ≡ at + 2 * (i + 1) = omega arith in
    rw (e, f) refl

-- of k starts from byte i on, one more of the last ones: the one before them first
pub sources_next : (keys k : ℕ) (s : List ℕ) (i left : ℕ) → 0 < left → left ≤ k
    → with_first (get_or s (i + 2 * (left - 1)) 0) (sources_at keys (k - left) s (i + 2 * left)) ≡ sources_at keys (k - (left - 1)) s (i + 2 * (left - 1))
unfolding sources_at
sources_next keys k s i left h l =
    let after : i + 2 * left ≡ i + 2 * (left - 1) + 2 = omega arith in
    let more : suc (k - left) ≡ k - (left - 1) = omega arith in
    ap (λ (j : ℕ). with_first (get_or s (i + 2 * (left - 1)) 0) (sources_at keys (k - left) s j)) after
    ∙ ap (λ (m : ℕ). sources_at keys m s (i + 2 * (left - 1))) more

-- k starts are k sources
pub sources_count : (keys k : ℕ) (s : List ℕ) (i : ℕ) → (sources_at keys k s i).count ≡ k
unfolding sources_at with_first
sources_count keys zero s i = refl
sources_count keys (suc k) s i = let e = sources_count keys k s (i + 2) in ap (λ (n : ℕ). n + 1) e ∙ (let f : k + 1 ≡ suc k = omega arith in f)
