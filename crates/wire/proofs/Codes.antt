-- Refusals: their numbers, and in turn (`then`): which number comes first, and when there is none. Assumes nothing.
use Prim.Native.Nat.{ℕ, suc}
use mathlib.Core.Path.{◌≡◌, refl}
use mathlib.Core.Bool.{Bool, true, false, cond}
use native.Mathlib.Omega.{arith}
use borrow.Author.Tests.{eqb-true, eqb-false, eq-eqb, ne_eqb}
use lib.Dec.{eqb}
use Rattle.wire.specs.Header.{then}
use Rattle.wire.specs.Refusal.{number}
use Rattle.wire.specs.declared.Refusal.{Refusal}
use Rattle.wire.specs.declared.Refusal.TheVariants.{Short, Mark, Version, Vertices, Edges, Length, NoVertex, Capacity, Code, KeyOrder, Deep, Terms}
use Rattle.wire.specs.declared.Refusal.TheVariants.{Source, Full, Room, NoRow, SourceOrder}

-- where the first judgement refuses nothing the second counts; else the first
pub then_none : (a b : ℕ) → a ≡ 0 → then a b ≡ b
then_none a b e = rw (eq-eqb a 0 e)

pub then_some : (a b : ℕ) → (a ≡ 0 → ⊥) → then a b ≡ a
then_some a b n = rw (ne_eqb a 0 n)

-- nothing is refused exactly where neither refuses
pub then_zero : (a b : ℕ) → a ≡ 0 → b ≡ 0 → then a b ≡ 0
then_zero a b p q = rw (eq-eqb a 0 p) q

pub then_both : (a b : ℕ) → then a b ≡ 0 → (a ≡ 0) × (b ≡ 0)
then_both a b e = go (eqb a 0) refl e
  where
    go : (t : Bool) → eqb a 0 ≡ t → cond t b a ≡ 0 → (a ≡ 0) × (b ≡ 0)
    go true p z = (eqb-true a 0 p, z)
    go false p z = absurd (eqb-false a 0 p z)

-- the second matters only where the first refuses nothing
pub then_same : (a b c : ℕ) → (a ≡ 0 → b ≡ c) → then a b ≡ then a c
then_same a b c h = go (eqb a 0) refl
  where
    go : (t : Bool) → eqb a 0 ≡ t → ◌≡◌ {A = ℕ} (cond t b a) (cond t c a)
    go true p = h (eqb-true a 0 p)
    go false p = refl

-- nothing is refused: a test that refuses did not hold; one that has to hold held
pub past : (t : Bool) (k x : ℕ) → cond t (suc k) x ≡ 0 → (t ≡ false) × (x ≡ 0)
past true k x e = absurd (let z : suc k ≡ 0 = e in omega arith)
past false k x e = (refl, e)

pub held : (t : Bool) (k x : ℕ) → cond t x (suc k) ≡ 0 → (t ≡ true) × (x ≡ 0)
held true k x e = (refl, e)
held false k x e = absurd (let z : suc k ≡ 0 = e in omega arith)

-- no refusal has the number 0
pub number_some : (e : Refusal) → number e ≡ 0 → ⊥
number_some e z = grind arith
