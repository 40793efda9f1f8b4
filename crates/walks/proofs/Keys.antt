-- What is used of the table of keys, each a test computed over the whole table or a law by cases of the measures: an extension keeps the order of values,
-- and strictly where the key may stand before the last; none betters a value, but for the least bottleneck. Assumes nothing.
use Prim.Native.Nat.{ℕ, zero, suc, ◌-◌, ◌≤◌, ◌<◌}
use mathlib.Core.Path.{◌≡◌, refl, ap}
use mathlib.Core.Logic.{◌⊎◌, inl, inr}
use mathlib.Core.Bool.{Bool, true, false, not, ◌&&◌, ◌||◌}
use mathlib.Core.List.{List, [], ◌∷◌}
use native.Mathlib.Omega.{arith}
use native.Mathlib.Nat.{not-suc-le-zero}
use native.Mathlib.Decide.{ℕ_discrete}
use borrow.Author.Tests.{leb-true, leb-false}
use lib.Dec.{T}
use lib.ListN.{get_or}
use Rattle.walks.specs.declared.Extreme.{Extreme}
use Rattle.walks.specs.declared.Extreme.TheVariants.{Greatest, Least}
use Rattle.walks.specs.declared.KeyRow.{KeyRow}
use Rattle.walks.specs.declared.Measure.{Measure}
use Rattle.walks.specs.declared.Measure.TheVariants.{Bottleneck, Edges, Source, Weight}
use Rattle.walks.specs.Keys.{Good, early, good?, kept, measure, no_key, key_row, table}
use Rattle.walks.specs.Walks.{Edge, extend}
use Rattle.walks.proofs.Tests.{and_left, and_right}

-- the rows by index, as the program reads them
pub row_none : no_key ≡ key_row 0
unfolding key_row
row_none = refl

pub row_at : (k : ℕ) → 1 ≤ k → get_or table (k - 1) no_key ≡ key_row k
unfolding key_row
row_at zero h = absurd (not-suc-le-zero h)
row_at (suc k) h = ap (λ (j : ℕ). get_or table j no_key) (let e : suc k - 1 ≡ k = omega arith in e)

-- a test that every row of the table passes, and no_key, is passed by the row of every number
abbrev every : (KeyRow → Bool) → List KeyRow → Bool
every f [] = true
every f (r ∷ rs) = f r && every f rs

every_at : (f : KeyRow → Bool) (rs : List KeyRow) → T (f no_key) → T (every f rs) → (k : ℕ) → T (f (get_or rs k no_key))
every_at f [] d t k = d
every_at f (r ∷ rs) d t zero = and_left (f r) (every f rs) t
every_at f (r ∷ rs) d t (suc k) = every_at f rs d (and_right (f r) (every f rs) t) k

each_row : (f : KeyRow → Bool) → T (f no_key) → T (every f table) → (k : ℕ) → T (f (key_row k))
unfolding key_row
each_row f d t zero = d
each_row f d t (suc k) = every_at f table d t k

-- x is better than y
abbrev pub Better : Extreme → ℕ → ℕ → Type 0
Better Least x y = x < y
Better Greatest x y = y < x

-- `Good` is an order, and `Better` its strict part
pub good_refl : (d : Extreme) (x : ℕ) → Good d x x
good_refl Least x = omega arith
good_refl Greatest x = omega arith

pub good_trans : (d : Extreme) (x y z : ℕ) → Good d x y → Good d y z → Good d x z
good_trans Least x y z p q = omega arith
good_trans Greatest x y z p q = omega arith

pub good_anti : (d : Extreme) (x y : ℕ) → Good d x y → Good d y x → x ≡ y
good_anti Least x y p q = omega arith
good_anti Greatest x y p q = omega arith

pub good_of_eq : (d : Extreme) (x y : ℕ) → x ≡ y → Good d x y
good_of_eq Least x y p = omega arith
good_of_eq Greatest x y p = omega arith

pub good_of_better : (d : Extreme) (x y : ℕ) → Better d x y → Good d x y
good_of_better Least x y p = omega arith
good_of_better Greatest x y p = omega arith

pub better_not_good : (d : Extreme) (x y : ℕ) → Better d x y → Good d y x → ⊥
better_not_good Least x y p q = omega arith
better_not_good Greatest x y p q = omega arith

pub better_trans : (d : Extreme) (x y z : ℕ) → Better d x y → Better d y z → Better d x z
better_trans Least x y z p q = omega arith
better_trans Greatest x y z p q = omega arith

by_equal : (d : Extreme) (x y : ℕ) → Good d x y → Dec (x ≡ y) → Better d x y ⊎ (x ≡ y)
by_equal d x y p (yes e) = inr e
by_equal Least x y p (no e) = inl (omega arith)
by_equal Greatest x y p (no e) = inl (omega arith)

pub better_or_equal : (d : Extreme) (x y : ℕ) → Good d x y → Better d x y ⊎ (x ≡ y)
better_or_equal d x y p = by_equal d x y p (ℕ_discrete x y)

-- the test `good?` decides it
pub good?_true : (d : Extreme) (x y : ℕ) → good? d x y ≡ true → Good d x y
good?_true Least x y e = leb-true x y e
good?_true Greatest x y e = leb-true y x e

pub good?_false : (d : Extreme) (x y : ℕ) → good? d x y ≡ false → Better d y x
good?_false Least x y e = leb-false x y e
good?_false Greatest x y e = leb-false y x e

-- every measure: an extension keeps the order
pub extend_good : (d : Extreme) (m : Measure) (e : Edge) (x y : ℕ) → Good d x y → Good d (extend m e x) (extend m e y)
extend_good Least Edges e x y p = omega arith
extend_good Least Weight e x y p = omega arith
extend_good Least Source e x y p = p
extend_good Least Bottleneck e x y p = omega arith
extend_good Greatest Edges e x y p = omega arith
extend_good Greatest Weight e x y p = omega arith
extend_good Greatest Source e x y p = p
extend_good Greatest Bottleneck e x y p = omega arith

-- every measure but the bottleneck: strictly; and so every key that may stand before the last
abbrev strict : Measure → Bool
strict Edges = true
strict Weight = true
strict Source = true
strict Bottleneck = false

strict_better : (d : Extreme) (m : Measure) → T (strict m) → (e : Edge) (x y : ℕ) → Better d x y → Better d (extend m e x) (extend m e y)
strict_better Least Edges t e x y p = omega arith
strict_better Least Weight t e x y p = omega arith
strict_better Least Source t e x y p = p
strict_better Least Bottleneck t e x y p = absurd t
strict_better Greatest Edges t e x y p = omega arith
strict_better Greatest Weight t e x y p = omega arith
strict_better Greatest Source t e x y p = p
strict_better Greatest Bottleneck t e x y p = absurd t

implies : (a b : Bool) → T (not a || b) → T a → T b
implies true b t u = t
implies false b t u = absurd u

pub extend_better : (k : ℕ) (e : Edge) → T (early k) → (x y : ℕ) → Better (kept k) x y
    → Better (kept k) (extend (measure k) e x) (extend (measure k) e y)
extend_better k e t =
    strict_better (kept k) (measure k) (implies (early k) (strict (measure k)) (each_row (λ r. not r.early || strict r.measure) tt tt k) t) e

-- the measures, with what is kept, that no extension betters
abbrev pub worsening : Measure → Extreme → Bool
worsening Edges Least = true
worsening Edges Greatest = false
worsening Weight Least = true
worsening Weight Greatest = false
worsening Source d = true
worsening Bottleneck Least = false
worsening Bottleneck Greatest = true

-- an extension makes such a value no better
pub extend_worse : (m : Measure) (d : Extreme) → T (worsening m d) → (e : Edge) (x : ℕ) → Good d x (extend m e x)
extend_worse Edges Least t e x = omega arith
extend_worse Edges Greatest t e x = absurd t
extend_worse Weight Least t e x = omega arith
extend_worse Weight Greatest t e x = absurd t
extend_worse Source d t e x = good_refl d x
extend_worse Bottleneck Least t e x = absurd t
extend_worse Bottleneck Greatest t e x = omega arith

-- the least bottleneck, which an extension may better
abbrev narrowest : Measure → Extreme → Bool
narrowest Edges d = false
narrowest Weight d = false
narrowest Source d = false
narrowest Bottleneck Least = true
narrowest Bottleneck Greatest = false

by_kind : (F : Measure → Extreme → Type 0) → ((m : Measure) (d : Extreme) → T (worsening m d) → F m d) → F Bottleneck Least
    → (m : Measure) (d : Extreme) → T (worsening m d || narrowest m d) → F m d
by_kind F f n Edges Least t = f Edges Least tt
by_kind F f n Edges Greatest t = absurd t
by_kind F f n Weight Least t = f Weight Least tt
by_kind F f n Weight Greatest t = absurd t
by_kind F f n Source d t = f Source d tt
by_kind F f n Bottleneck Least t = n
by_kind F f n Bottleneck Greatest t = f Bottleneck Greatest tt

-- what holds of every measure that no extension betters, and of the least bottleneck, holds of every key
pub each_key : (F : Measure → Extreme → Type 0) → ((m : Measure) (d : Extreme) → T (worsening m d) → F m d) → F Bottleneck Least → (k : ℕ)
    → F (measure k) (kept k)
each_key F f n k = by_kind F f n (measure k) (kept k) (each_row (λ r. worsening r.measure r.kept || narrowest r.measure r.kept) tt tt k)
