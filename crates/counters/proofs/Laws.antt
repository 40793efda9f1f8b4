-- What one more run does to the counters. Assumes nothing.
use Prim.Native.Nat.{◌+◌}
use mathlib.Core.Path.{◌≡◌, refl}
use mathlib.Core.Logic.{◌⊎◌, inl, inr}
use mathlib.Core.Bool.{Bool, true, false, cond}
use native.Mathlib.Omega.{arith}
use borrow.Author.Tests.{eq-eqb, ne_eqb}
use lib.Dec.{eqb}
use Rattle.counters.specs.Counted.{counted_by, most, one_more}
use Rattle.counters.specs.declared.Counters.{Counters}

module _ (c : Counters) (done : Bool) where
  -- asked is at its greatest: the counters stay
  pub asked_full : c.asked ≡ most → counted_by c done ≡ c
  unfolding counted_by
  asked_full e = rw (eq-eqb _ _ e)

  -- answered is
  pub answered_full : c.answered ≡ most → counted_by c done ≡ c
  unfolding counted_by
  answered_full e = rw (eq-eqb _ _ e) (go (eqb c.asked most))
    where
      go : (t : Bool) → cond t c c ≡ c
      go true = refl
      go false = refl

  -- refused is
  pub refused_full : c.refused ≡ most → counted_by c done ≡ c
  unfolding counted_by
  refused_full e = rw (eq-eqb _ _ e) (go (eqb c.asked most) (eqb c.answered most))
    where
      go : (t u : Bool) → cond t c (cond u c c) ≡ c
      go true u = refl
      go false true = refl
      go false false = refl

  -- NONE CHANGES WHERE ANY IS AT ITS GREATEST
  pub none_changes : (c.asked ≡ most) ⊎ ((c.answered ≡ most) ⊎ (c.refused ≡ most)) → counted_by c done ≡ c
  none_changes (inl e) = asked_full e
  none_changes (inr (inl e)) = answered_full e
  none_changes (inr (inr e)) = refused_full e

  -- AND ELSE ONE MORE IS ASKED FOR, and one more is answered or refused
  pub one_counted : (c.asked ≡ most → ⊥) → (c.answered ≡ most → ⊥) → (c.refused ≡ most → ⊥) → counted_by c done ≡ one_more c done
  unfolding counted_by
  one_counted a b r = rw (ne_eqb _ _ a, ne_eqb _ _ b, ne_eqb _ _ r)

-- what was asked for was answered or refused
abbrev Sums : Counters → Type 0
Sums c = c.asked ≡ c.answered + c.refused

-- COUNTING KEEPS THAT
pub sums_kept : (c : Counters) (done : Bool) → Sums c → Sums (counted_by c done)
unfolding counted_by
sums_kept c done e = go (eqb c.asked most) (eqb c.answered most) (eqb c.refused most) done
  where
    go : (t u v d : Bool) → Sums (cond t c (cond u c (cond v c (one_more c d))))
    go true u v d = e
    go false true v d = e
    go false false true d = e
    go false false false true = omega (arith, e)
    go false false false false = omega (arith, e)
