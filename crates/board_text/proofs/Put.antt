-- Path reductions put together over several texts: those of one text, put together, add to a list what they add as written. Assumes nothing.
use Prim.Native.Nat.{◌≤◌}
use mathlib.Core.Path.{◌≡◌, refl, sym, ap, ◌∙◌}
use mathlib.Core.Bool.{Bool, true, false, cond}
use mathlib.Core.List.{List, [], ◌∷◌, ◌++◌}
use native.Mathlib.Omega.{arith}
use lib.Dec.{T}
use lib.ListN.{length, length-append}
use Rattle.meaning.specs.Plan.{among, put, put_all}
use Rattle.meaning.specs.Query.{PathReduction}
use Rattle.meaning.proofs.Paths.{all_among, put_all_append, put_all_has}
use Rattle.walks.proofs.Tests.{T_of}

-- a list grows
put_longer : (cs : List PathReduction) (c : PathReduction) → length cs ≤ length (put cs c)
put_longer cs c = go (among c cs)
  where
    go : (b : Bool) → length cs ≤ length (cond b cs (cs ++ (c ∷ [])))
    go true = omega arith
    go false = omega (arith, length-append cs (c ∷ []))

pub put_all_longer : (cs ds : List PathReduction) → length cs ≤ length (put_all cs ds)
put_all_longer cs [] = omega arith
put_all_longer cs (d ∷ ds) = omega (arith, put_longer cs d, put_all_longer (put cs d) ds)

-- one that stands there already adds nothing
put_there : (cs : List PathReduction) (c : PathReduction) → T (among c cs) → put cs c ≡ cs
put_there cs c t = go (among c cs) t
  where
    go : (b : Bool) → T b → cond b cs (cs ++ (c ∷ [])) ≡ cs
    go true t = refl
    go false t = absurd t

-- one more at the end of what is put
put_last : (cs ds : List PathReduction) (c : PathReduction) → put_all cs (put ds c) ≡ put (put_all cs ds) c
put_last cs ds c = go (among c ds) refl
  where
    there : T (among c ds) → T (among c (put_all cs ds))
    there t = all_among (λ d. T (among d (put_all cs ds))) c ds (put_all_has cs ds) t

    go : (b : Bool) → among c ds ≡ b → put_all cs (cond b ds (ds ++ (c ∷ []))) ≡ put (put_all cs ds) c
    go true e = sym (put_there (put_all cs ds) c (there (T_of e)))
    go false e = put_all_append cs ds (c ∷ [])

again : (cs ds es : List PathReduction) → put_all cs (put_all ds es) ≡ put_all (put_all cs ds) es
again cs ds [] = refl
again cs ds (e ∷ es) = again cs (put ds e) es ∙ ap (λ (l : List PathReduction). put_all l es) (put_last cs ds e)

-- WHAT IS PUT TOGETHER ALREADY IS PUT AS IT WAS WRITTEN
pub put_again : (cs ds : List PathReduction) → put_all cs (put_all [] ds) ≡ put_all cs ds
put_again cs ds = again cs [] ds
