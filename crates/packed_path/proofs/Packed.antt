-- A LEGAL PATH REDUCTION COMES BACK FROM ITS NUMBERS, so different ones have different numbers. Assumes nothing.
use mathlib.Core.Path.{◌≡◌, refl, sym, ap, ap₂, ◌∙◌, subst}
use mathlib.Core.Bool.{Bool, true, false, ◌&&◌}
use mathlib.Core.List.{List, [], ◌∷◌, map}
use borrow.Author.Tests.{eq-eqb}
use lib.Dec.{T, eqb, eqb→eq}
use Rattle.meaning.specs.Limits.{PathFits}
use Rattle.meaning.specs.Plan.{same_path}
use Rattle.meaning.specs.Query.{PathReduction}
use Rattle.meaning.proofs.Paths.{path_refl, path_same}
use Rattle.walks.specs.Lists.{All}
use Rattle.walks.proofs.Tests.{T_of, and_left, and_right}
use Rattle.packed_path.specs.declared.PackedPath.{PackedPath}
use Rattle.packed_path.specs.Packed.{packed, path_of, same_packed}
use Rattle.packed_path.proofs.Keys.{keys_back}
use Rattle.packed_path.proofs.Sources.{sources_back}

-- ONE PATH REDUCTION, and each of a list
pub path_back : (c : PathReduction) → PathFits 256 c → path_of (packed c) ≡ c
unfolding path_of
path_back c f = λ i. record { keys = keys_back c.keys f.0 i; sources = sources_back (packed c).keys c.sources f.1.0 i }

pub paths_back : (cs : List PathReduction) → All (PathFits 256) cs → map path_of (map packed cs) ≡ cs
paths_back [] f = refl
paths_back (c ∷ cs) f = ap₂ (λ (x : PathReduction) (l : List PathReduction). x ∷ l) (path_back c f.0) (paths_back cs f.1)

-- the test field by field
packed_same : (a b : PackedPath) → T (same_packed a b) → a ≡ b
unfolding same_packed
packed_same a b t =
    let k = eqb a.keys b.keys in
    let l = eqb a.low b.low in
    let n = eqb a.count b.count in
    let h = eqb a.high b.high in
    let t1 = and_right k (l && (n && h)) t in
    let t2 = and_right l (n && h) t1 in
    let ek = eqb→eq a.keys b.keys (and_left k (l && (n && h)) t) in
    let el = eqb→eq a.low b.low (and_left l (n && h) t1) in
    let en = eqb→eq a.count b.count (and_left n h t2) in
    let eh = eqb→eq a.high b.high (and_right n h t2) in
    λ i. record { keys = ek i; count = en i; low = el i; high = eh i }

packed_refl : (a : PackedPath) → same_packed a a ≡ true
unfolding same_packed
packed_refl a = rw (eq-eqb a.keys a.keys refl, eq-eqb a.low a.low refl, eq-eqb a.count a.count refl, eq-eqb a.high a.high refl) refl

-- EQUAL NUMBERS ARE EQUAL PATH REDUCTIONS
pub same_as : (c d : PathReduction) → PathFits 256 c → PathFits 256 d → same_packed (packed d) (packed c) ≡ same_path c d
same_as c d f g = go (same_path c d) refl (same_packed (packed d) (packed c)) refl
  where
    back : T (same_packed (packed d) (packed c)) → d ≡ c
    back t = sym (path_back d g) ∙ ap path_of (packed_same (packed d) (packed c) t) ∙ path_back c f

    go : (b : Bool) → same_path c d ≡ b → (x : Bool) → same_packed (packed d) (packed c) ≡ x → x ≡ b
    go true e true p = refl
    go true e false p = sym p ∙ ap (λ (x : PathReduction). same_packed (packed x) (packed c)) (sym (path_same c d (T_of e))) ∙ packed_refl (packed c)
    go false e true p = absurd (subst T e (subst (λ (x : PathReduction). T (same_path c x)) (sym (back (T_of p))) (path_refl c)))
    go false e false p = refl
