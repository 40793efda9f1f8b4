use Prim.Native.Nat.{ℕ, zero, suc, ◌+◌, ◌*◌, ◌-◌, ◌≤◌, ◌<◌, min}
use mathlib.Core.Path.{◌≡◌, sym, ap, ◌∙◌}
use mathlib.Core.Bool.{Bool, false, cond, ◌&&◌, ◌||◌}
use mathlib.Core.List.{List}
use native.Mathlib.Omega.{arith}
use native.Mathlib.Numerals.{add-one}
use lib.ListN.{set}
use Rattle.vertex_set.specs.Least.{some_below}
use Rattle.vertex_set.specs.Sets.{four, joined_chosen, member}
use Rattle.vertex_set.proofs.Sets.{chosen_kept, chosen_more, member_chosen, member_of_set, member_zeros, met_least}
use Rattle.packed_figures.specs.declared.PathConstants.{PathConstants}
use Rattle.packed_figures.specs.Packed.{absent}
use Rattle.table.specs.Table.{lent}
use Rattle.table.specs.Steps.{lends, word_in}
use Rattle.table.proofs.Lent.{above_stored, marks_stored, upto_all, upto_more, upto_none, upto_passed, words_stay}
use Rattle.table.proofs.touch.Invariants.{zeros}
use Rattle.table.proofs.touch.Goals as goal

-- vertices that are not in set j lead nowhere
module _ (words l : List ℕ) (j : ℕ) (others : List ℕ) (v : ℕ) where
  abbrev upto : ℕ → List ℕ
  upto w = joined_chosen words 0 l j others w

  some_passed : (d : ℕ) → v + d ≤ 256 → ((u : ℕ) → v ≤ u → u < v + d → member l j u ≡ false) → upto (v + d) ≡ upto v
  some_passed zero most none = ap upto (let e : v + zero ≡ v = omega arith in e)
  some_passed (suc d) most none =
      ap upto (let e : v + suc d ≡ suc (v + d) = omega arith in e)
      ∙ chosen_kept words 0 l j others (v + d) (omega arith) (none (v + d) (omega arith) (omega arith))
      ∙ some_passed d (omega arith) (λ u h k. none u h (omega arith))

  all_passed : (w : ℕ) → v ≤ w → w ≤ 256 → ((u : ℕ) → v ≤ u → u < w → member l j u ≡ false) → upto w ≡ upto v
  all_passed w up most none =
      ap upto (let e : w ≡ v + (w - v) = omega arith in e) ∙ some_passed (w - v) (omega arith) (λ u h k. none u h (omega arith))

-- who is not in set j lends ABSENT
lends_not : (c : PathConstants) (n j : ℕ) (l : List ℕ) (u : ℕ) → lent n l u ≡ absent → member l j u ≡ false → lent n l u ≡ lends c j l u
lends_not c n j l u e m = e ∙ sym (ap (λ (b : Bool). cond b (word_in l j u + c.edges) absent) m)

pub loop-m-init : goal.loop-m-init
unfolding joined_chosen
loop-m-init c =
    let a = c.args in
    let l = a.figures.now in
    let f = c.first-m.ensures in
    let h = met_least l a.j 0 (omega arith) _ f in
    let w = min c.first-m.result.vertex a.n in (
      h.most,
      h.passes,
      f.above_is,
      upto_passed a.n (lends a.c a.j l) l l 0 w (omega arith)
          (λ u k i. lends_not a.c a.n a.j l u (c.requires.6 u (omega arith)) (h.none_before u k (omega arith)))
          (upto_none a.n (lends a.c a.j l) l),
      c.empty-touched.ensures
          ∙ sym (all_passed zeros l a.j a.successors.now 0 w (omega arith) (omega (arith, c.requires.2)) (λ u k i. h.none_before u k (omega arith))),
    )

pub loop-m-smaller : goal.loop-m-smaller
loop-m-smaller c =
    let a = c.args in
    let l = c.loop-m in
    let u = l.m.vertex in
    let here : u < a.n = omega (arith, c.loop-m-test.true) in
    let h = met_least (set l.figures (32 + 8 * a.n + u) (word_in l.figures a.j u + a.c.edges)) a.j (u + 1)
    (omega (arith, here, c.requires.2)) _ c.after-m.ensures in
    omega (arith, here, c.requires.2, h.from)

pub loop-m-preserved : goal.loop-m-preserved
loop-m-preserved c =
    let a = c.args in
    let l = c.loop-m in
    let v = l.m.vertex in
    let base = a.figures.now in
    let L = lends a.c a.j base in
    let x = word_in l.figures a.j v + a.c.edges in
    let now = set l.figures (32 + 8 * a.n + v) x in
    let here : v < a.n = omega (arith, c.loop-m-test.true) in
    let f = c.after-m.ensures in
    let h = met_least now a.j (v + 1) (omega (arith, here, c.requires.2)) _ f in
    let at : min v a.n ≡ v = omega (arith, here) in
    let p = rw at at l.invariant.3 in
    let next = c.after-m.result.vertex in
    let w = min next a.n in
    let same = marks_stored a.n L base l.figures v p a.j c.requires.1 v x in
    let m = l.invariant.1 (omega (arith, here, c.requires.2)) in
    let none : (u : ℕ) → v + 1 ≤ u → u < w → member base a.j u ≡ false =
    λ u k i. sym (same u (omega (arith, c.requires.2))) ∙ h.none_before u k (omega arith) in
    let is : x ≡ L v =
    ap (λ (y : ℕ). y + a.c.edges) (words_stay a.n base l.figures p.rest a.j v c.requires.1 here)
    ∙ sym (ap (λ (b : Bool). cond b (word_in base a.j v + a.c.edges) absent) m) in
    let joined-now : _ ≡ joined_chosen zeros 0 base a.j a.successors.now (suc v) =
    c.with-touched.ensures ∙ rw (l.invariant.4, at) (sym (chosen_more zeros 0 base a.j a.successors.now v m)) in (
      h.most,
      λ k. sym (same next k) ∙ h.passes k,
      λ k. f.above_is k ∙ above_stored a.n L base l.figures v p a.j c.requires.1 v x next k,
      upto_passed a.n L base now (v + 1) w (omega (arith, here, h.from))
          (λ u k i. lends_not a.c a.n a.j base u (c.requires.6 u (omega arith)) (none u k i))
          (upto_more a.n L base l.figures v x (omega (arith, here, c.requires.4)) is p),
      joined-now
          ∙ ap (joined_chosen zeros 0 base a.j a.successors.now) (sym (add-one v))
          ∙ sym (all_passed zeros base a.j a.successors.now (v + 1) w (omega (arith, here, h.from)) (omega (arith, c.requires.2)) none),
    )

pub returns : goal.returns
returns c =
    let a = c.args in
    let l = c.loop-m in
    let base = a.figures.now in
    let e : min l.m.vertex a.n ≡ a.n = omega (arith, c.loop-m-test.false) in
    record {
      relent = upto_all a.n (lends a.c a.j base) base l.figures (min l.m.vertex a.n) (omega (arith, e)) l.invariant.3;
      walked = λ v h.
          rw c.store.ensures
          (member_of_set a.work.now 0 (four l.touched) v h (omega (arith, c.requires.5))
          ∙ rw (l.invariant.4, e) (member_chosen zeros 0 base a.j a.successors.now a.n v h (omega arith)
          ∙ ap (λ (b : Bool). b || some_below (λ g. member base a.j g && member a.successors.now g v) a.n) (member_zeros 4 0 v)));
      room = c.store.auto.words;
    }
