use Prim.Native.Nat.{ℕ, suc, ◌<◌, min}
use mathlib.Core.Path.{◌≡◌, refl, sym, ap, ◌∙◌}
use mathlib.Core.Bool.{false}
use mathlib.Core.List.{List}
use native.Mathlib.Omega.{arith}
use borrow.Author.Tests.{eq-eqb}
use Rattle.wire.specs.Wire.{at16}
use Rattle.graph.specs.Graph.{edge_in}
use Rattle.incoming.specs.Incoming.{enters, first_into}
use Rattle.incoming.proofs.Into.{into_found, into_same}
use Rattle.packed_figures.specs.declared.PathConstants.{PathConstants}
use Rattle.table.specs.Steps.{brings, lent_in, reduced_upto}
use Rattle.table.proofs.reduced.Goals as goal

-- an edge that does not enter v, and one that does
keep : (s : List ℕ) (c : PathConstants) (L : ℕ → ℕ) (word v i : ℕ) → i < at16 s 7 → enters s v i ≡ false
    → reduced_upto s c L word v (suc i) ≡ reduced_upto s c L word v i
unfolding reduced_upto
keep s c L word v i h e = rw e

take : (s : List ℕ) (c : PathConstants) (L : ℕ → ℕ) (word v i : ℕ) → (edge_in s i).to ≡ v
    → min (brings s c L i) (reduced_upto s c L word v i) ≡ reduced_upto s c L word v (suc i)
unfolding reduced_upto
take s c L word v i e = rw (eq-eqb (edge_in s i).to v e)

none : (s : List ℕ) (c : PathConstants) (L : ℕ → ℕ) (word v : ℕ) → word ≡ reduced_upto s c L word v 0
unfolding reduced_upto
none s c L word v = refl

pub loop-i-init : goal.loop-i-init
loop-i-init c =
    let a = c.args in
    let g = a.indexed.now.graph.bytes.now in
    let L = lent_in g a.figures.now in
    let h = into_found g a.v 0 (omega arith) in
    let e = into_same g a.v (reduced_upto g a.c L a.word a.v) (keep g a.c L a.word a.v) 0 (omega arith) in
    rw c.first_into-i.ensures (h.most, h.enters_it, none g a.c L a.word a.v ∙ sym e)

pub loop-i-smaller : goal.loop-i-smaller
loop-i-smaller c =
    let a = c.args in
    let l = c.loop-i in
    let g = a.indexed.now.graph.bytes.now in
    let there : l.i < at16 g 7 = omega (arith, c.rows-m.ensures.0) in
    let h = into_found g a.v (suc l.i) there in
    let e = c.next_into-i.ensures ∙ ap (λ (u : ℕ). first_into g u (suc l.i)) (l.invariant.1 there) in
    omega (arith, c.rows-m.ensures.0, e, h.from)

pub loop-i-preserved : goal.loop-i-preserved
loop-i-preserved c =
    let a = c.args in
    let g = a.indexed.now.graph.bytes.now in
    let L = lent_in g a.figures.now in
    let l = c.loop-i in
    let there : l.i < at16 g 7 = omega (arith, c.rows-m.ensures.0) in
    let enter = l.invariant.1 there in
    let h = into_found g a.v (suc l.i) there in
    let e = into_same g a.v (reduced_upto g a.c L a.word a.v) (keep g a.c L a.word a.v) (suc l.i) there in
    let next = c.next_into-i.ensures ∙ ap (λ (u : ℕ). first_into g u (suc l.i)) enter in
    let b : c.min-best.result ≡ reduced_upto g a.c L a.word a.v (suc l.i) =
    c.min-best.ensures ∙ rw (l.invariant.2, c.brought.ensures) (take g a.c L a.word a.v l.i enter) in
    rw next (h.most, h.enters_it, b ∙ sym e)
