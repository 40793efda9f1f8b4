-- THE NODES OF ONE PART OF A PLAN, as a list: those of the query that have a counterpart there, in written order. What the program puts is that list, while
-- there is room. Assumes nothing.
use Prim.Native.Nat.{ℕ, suc, ◌+◌, ◌-◌, ◌≤◌, ◌<◌}
use mathlib.Core.Path.{◌≡◌, refl, sym, ap, ◌∙◌, subst}
use mathlib.Core.Logic.{◌⊎◌, inl, inr}
use mathlib.Core.List.{List, [], ◌∷◌, ◌++◌, append_assoc, append-nil}
use native.Mathlib.Omega.{arith}
use native.Mathlib.Decide.{dec_lt}
use borrow.Author.Tests.{le-leb, lt-leb}
use lib.ListN.{length, set, take, replicate, length-append}
use lib.Seq.{append_snoc, set_at}
use Rattle.nodes.specs.declared.Term.{Term}
use Rattle.nodes.specs.declared.Term.TheVariants.{Apply, Empty, Entry, EntryIndex, Literal, Path, PathIndex, PathSet, Reduce, ReduceWhere, ResultApply}
use Rattle.nodes.specs.declared.Term.TheVariants.{ResultLiteral}
use Rattle.nodes.specs.Nodes.{padded}
use Rattle.fusion.specs.declared.Written.{Written}
use Rattle.fusion.specs.Steps.{put_part, put_term, reduces, size}

-- an empty term is no node, any other one
abbrev pub one : Term → List Term
one t = take (size t) (t ∷ [])

-- the nodes of a part, from nodes of the query before which k reductions were written
unfoldable pub selected : (ℕ → Term → Term) → ℕ → List Term → List Term
selected part k [] = []
selected part k (n ∷ l) = one (part k n) ++ selected part (k + reduces n) l

-- the reductions among nodes
unfoldable pub reduced : List Term → ℕ
reduced [] = 0
reduced (n ∷ l) = reduces n + reduced l

-- of two lists, added up
pub reduced_append : (l m : List Term) → reduced (l ++ m) ≡ reduced l + reduced m
unfolding reduced
reduced_append [] m = omega arith
reduced_append (n ∷ l) m = omega (arith, reduced_append l m)

-- the nodes of two lists are one behind the other; the second stands behind the reductions of the first
pub selected_append : (part : ℕ → Term → Term) (k : ℕ) (l m : List Term)
    → selected part k (l ++ m) ≡ selected part k l ++ selected part (k + reduced l) m
unfolding selected reduced
selected_append part k [] m = ap (λ (j : ℕ). selected part j m) (let e : k ≡ k + 0 = omega arith in e)
selected_append part k (n ∷ l) m =
    let t = one (part k n) in
    let j = k + reduces n in
    let e : j + reduced l ≡ k + (reduces n + reduced l) = omega arith in
    ap (λ (r : List Term). t ++ r) (selected_append part j l m ∙ ap (λ (i : ℕ). selected part j l ++ selected part i m) e)
    ∙ sym (append_assoc t (selected part j l) (selected part (k + (reduces n + reduced l)) m))

-- THE NODES l ARE WRITTEN, and nothing behind them
pub record Holds (d : Written) (l : List Term) : Type 0 where
  pub list : d.list ≡ padded l
  pub len : d.len ≡ length l

-- a term is empty, or takes one node
size_cases : (t : Term) → ((t ≡ Empty) × (size t ≡ 0)) ⊎ (size t ≡ 1)
unfolding size
size_cases Empty = inl (refl, refl)
size_cases (Path p) = inr refl
size_cases (PathSet p) = inr refl
size_cases (Literal x) = inr refl
size_cases (Apply o) = inr refl
size_cases (Reduce o) = inr refl
size_cases (ReduceWhere o) = inr refl
size_cases (ResultLiteral x) = inr refl
size_cases (ResultApply o) = inr refl
size_cases (PathIndex i) = inr refl
size_cases (EntryIndex i) = inr refl
size_cases (Entry o) = inr refl

one_length : (t : Term) → length (one t) ≡ size t
one_length t = go (size_cases t)
  where
    go : ((t ≡ Empty) × (size t ≡ 0)) ⊎ (size t ≡ 1) → length (one t) ≡ size t
    go (inl e) = rw e.1 refl
    go (inr e) = rw e refl

module _ (d : Written) (l : List Term) (h : Holds d l) where
  -- where the next one goes
  next : length l < 72 → (t : Term) → set d.list d.len t ≡ l ++ (t ∷ replicate (72 - (length l + 1)) Empty)
  next r t =
      let e : 72 - length l ≡ suc (72 - (length l + 1)) = omega arith in
      rw (h.list, h.len, e) (set_at l Empty (replicate (72 - (length l + 1)) Empty) t (length l) refl)

  -- an empty term adds nothing
  holds_empty : (t : Term) → t ≡ Empty → size t ≡ 0 → length l ≤ 72 → Holds (put_term d t) (l ++ one t)
  unfolding put_term
  holds_empty t e z r =
      let p : l ++ one t ≡ l = rw z (append-nil l) in
      subst (Holds (put_term d t)) (sym p) (go (dec_lt (length l) 72))
    where
      go : Dec (length l < 72) → Holds (put_term d t) l
      go (yes k) =
          let p : suc (72 - (length l + 1)) ≡ 72 - length l = omega arith in
          rw (lt-leb 72 d.len (omega (arith, h.len)))
          (record {
            list = rw e (next k Empty ∙ ap (λ (m : ℕ). l ++ replicate m Empty) p);
            len = omega (arith, z, h.len);
          })
      go (no k) = rw (le-leb 72 d.len (omega (arith, h.len))) h

  -- any other is written behind them
  holds_one : (t : Term) → size t ≡ 1 → length l < 72 → Holds (put_term d t) (l ++ one t)
  unfolding put_term
  holds_one t z r =
      let n = length-append l (t ∷ []) in
      rw (lt-leb 72 d.len (omega (arith, h.len)), z)
      (record {
        list = next r t ∙ sym (append_snoc l t (replicate (72 - (length l + 1)) Empty))
            ∙ ap (λ (m : ℕ). (l ++ (t ∷ [])) ++ replicate (72 - m) Empty) (sym n);
        len = omega (arith, h.len, n);
      })

  -- any term, while there is room
  holds_term : (t : Term) → length l + size t ≤ 72 → Holds (put_term d t) (l ++ one t)
  holds_term t r = go (size_cases t)
    where
      go : ((t ≡ Empty) × (size t ≡ 0)) ⊎ (size t ≡ 1) → Holds (put_term d t) (l ++ one t)
      go (inl e) = holds_empty t e.0 e.1 (omega arith)
      go (inr e) = holds_one t e (omega arith)

-- WHAT THE PROGRAM PUTS IS THE PART, behind the nodes written before
pub holds_part : (part : ℕ → Term → Term) (nodes : List Term) (k : ℕ) (d : Written) (l : List Term) → Holds d l
    → length l + length (selected part k nodes) ≤ 72
    → Holds (put_part part k d nodes) (l ++ selected part k nodes)
unfolding put_part selected
holds_part part [] k d l h r = subst (Holds d) (sym (append-nil l)) h
holds_part part (n ∷ nodes) k d l h r =
    let t = part k n in
    let rest = selected part (k + reduces n) nodes in
    let a = length-append (one t) rest in
    let b = length-append l (one t) in
    let s = one_length t in
    subst (Holds (put_part part (k + reduces n) (put_term d t) nodes)) (append_assoc l (one t) rest)
    (holds_part part nodes (k + reduces n) (put_term d t) (l ++ one t) (holds_term d l h t (omega (arith, a, s))) (omega (arith, a, b, s)))
