-- The terms that a loop over bytes has collected. Assumes nothing.
use Prim.Native.Nat.{ℕ, suc, ◌+◌, ◌-◌, ◌≤◌, ◌<◌, min}
use mathlib.Core.Path.{◌≡◌, refl, sym, ap, ◌∙◌}
use mathlib.Core.List.{List, [], ◌∷◌, ◌++◌, append-nil}
use native.Mathlib.Omega.{arith}
use lib.ListN.{length, set, take, replicate, length-append}
use lib.Seq.{set_at, take_at, append_snoc}
use Rattle.nodes.specs.declared.Term.{Term}
use Rattle.nodes.specs.declared.Term.TheVariants.{Empty}
use Rattle.nodes.specs.Nodes.{padded}
use Rattle.nodes.specs.Steps.{collected, next_at, nodes_read, term_at}

module _ (s : List ℕ) (from n : ℕ) where
  -- i of the n terms stand in front, and the bytes of the others start at `at`
  pub record Held (nodes : List Term) (at i : ℕ) : Type 0 where
    pub front : List Term
    pub size : length front ≡ i
    pub below : i ≤ n
    pub holds : nodes ≡ front ++ replicate (72 - i) Empty
    pub rest : front ++ collected (n - i) s at ≡ collected n s from

  -- at first none is
  pub held_none : Held (replicate 72 Empty) from 0
  held_none =
      record {
        front = [];
        size = refl;
        below = omega arith;
        holds = refl;
        rest =
            ap (λ (k : ℕ). collected k s from) (let e : n - 0 ≡ n = omega arith in e);
      }

  -- one more
  pub held_more : n ≤ 72 → (nodes : List Term) (at i : ℕ) → i < n → Held nodes at i
      → Held (set nodes i (term_at s at)) (next_at s at) (i + 1)
  unfolding collected
  held_more few nodes at i h b =
      let x : Term = term_at s at in
      let e : 72 - i ≡ suc (72 - (i + 1)) = omega arith in
      let p : n - i ≡ suc (n - (i + 1)) = omega arith in
      record {
        front = b.front ++ (x ∷ []);
        size = omega (arith, b.size, length-append b.front (x ∷ []));
        below = omega arith;
        holds =
            ap (λ (l : List Term). set l i x) (b.holds ∙ ap (λ (k : ℕ). b.front ++ replicate k Empty) e)
            ∙ set_at b.front Empty (replicate (72 - (i + 1)) Empty) x i b.size
            ∙ sym (append_snoc b.front x (replicate (72 - (i + 1)) Empty));
        rest =
            append_snoc b.front x (collected (n - (i + 1)) s (next_at s at))
            ∙ ap (λ (k : ℕ). b.front ++ collected k s at) (sym p) ∙ b.rest;
      }

  -- after n all are, and the rest is empty
  pub held_all : (nodes : List Term) (at i : ℕ) → n ≤ i → Held nodes at i → nodes ≡ padded (collected n s from)
  unfolding collected
  held_all nodes at i h b =
      let p : n - i ≡ 0 = omega arith in
      let e : b.front ≡ collected n s from = sym (append-nil b.front) ∙ ap (λ (k : ℕ). b.front ++ collected k s at) (sym p) ∙ b.rest in
      b.holds ∙ ap (λ (k : ℕ). b.front ++ replicate (72 - k) Empty) (sym b.size) ∙ ap padded e

-- all n terms of a text are read, where there are at most 72
pub read_whole : (s : List ℕ) (i j n : ℕ) (l : List Term) → n ≤ 72 → collected (n + 0) s i ≡ l ++ collected 0 s j → nodes_read n s i ≡ padded l
unfolding nodes_read collected
read_whole s i j n l h e =
    let p : min n 72 ≡ n + 0 = omega arith in
    ap padded (ap (λ (k : ℕ). collected k s i) p ∙ e ∙ append-nil l)

-- the first n of the 72 are the nodes themselves
pub first_nodes : (n : ℕ) (l : List Term) → length l ≡ n → take n (padded l) ≡ l
first_nodes n l e = take_at l _ n e
