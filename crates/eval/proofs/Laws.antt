-- What the code's proofs cite: a row's value, leaves as rows, one level of depth, where a term ends. Assumes nothing.
use Prim.Native.Nat.{ℕ, zero, suc, ◌+◌, ◌-◌, ◌≤◌, ◌<◌}
use mathlib.Core.Path.{◌≡◌, refl, ap, ap₂, ◌∙◌}
use mathlib.Core.Bool.{Bool, true, false, false≢true, cond}
use mathlib.Core.List.{List, []}
use native.Mathlib.Omega.{arith}
use borrow.Author.Tests.{leb-true, leb-false, ltb-true}
use lib.Dec.{leb, ltb}
use lib.ListN.{length, get_or, length-map, get_or-eq_default, get_or-map}
use Rattle.value.specs.declared.Row.{Row}
use Rattle.value.specs.declared.Value.TheVariants.{Absent, Number}
use Rattle.value.specs.Value.{values}
use Rattle.wire.specs.Wire.{at32}
use Rattle.meaning.proofs.Lists.{tabulate_at, tabulate_length}
use Rattle.eval.specs.declared.Found.{Found}
use Rattle.eval.specs.declared.Head.{Head}
use Rattle.eval.specs.declared.Head.TheVariants.{Leaf, Apply}
use Rattle.eval.specs.Steps.{eight, entry_end, entry_found, evaluated, expression_end, found, head, joined, leaf_found, leaf_in, lone_in, named}
use Rattle.eval.specs.Steps.{one_of, row, rows_in}

-- the value of a row
pub row_value : (rows : List Row) (i : ℕ) → get_or (values rows) i Absent ≡ (get_or rows i (record { value = Absent })).value
row_value rows i = get_or-map (λ (r : Row). r.value) rows i (record { value = Absent })

-- absent past the last
pub row_none : (rows : List Row) (i : ℕ) → length rows ≤ i → get_or (values rows) i Absent ≡ Absent
row_none rows i h = get_or-eq_default (values rows) Absent {n = i} (omega (arith, length-map rows (λ (r : Row). r.value)))

-- the leaves as rows
pub leaf_row : (leaves slots : List ℕ) (least k : ℕ) → get_or (values (rows_in leaves slots least)) k Absent ≡ leaf_in leaves slots least k
unfolding rows_in leaf_in
leaf_row leaves slots least k = go (leb 8 k) refl
  where
    f : ℕ → Row
    f i = row (leaf_in leaves slots least i)

    go : (b : Bool) → leb 8 k ≡ b → get_or (values (rows_in leaves slots least)) k Absent ≡ leaf_in leaves slots least k
    go true e = row_none (rows_in leaves slots least) k (omega (arith, leb-true 8 k e, tabulate_length 8 zero f)) ∙ rw e
    go false e =
        row_value (rows_in leaves slots least) k
        ∙ ap (λ (r : Row). r.value) (tabulate_at 8 k f (row Absent) (omega (arith, leb-false 8 k e)))

module _ (s : List ℕ) (rows : List Row) (at : ℕ) where
  -- no level of depth is left
  pub evaluated_none : (left : ℕ) → left ≡ 0 → evaluated left s rows at ≡ found Absent at
  unfolding evaluated
  evaluated_none zero e = refl
  evaluated_none (suc left) e = absurd (omega arith)

  -- one at least is left
  pub evaluated_next : (left : ℕ) → (left ≡ 0 → ⊥) → evaluated left s rows at ≡ joined (evaluated (left - 1) s rows) (head s rows at)
  unfolding evaluated
  evaluated_next zero n = absurd (n refl)
  evaluated_next (suc left) n = ap (λ (k : ℕ). joined (evaluated k s rows) (head s rows at)) (let e : left ≡ suc left - 1 = omega arith in e)

  -- a leaf that names its word
  pub evaluated_named : (left : ℕ) → (left ≡ 0 → ⊥) → named s at ≡ true
      → evaluated left s rows at ≡ leaf_found s rows at
  unfolding head joined
  evaluated_named left n e = evaluated_next left n
      ∙ ap (joined (evaluated (left - 1) s rows)) (go (leb (length s) at) (one_of (get_or s at 0) 0x30 0x31) _ _ e)
    where
      leaf : Head
      leaf = Leaf (leaf_found s rows at)

      go : (a b : Bool) (none other : Head) → cond a false b ≡ true → cond a none (cond b leaf other) ≡ leaf
      go true b none other e = absurd (false≢true e)
      go false true none other e = refl
      go false false none other e = absurd (false≢true e)

pub ruleset levels = (evaluated_none, evaluated_next, evaluated_named)

-- where a term ends rests on its bytes alone, not on the values of its leaves
pub same_end : (s : List ℕ) (rows others : List Row) (left at : ℕ) → (evaluated left s rows at).next ≡ (evaluated left s others at).next
unfolding evaluated head joined
same_end s rows others zero at = refl
same_end s rows others (suc left) at =
    go (same_end s rows others left) (leb (length s) at) (one_of tag 0x30 0x31) (one_of tag 0x11 0x21) (one_of tag 0x12 0x22)
  where
    tag : ℕ
    tag = get_or s at 0

    chosen : List Row → Bool → Bool → Bool → Bool → Head
    chosen r a b c d =
        cond a (Leaf (found Absent at))
        (cond b (Leaf (found (get_or (values r) (get_or s (at + 1) 0) Absent) (at + 2)))
        (cond c (Leaf (found (Number (at32 s (at + 1))) (at + 5))) (cond d (Apply (get_or s (at + 1) 0) (at + 2)) (Leaf (found Absent at)))))

    go : ((k : ℕ) → (evaluated left s rows k).next ≡ (evaluated left s others k).next) → (a b c d : Bool)
        → (joined (evaluated left s rows) (chosen rows a b c d)).next ≡ (joined (evaluated left s others) (chosen others a b c d)).next
    go below true b c d = refl
    go below false true c d = refl
    go below false false true d = refl
    go below false false false true = ap (λ (k : ℕ). (evaluated left s rows k).next) (below (at + 2)) ∙ below (evaluated left s others (at + 2)).next
    go below false false false false = refl

-- and so does where an expression ends
pub end_found : (s : List ℕ) (rows : List Row) (at : ℕ) (f : Found) → f ≡ evaluated 16 s rows at → f.next ≡ expression_end s at
unfolding expression_end
end_found s rows at f e = ap (λ (f : Found). f.next) e ∙ same_end s rows (eight []) 16 at

-- AN ENTRY THAT IS ONE LEAF, by its slot: which leaf it is, what it is worth over any leaves, and where it ends
pub record Lone (s slots : List ℕ) (at : ℕ) : Type 0 where
  pub index : ℕ
  pub small : index < 8
  pub there : at < length s
  pub slot : lone_in s slots at ≡ get_or slots index 0
  pub worth : (rows : List Row) → entry_found s rows at ≡ get_or (values rows) index Absent
  pub end : entry_end s at ≡ at + 3

pub lone : (s slots : List ℕ) (at : ℕ) → lone_in s slots at < 8 → Lone s slots at
unfolding lone_in entry_found entry_end expression_end
lone s slots at h =
    go (leb (length s) at) refl (leb 128 (get_or s at 0)) refl (named s (at + 1)) refl (ltb (get_or s (at + 2) 0) 8) refl h
  where
    k : ℕ
    k = get_or s (at + 2) 0

    go : (a : Bool) → leb (length s) at ≡ a → (b : Bool) → leb 128 (get_or s at 0) ≡ b → (c : Bool) → named s (at + 1) ≡ c
        → (d : Bool) → ltb k 8 ≡ d → cond a 8 (cond b 8 (cond c (cond d (get_or slots k 0) 8) 8)) < 8 → Lone s slots at
    go true ea b eb c ec d ed h = absurd (omega arith)
    go false ea true eb c ec d ed h = absurd (omega arith)
    go false ea false eb false ec d ed h = absurd (omega arith)
    go false ea false eb true ec false ed h = absurd (omega arith)
    go false ea false eb true ec true ed h =
        let two : at + 1 + 1 ≡ at + 2 = omega arith in
        let three : at + 1 + 2 ≡ at + 3 = omega arith in
        let one : (rows : List Row) → evaluated 16 s rows (at + 1) ≡ found (get_or (values rows) k Absent) (at + 3) = λ rows.
        evaluated_named s rows (at + 1) 16 (λ z. absurd (omega arith)) ec
        ∙ ap₂ (λ (i j : ℕ). found (get_or (values rows) (get_or s i 0) Absent) j) two three in
        record {
          index = k;
          small = ltb-true k 8 ed;
          there = leb-false (length s) at ea;
          slot = rw (ea, eb, ec, ed) refl;
          worth = λ rows. rw (ea, eb) (ap (λ (f : Found). f.value) (one rows));
          end = rw (ea, eb) (ap (λ (f : Found). f.next) (one (eight [])));
        }
