-- A ROUND OF ONE PATH REDUCTION: walked, and the marks put in place. Assumes nothing.
use Prim.Native.Nat.{ℕ, zero, suc, ◌+◌, ◌*◌, ◌≤◌, ◌<◌}
use mathlib.Core.Path.{◌≡◌, refl, sym, ap, ◌∙◌}
use mathlib.Core.Bool.{Bool, true, false, cond, ◌&&◌, ◌||◌, false≢true}
use mathlib.Core.List.{List}
use native.Mathlib.Omega.{arith}
use native.Mathlib.Decide.{dec_lt}
use borrow.Author.Tests.{eq-eqb, le-ltb, lt-ltb, ne_eqb}
use lib.Dec.{ltb}
use lib.ListN.{length, get_or}
use Rattle.wire.specs.Wire.{at16}
use Rattle.graph.specs.Graph.{edge_in}
use Rattle.incoming.specs.declared.IndexedGraph.{IndexedGraph}
use Rattle.incoming.proofs.Ends.{ends}
use Rattle.incoming.proofs.Sizes.{few_vertices}
use Rattle.vertex_set.specs.Sets.{emptied, joined, member, next_member}
use Rattle.vertex_set.proofs.Least.{Least, some_where}
use Rattle.vertex_set.proofs.Sets.{member_emptied, member_joined, next_least, replaced_length, replaced_other}
use Rattle.packed_figures.specs.declared.PathConstants.{PathConstants}
use Rattle.packed_figures.specs.Packed.{absent}
use Rattle.table.specs.Table.{any_vertex, cell_in, lent}
use Rattle.table.specs.Steps.{Blank, Quiet, Ready, Relent, Stepped, Touched, Walked, lends, lent_in, moves, next_word, reduced_upto, touches}
use Rattle.table.specs.Steps.{word_in}
use Rattle.table.proofs.Cells.{cell_mark, cell_same, cells_same}
use Rattle.table.proofs.Lent.{marks_stay, words_stay}
use Rattle.table.proofs.Walks.{reduced_same}

-- a test that holds at no vertex, and one that holds at some
any_none : (n : ℕ) (f : ℕ → Bool) → ((v : ℕ) → v < n → f v ≡ false) → any_vertex n f ≡ false
any_none zero f h = refl
any_none (suc n) f h = rw (h n (omega arith)) (any_none n f (λ v l. h v (omega arith)))

any_some : (n : ℕ) (f : ℕ → Bool) (v : ℕ) → v < n → f v ≡ true → any_vertex n f ≡ true
any_some zero f v h e = absurd (omega arith)
any_some (suc n) f v h e = go (λ l. any_some n f v l e) (f n) refl
  where
    go : (v < n → any_vertex n f ≡ true) → (b : Bool) → f n ≡ b → (b || any_vertex n f) ≡ true
    go r true q = refl
    go r false q =
        let apart : v ≡ n → ⊥ = λ p. false≢true (sym q ∙ (rw p at e)) in
        r (omega (arith, apart))

left_one : (a b : Bool) → (a && b) ≡ true → a ≡ true
left_one true b q = refl
left_one false b q = q

right_one : (a b : Bool) → (a && b) ≡ true → b ≡ true
right_one true b q = q
right_one false b q = absurd (false≢true q)

-- what these laws ask of a graph and its successors: at most 256 vertices, edges that start at vertices, and successors that are vertices
pub record Inside (s successors : List ℕ) : Type 0 where
  pub few_vertices : at16 s 5 ≤ 256
  pub starts_inside : (i : ℕ) → i < at16 s 7 → (edge_in s i).from < at16 s 5
  pub leads_inside : (f v : ℕ) → f < at16 s 5 → v < 256 → member successors f v ≡ true → v < at16 s 5

-- an indexed graph has it
pub inside : (x : IndexedGraph) → Inside x.graph.bytes.now x.successors.now
inside x = record {
  few_vertices = few_vertices x.graph.bytes.now x.graph.accepted;
  starts_inside = λ i h. (ends x.graph.bytes.now x.graph.bytes_fit x.graph.accepted i h).0;
  leads_inside = x.leads_inside;
}

module _ {s successors : List ℕ} (fits : Inside s successors) (c : PathConstants) (j : ℕ) (old work : List ℕ) (q : Quiet s c j old work) where
  abbrev n : ℕ
  n = at16 s 5

  abbrev L : ℕ → ℕ
  L = lends c j old

  abbrev touched : ℕ → Bool
  touched = touches (at16 s 5) j old successors

  few : at16 s 5 ≤ 256
  few = fits.few_vertices

  slot : j < 8
  slot = q.slot

  small : (v : ℕ) → v < at16 s 5 → v < 256
  small v h = omega (arith, few)

  lends_most : (u : ℕ) → u < at16 s 5 → lends c j old u ≤ absent + c.edges
  lends_most u h = go (member old j u)
    where
      go : (b : Bool) → cond b (word_in old j u + c.edges) absent ≤ absent + c.edges
      go true = omega (arith, q.words_most u h)
      go false = omega arith

  -- THE WORDS ARE LENT
  module _ (l₁ work₁ : List ℕ) (t : Touched c (at16 s 5) j successors old work l₁ work₁) where
    room : 8 ≤ length work₁
    room = omega (arith, t.room, q.work_fits)

    chosen_is : (v : ℕ) → v < 256 → member (emptied work₁ 1) 0 v ≡ touched v
    chosen_is v h = member_emptied work₁ 1 0 v h room ∙ t.walked v h

    -- what the walk asks
    pub walk_ready : Ready s c j l₁ (emptied work₁ 1)
    walk_ready = record {
      lends = record {
        sound = q.sound;
        table_fits = omega (arith, t.relent.size, q.table_fits);
        words_lent = λ u h. rw (t.relent.words u h) (lends_most u h);
      };
      slot = q.slot;
      work_fits = omega (arith, room, replaced_length work₁ 1 (λ k. 0));
      walked_fit = λ v h e.
          let p = some_where (λ g. member old j g && member successors g v) (at16 s 5) (sym (chosen_is v h) ∙ e) in
          fits.leads_inside p.0 v p.1 h (right_one (member old j p.0) (member successors p.0 v) p.2);
    }

    pub walk_blank : Blank (emptied work₁ 1)
    walk_blank v h = member_emptied work₁ 1 1 v h room

    word_was : (i v : ℕ) → i < 8 → v < at16 s 5 → word_in l₁ i v ≡ word_in old i v
    word_was = words_stay (at16 s 5) old l₁ t.relent.rest

    mark_was : (i v : ℕ) → i < 8 → v < 256 → member l₁ i v ≡ member old i v
    mark_was = marks_stay (at16 s 5) old l₁ t.relent.rest

    next_same : (v : ℕ) → v < at16 s 5 → next_word s c j (lent_in s l₁) l₁ v ≡ next_word s c j L old v
    next_same v h =
        ap (λ (x : ℕ). reduced_upto s c (lent_in s l₁) x v (at16 s 7)) (word_was j v slot h)
        ∙ reduced_same s c L (lent_in s l₁) (word_in old j v) v (at16 s 7) (λ k i. t.relent.words _ (fits.starts_inside k i))

    -- THE VERTICES ARE WALKED
    module _ (l₂ work₂ : List ℕ) (p : Walked s c j l₁ (emptied work₁ 1) l₂ work₂ 256) where
      -- what `unlend` asks: who lends not, lends ABSENT
      pub lends_not : (u : ℕ) → u < at16 s 5 → member l₂ j u ≡ false → lent (at16 s 5) l₂ u ≡ absent
      lends_not u h e =
          p.kept u
          ∙ t.relent.words u h
          ∙ ap (λ (b : Bool). cond b (word_in old j u + c.edges) absent)
          (sym (mark_was j u slot (small u h)) ∙ sym (p.marks j slot u (small u h)) ∙ e)

      moved_is : (v : ℕ) → v < at16 s 5 → member work₂ 1 v ≡ (touched v && moves s c j L old v)
      moved_is v h = p.moved v (small v h) (small v h) ∙ rw (chosen_is v (small v h), next_same v h, word_was j v slot h)

      moved_in : (v : ℕ) → v < 256 → member work₂ 1 v ≡ true → v < at16 s 5
      moved_in v h e =
          walk_ready.walked_fit v h (left_one (member (emptied work₁ 1) 0 v) (moves s c j (lent_in s l₁) l₁ v) (sym (p.moved v h h) ∙ e))

      -- NONE LENDS, and set 1 is the set of the path reduction
      module _ (l₃ : List ℕ) (z : Relent (at16 s 5) (λ u. absent) l₂ l₃) where
        abbrev after : List ℕ
        after = joined (emptied l₃ j) j work₂ 1

        long : 4 * j + 4 ≤ length l₃
        long = omega (arith, slot, q.table_fits, t.relent.size, p.size, z.size)

        long' : 4 * j + 4 ≤ length (emptied l₃ j)
        long' = omega (arith, long, replaced_length l₃ j (λ k. 0))

        behind : (k : ℕ) → 32 ≤ k → get_or after k 0 ≡ get_or l₃ k 0
        behind k h = replaced_other (emptied l₃ j) j _ k (omega arith) ∙ replaced_other l₃ j _ k (omega arith)

        word : (i v : ℕ) → i < 8 → v < at16 s 5 → word_in after i v ≡ word_in l₂ i v
        word i v h k = behind (32 + 8 * v + i) (omega arith) ∙ words_stay (at16 s 5) l₂ l₃ z.rest i v h k

        mark : (v : ℕ) → v < 256 → member after j v ≡ member work₂ 1 v
        mark v h =
            member_joined (emptied l₃ j) j work₂ 1 j v h long'
            ∙ rw (eq-eqb j j refl) (ap (λ (b : Bool). b || member work₂ 1 v) (none v h))
          where
            none : (v : ℕ) → v < 256 → member (emptied l₃ j) j v ≡ false
            none v h = member_emptied l₃ j j v h long ∙ rw (eq-eqb j j refl)

        other_mark : (i : ℕ) → i < 8 → (i ≡ j → ⊥) → (v : ℕ) → v < 256 → member after i v ≡ member old i v
        other_mark i h m v k =
            member_joined (emptied l₃ j) j work₂ 1 i v k long'
            ∙ rw (ne_eqb i j m)
            (member_emptied l₃ j i v k long
            ∙ rw (ne_eqb i j m) (marks_stay (at16 s 5) l₂ l₃ z.rest i v h k ∙ p.marks i h v k ∙ mark_was i v h k))

        word_is : (v : ℕ) → v < at16 s 5 → word_in after j v ≡ cond (touched v) (next_word s c j L old v) (word_in old j v)
        word_is v h =
            word j v slot h
            ∙ p.done v (small v h) (small v h)
            ∙ rw (chosen_is v (small v h), next_same v h, word_was j v slot h)

        stirs : ltb (next_member work₂ 1 0) 256 ≡ any_vertex (at16 s 5) (λ v. (cell_in after j v).changed)
        stirs = go (dec_lt (next_member work₂ 1 0) 256)
          where
            l : Least (member work₂ 1) 256 0 (next_member work₂ 1 0)
            l = next_least work₂ 1 0 (omega arith)

            go : Dec (next_member work₂ 1 0 < 256) → ltb (next_member work₂ 1 0) 256 ≡ any_vertex (at16 s 5) (λ v. (cell_in after j v).changed)
            go (yes h) =
                lt-ltb (next_member work₂ 1 0) 256 h
                ∙ sym (any_some (at16 s 5) (λ v. (cell_in after j v).changed) (next_member work₂ 1 0) (moved_in _ h (l.passes h))
                (cell_mark after j _ ∙ mark _ h ∙ l.passes h))
            go (no h) =
                le-ltb (next_member work₂ 1 0) 256 (omega arith)
                ∙ sym (any_none (at16 s 5) (λ v. (cell_in after j v).changed)
                (λ v k. cell_mark after j v ∙ mark v (small v k) ∙ l.none_before v (omega arith) (omega (arith, small v k))))

        pub stepped : Stepped s c j successors old (joined (emptied l₃ j) j work₂ 1) (ltb (next_member work₂ 1 0) 256)
        stepped = record {
          cells = λ v h. cell_same after j v _ _ (word_is v h) (mark v (small v h) ∙ moved_is v h);
          others = λ i h m v k.
              cells_same old after i v (word i v h k ∙ p.others i h m v ∙ word_was i v h k) (other_mark i h m v (small v k));
          stirs = stirs;
          idle = λ u h. behind (32 + 8 * at16 s 5 + u) (omega arith) ∙ z.words u h;
          size = replaced_length (emptied l₃ j) j _ ∙ replaced_length l₃ j _ ∙ z.size ∙ p.size ∙ t.relent.size;
        }
