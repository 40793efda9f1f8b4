-- All path reductions of a table: their initial values, a round of all in turn, and rounds until one is quiet. Assumes nothing.
use Prim.Native.Nat.{ℕ, zero, suc, ◌+◌, ◌*◌, ◌≤◌, ◌<◌}
use mathlib.Core.Path.{◌≡◌, refl, sym, ap, ap₂, ◌∙◌, subst}
use mathlib.Core.Logic.{inl, inr}
use mathlib.Core.Bool.{Bool, true, false, not, ◌&&◌, ◌||◌}
use mathlib.Core.List.{List, [], ◌∷◌, map}
use native.Mathlib.Omega.{arith}
use native.Mathlib.Decide.{ℕ_discrete}
use native.Mathlib.Nat.{not-suc-le-zero}
use borrow.Author.Tests.{not-false}
use lib.Dec.{T}
use lib.ListN.{length, get_or}
use Rattle.walks.specs.Rounds.{quiet, unchanged}
use Rattle.walks.specs.Walks.{Graph}
use Rattle.walks.proofs.Tests.{T_of}
use Rattle.meaning.specs.Run.{pull}
use Rattle.graph.specs.Graph.{graph_of}
use Rattle.packed_path.specs.declared.PackedPath.{PackedPath}
use Rattle.packed_path.specs.Packed.{no_path, path_of}
use Rattle.table.specs.Table.{Idle, path_at, paths_in}
use Rattle.rounds.specs.Run.{Advanced, AllStand, Begun, Ended, Ran, Stands, quiet_after}
use Rattle.rounds.proofs.Given.{Given, T_true}
use Rattle.rounds.proofs.Standing.{begun_stands, not_both, stands_kept}

and_true : (a : Bool) → a && true ≡ a
and_true true = refl
and_true false = refl

and_assoc : (a b c : Bool) → a && (b && c) ≡ (a && b) && c
and_assoc true b c = refl
and_assoc false b c = refl

-- one more is quiet where it changes nothing
quiet_more : (g : Graph) (r n : ℕ) (table : List PackedPath) (k : ℕ) → k < length table
    → quiet n (map (pull g) (paths_in (suc k) table)) r ≡ quiet n (map (pull g) (paths_in k table)) r && unchanged (pull g (path_at table k)) r n
quiet_more g r n [] k h = absurd (not-suc-le-zero h)
quiet_more g r n (x ∷ t) zero h = and_true (unchanged (pull g (path_of x)) r n)
quiet_more g r n (x ∷ t) (suc k) h =
    ap (λ (b : Bool). unchanged (pull g (path_of x)) r n && b) (quiet_more g r n t k (omega arith))
    ∙ and_assoc (unchanged (pull g (path_of x)) r n) (quiet n (map (pull g) (paths_in k t)) r) (unchanged (pull g (path_at t k)) r n)

module _ (g : Graph) (paths : ℕ) (table : List PackedPath) (b : paths ≤ 8) where
  -- ---- initial values

  -- those of the first k
  pub started_all : (k : ℕ) (l : List ℕ) → AllStand g k table 0 l → k ≡ paths → AllStand g paths table 0 l
  started_all k l x e = record { each = λ j h. x.each j (omega arith); long = x.long; idle = x.idle }

  -- ---- a round, after those of the first k

  pub record Upto (r k : ℕ) (l : List ℕ) (changed : Bool) : Type 0 where
    pub done : (j : ℕ) → j < k → Stands g (path_at table j) (suc r) j l
    pub waits : (j : ℕ) → k ≤ j → j < paths → Stands g (path_at table j) r j l
    pub long : 32 + 9 * g.vertices ≤ length l
    pub idle : Idle g.vertices l
    pub says : changed ≡ not (quiet g.vertices (map (pull g) (paths_in k table)) r)

  pub upto_none : (r : ℕ) (l : List ℕ) → AllStand g paths table r l → Upto r 0 l false
  upto_none r l x = record { done = λ j h. absurd (not-suc-le-zero h); waits = λ j h k. x.each j k; long = x.long; idle = x.idle; says = refl }

  pub upto_all : (r k : ℕ) (l : List ℕ) (changed : Bool) → k ≡ paths → Upto r k l changed
      → AllStand g paths table (suc r) l × (changed ≡ not (quiet_after g paths table r))
  upto_all r k l changed e x = (
    record { each = λ j h. x.done j (omega arith); long = x.long; idle = x.idle },
    x.says ∙ ap (λ (i : ℕ). not (quiet g.vertices (map (pull g) (paths_in i table)) r)) e,
  )

  module _ (r k : ℕ) (h : k < paths) (here : k < length table) (l l' : List ℕ) (changed moved : Bool)
      (x : Upto r k l changed) (t : Advanced g (path_at table k) r k l l' moved) where
    kept : (q j : ℕ) → j < paths → (j ≡ k → ⊥) → Stands g (path_at table j) q j l → Stands g (path_at table j) q j l'
    kept q j i n = stands_kept g (path_at table j) q j l l' t.0.sound.long t.0.sound.idle (λ v m. t.2 j (omega arith) n v m)

    done_now : (j : ℕ) → j < suc k → Dec (j ≡ k) → Stands g (path_at table j) (suc r) j l'
    done_now j i (yes e) = subst (λ (a : ℕ). Stands g (path_at table a) (suc r) a l') (sym e) t.0
    done_now j i (no n) = let m : ¬ (j ≡ k) = n in kept (suc r) j (omega arith) n (x.done j (omega arith))

    pub upto_more : Upto r (suc k) l' (changed || moved)
    upto_more = record {
      done = λ j i. done_now j i (ℕ_discrete j k);
      waits = λ j i m. kept r j m (λ q. omega arith) (x.waits j (omega arith) m);
      long = t.0.sound.long;
      idle = t.0.sound.idle;
      says =
          ap₂ ◌||◌ x.says t.1
          ∙ not_both (quiet g.vertices (map (pull g) (paths_in k table)) r) (unchanged (pull g (path_at table k)) r g.vertices)
          ∙ ap not (sym (quiet_more g r g.vertices table k here));
    }

  -- ---- rounds until one is quiet

  -- none of the rounds so far was
  abbrev pub Unquiet : ℕ → Type 0
  Unquiet r = (q : ℕ) → q < r → T (quiet_after g paths table q) → ⊥

  pub unquiet_more : (r : ℕ) → Unquiet r → true ≡ not (quiet_after g paths table r) → Unquiet (suc r)
  unquiet_more r f e q h t = go (ℕ_discrete q r)
    where
      go : Dec (q ≡ r) → ⊥
      go (yes p) =
          let y : quiet_after g paths table r ≡ true = ap (quiet_after g paths table) (sym p) ∙ T_true (quiet_after g paths table q) t in
          subst T (e ∙ ap not y) tt
      go (no n) = let m : ¬ (q ≡ r) = n in f q (omega arith) t

  ran_as : (limit r : ℕ) (l : List ℕ) → r ≤ limit → AllStand g paths table r l → Ended g paths table limit r → Ran g paths table limit r l
  ran_as limit r l h x e = record { within = h; ended = e; shows = λ j i. (x.each j i).figures; sound = λ j i. (x.each j i).sound }

  -- the last was quiet
  pub ran_quiet : (limit r : ℕ) (l : List ℕ) → r < limit → AllStand g paths table (suc r) l → Unquiet r → false
      ≡ not (quiet_after g paths table r)
      → Ran g paths table limit (suc r) l
  ran_quiet limit r l h x f e = ran_as limit (suc r) l (omega arith) x (inr (r, refl, T_of (not-false (quiet_after g paths table r) (sym e)), f))

  -- none of those given was
  pub ran_spent : (limit r : ℕ) (l : List ℕ) → r ≡ limit → AllStand g paths table r l → Unquiet r → Ran g paths table limit r l
  ran_spent limit r l e x f = ran_as limit r l (omega arith) x (inl (e, λ q h. f q (omega arith)))

-- initial values of one more
module _ (s : List ℕ) (table : List PackedPath) (k : ℕ) (h : k < 8) (given : Given s (get_or table k no_path))
    (l l' : List ℕ) (x : AllStand (graph_of s) k table 0 l) (y : Begun (graph_of s) (path_at table k) k l l') where
  shown_now : (j : ℕ) → j < suc k → Dec (j ≡ k) → Stands (graph_of s) (path_at table j) 0 j l'
  shown_now j i (yes e) =
      subst (λ (a : ℕ). Stands (graph_of s) (path_at table a) 0 a l') (sym e) (begun_stands s (get_or table k no_path) given k l l' y)
  shown_now j i (no n) =
      let m : ¬ (j ≡ k) = n in
      stands_kept (graph_of s) (path_at table j) 0 j l l' y.sound.long y.sound.idle (λ v q. y.others j (omega arith) n v q) (x.each j (omega
      arith))

  pub started_more : AllStand (graph_of s) (suc k) table 0 l'
  started_more = record { each = λ j i. shown_now j i (ℕ_discrete j k); long = y.sound.long; idle = y.sound.idle }
