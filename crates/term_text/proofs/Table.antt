-- The table of different path reductions, in order of first writing: what the reader keeps is what `put` says. Assumes nothing.
use Prim.Native.Nat.{ℕ, zero, suc, ◌+◌, ◌≤◌, ◌<◌, max}
use mathlib.Core.Path.{◌≡◌, refl, sym, ap, ◌∙◌, subst, subst₂}
use mathlib.Core.Bool.{Bool, true, false, cond, ◌||◌}
use mathlib.Core.List.{List, [], ◌∷◌, ◌++◌, map}
use native.Mathlib.Omega.{arith}
use native.Mathlib.Nat.{zero-add}
use borrow.Author.Tests.{leb-false, le-leb, lt-leb}
use lib.Dec.{T, leb}
use lib.ListN.{length, get_or, set, take, length-set, length-append, length-map, get_or-append}
use lib.Seq.{set-get_or, set_at, take_at, append_snoc, get_or-append_seam}
use Rattle.meaning.specs.Limits.{PathFits}
use Rattle.meaning.specs.Plan.{among, position, put, same_path}
use Rattle.meaning.specs.Query.{PathReduction}
use Rattle.meaning.proofs.Lists.{all_append, map_append}
use Rattle.meaning.proofs.Paths.{position_at, position_below}
use Rattle.walks.specs.Lists.{All}
use Rattle.walks.proofs.Tests.{T_of}
use Rattle.progress.specs.Progress.{Scan}
use Rattle.terms.specs.Terms.{kept_path, slot_of}
use Rattle.progress.specs.Progress.{blank}
use Rattle.terms.proofs.Laws.{accepted_as}
use Rattle.packed_path.specs.declared.PackedPath.{PackedPath}
use Rattle.packed_path.specs.Packed.{no_path, packed}
use Rattle.packed_path.proofs.Packed.{same_as}

-- the state w holds the path reductions cs, and has met at most eight reductions
pub record Table (w : Scan) (cs : List PathReduction) : Type 0 where
  pub legal : All (PathFits 256) cs
  pub count : w.paths ≡ length cs
  pub few : length cs ≤ 8
  pub rest : List PackedPath
  pub holds : w.table ≡ map packed cs ++ rest
  pub size : length w.table ≡ 8
  pub few_reductions : w.reductions ≤ 8

-- its numbers come first in the table
pub numbers_held : (w : Scan) (cs : List PathReduction) → Table w cs → take w.paths w.table ≡ map packed cs
numbers_held w cs t = rw t.holds (take_at (map packed cs) t.rest w.paths (length-map cs packed ∙ sym t.count))

-- w' stands n bytes after w, not refused, with z terms and e reductions, and holds the path reductions cs
pub record Further (w w' : Scan) (cs : List PathReduction) (n z e : ℕ) : Type 0 where
  pub code : w'.code ≡ 0
  pub at : w'.at ≡ w.at + n
  pub terms : w'.terms ≡ z
  pub reductions : w'.reductions ≡ e
  pub table : Table w' cs

module _ (c : PathReduction) (f : PathFits 256 c) (table : List PackedPath) where
  -- the search from slot i on ends at the position in ds
  abbrev At : ℕ → List PathReduction → ℕ → ℕ → Type 0
  At k ds p i = slot_of k p table (packed c) i ≡ i + position c ds

  -- the slot found is the position, from `pre` on
  slot_position : (ds : List PathReduction) → All (PathFits 256) ds → (pre rest : List PackedPath) → table ≡ pre ++ (map packed ds ++ rest)
      → length pre + length ds ≤ 8 → (k : ℕ) → k + length pre ≡ 8
      → At k ds (length pre + length ds) (length pre)
  unfolding slot_of
  slot_position [] a pre rest e l zero h = omega arith
  slot_position [] a pre rest e l (suc k) h = rw (le-leb (length pre + 0) (length pre) (omega arith)) (omega arith)
  slot_position (d ∷ ds) a pre rest e l zero h = absurd (omega arith)
  slot_position (d ∷ ds) a pre rest e l (suc k) h =
      rw (lt-leb (length pre + suc (length ds)) (length pre) (omega arith), here, same_as c d f a.0)
      (go (same_path c d) (next (slot_position ds a.1 (pre ++ (packed d ∷ [])) rest
      (e ∙ sym (append_snoc pre (packed d) (map packed ds ++ rest)))
      (omega (arith, longer)) k (omega (arith, longer)))))
    where
      longer : length (pre ++ (packed d ∷ [])) ≡ length pre + 1
      longer = length-append pre (packed d ∷ [])

      here : get_or table (length pre) no_path ≡ packed d
      here = rw e (get_or-append_seam pre (packed d) (map packed ds ++ rest) no_path)

      next : At k ds (length (pre ++ (packed d ∷ [])) + length ds) (length (pre ++ (packed d ∷ [])))
          → At k ds (length pre + suc (length ds)) (length pre + 1)
      next h = subst₂ (At k ds) (let q : length (pre ++ (packed d ∷ [])) + length ds ≡ length pre + suc (length ds) = omega (arith, longer) in q)
          longer h

      go : (b : Bool) → At k ds (length pre + suc (length ds)) (length pre + 1)
          → cond b (length pre) (slot_of k (length pre + suc (length ds)) table (packed c) (length pre + 1)) ≡ length pre + cond b zero
          (suc (position c ds))
      go true n = omega arith
      go false n = omega arith

-- the position of a path reduction that does not stand in the list is its length
position_none : (c : PathReduction) (cs : List PathReduction) → among c cs ≡ false → position c cs ≡ length cs
position_none c [] e = refl
position_none c (d ∷ cs) e = go (same_path c d) (position_none c cs) e
  where
    go : (b : Bool) → (among c cs ≡ false → position c cs ≡ length cs) → (b || among c cs) ≡ false → cond b zero (suc (position c cs))
        ≡ suc (length cs)
    go true f e = absurd (subst T e tt)
    go false f e = ap suc (f e)

-- one path reduction more: the other fields stay
pub record Put (w w' : Scan) (cs : List PathReduction) : Type 0 where
  pub code : w'.code ≡ w.code
  pub at : w'.at ≡ w.at
  pub terms : w'.terms ≡ w.terms
  pub reductions : w'.reductions ≡ w.reductions
  pub table : Table w' cs

module _ (w : Scan) (cs : List PathReduction) (t : Table w cs) (c : PathReduction) (f : PathFits 256 c) where
  slot_is : slot_of 8 w.paths w.table (packed c) 0 ≡ position c cs
  slot_is =
      subst (λ (p : ℕ). slot_of 8 p w.table (packed c) 0 ≡ 0 + position c cs) (zero-add (length cs) ∙ sym t.count)
      (slot_position c f w.table cs t.legal [] t.rest t.holds (omega (arith, t.few)) 8 refl)
      ∙ zero-add (position c cs)

  -- the state with the path reduction in slot i
  abbrev stored : ℕ → Scan
  stored i =
      record {
        code = w.code;
        at = w.at;
        terms = w.terms;
        paths = max w.paths (i + 1);
        reductions = w.reductions;
        table = set w.table i (packed c);
      }

  kept_is : kept_path w (packed c) ≡ cond (leb 8 (position c cs)) (blank 14) (stored (position c cs))
  unfolding kept_path
  kept_is = rw slot_is refl

  -- one that stands there already is put over itself; a new one behind the others
  old : among c cs ≡ true → Table (stored (position c cs)) cs
  old e = record {
    legal = t.legal;
    count = omega (arith, t.count, below);
    few = t.few;
    rest = t.rest;
    holds = ap (set w.table (position c cs)) (sym there) ∙ set-get_or w.table (position c cs) no_path ∙ t.holds;
    size = length-set w.table (position c cs) (packed c) ∙ t.size;
    few_reductions = t.few_reductions;
  }
    where
      below : position c cs < length cs
      below = position_below c cs (T_of e)

      there : get_or w.table (position c cs) no_path ≡ packed c
      there = rw t.holds (get_or-append (map packed cs) t.rest no_path (position c cs) (omega (arith, length-map cs packed, below))
          ∙ position_at packed no_path c cs (T_of e))

  new : among c cs ≡ false → suc (length cs) ≤ 8 → Table (stored (position c cs)) (cs ++ (c ∷ []))
  new e l = go t.rest t.holds
    where
      at : position c cs ≡ length cs
      at = position_none c cs e

      go : (rest : List PackedPath) → w.table ≡ map packed cs ++ rest → Table (stored (position c cs)) (cs ++ (c ∷ []))
      go [] h = absurd (omega (arith, t.size, ap length h, length-append (map packed cs) [], length-map cs packed))
      go (x ∷ rest) h = record {
        legal = all_append (PathFits 256) cs (c ∷ []) t.legal (f, tt);
        count = omega (arith, t.count, length-append cs (c ∷ []), at);
        few = omega (arith, length-append cs (c ∷ []));
        rest = rest;
        holds =
            ap (λ (l : List PackedPath). set l (position c cs) (packed c)) h
            ∙ set_at (map packed cs) x rest (packed c) (position c cs) (length-map cs packed ∙ sym at)
            ∙ sym (append_snoc (map packed cs) (packed c) rest)
            ∙ ap (λ (l : List PackedPath). l ++ rest) (sym (map_append packed cs (c ∷ [])));
        size = length-set w.table (position c cs) (packed c) ∙ t.size;
        few_reductions = t.few_reductions;
      }

  -- A LEGAL PATH REDUCTION IS PUT WHERE `put` PUTS IT, while there is room
  pub kept_room : length (put cs c) ≤ 8 → Put w (kept_path w (packed c)) (put cs c)
  kept_room l = go (among c cs) refl l
    where
      made : (ds : List PathReduction) → position c cs < 8 → Table (stored (position c cs)) ds → Put w (kept_path w (packed c)) ds
      made ds h s =
          subst (λ (v : Scan). Put w v ds) (sym (kept_is ∙ rw (lt-leb 8 (position c cs) h) refl))
          (record { code = refl; at = refl; terms = refl; reductions = refl; table = s })

      go : (b : Bool) → among c cs ≡ b → length (cond b cs (cs ++ (c ∷ []))) ≤ 8
          → Put w (kept_path w (packed c)) (cond b cs (cs ++ (c ∷ [])))
      go true e l = made cs (omega (arith, position_below c cs (T_of e))) (old e)
      go false e l =
          let n = length-append cs (c ∷ []) in
          made (cs ++ (c ∷ [])) (omega (arith, position_none c cs e)) (new e (omega arith))

  full : leb 8 (position c cs) ≡ true → kept_path w (packed c) ≡ blank 14
  full p = kept_is ∙ rw p refl

  -- and a ninth is refused, by 14
  pub kept_few : (kept_path w (packed c)).code ≡ 0 → length (put cs c) ≤ 8
  unfolding blank
  kept_few z = go (among c cs) refl
    where
      go : (b : Bool) → among c cs ≡ b → length (cond b cs (cs ++ (c ∷ []))) ≤ 8
      go true e = t.few
      go false e = room (leb 8 (position c cs)) refl
        where
          room : (b : Bool) → leb 8 (position c cs) ≡ b → length (cs ++ (c ∷ [])) ≤ 8
          room true p = absurd (let y : ◌≡◌ {A = ℕ} 14 0 = accepted_as (full p) z in omega arith)
          room false p = omega (arith, leb-false 8 (position c cs) p, position_none c cs e, length-append cs (c ∷ []))

  pub kept_ninth : 8 < length (put cs c) → kept_path w (packed c) ≡ blank 14
  kept_ninth h = go (leb 8 (position c cs)) refl
    where
      few : (b : Bool) → among c cs ≡ b → position c cs < 8 → length (cond b cs (cs ++ (c ∷ []))) ≤ 8
      few true e l = t.few
      few false e l = omega (arith, position_none c cs e, length-append cs (c ∷ []))

      go : (b : Bool) → leb 8 (position c cs) ≡ b → kept_path w (packed c) ≡ blank 14
      go true p = full p
      go false p = absurd (omega (arith, few (among c cs) refl (leb-false 8 (position c cs) p)))
