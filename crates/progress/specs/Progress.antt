-- How far a reading has come: before the first term, after a refusal, after the last term.
use Rattle.std.specs.Prelude.{ℕ, cond, List, Result, Ok, Err, ltb, eqb, length, replicate}
use Rattle.packed_path.specs.declared.PackedPath.{PackedPath}
use Rattle.packed_path.specs.Packed.{no_path}
use Rattle.progress.specs.declared.Progress.{Progress}
use Rattle.wire.specs.Refusal.{number}
use Rattle.wire.specs.declared.Refusal.{Refusal}

-- a reading by its number: 0 and how far it has come, or the number of the refusal
pub record Scan : Type 0 where
  pub code : ℕ
  pub at : ℕ
  pub terms : ℕ
  pub paths : ℕ
  pub reductions : ℕ
  pub table : List PackedPath

-- the state after a refusal
unfoldable pub blank : ℕ → Scan
blank code = record { code = code; at = 0; terms = 0; paths = 0; reductions = 0; table = replicate 8 no_path }

-- the state before the first term, at byte `at`
unfoldable pub started : ℕ → Scan
started at = record { code = 0; at = at; terms = 0; paths = 0; reductions = 0; table = replicate 8 no_path }

-- "Left-over bytes come last": 6
unfoldable pub ended : List ℕ → Scan → Scan
ended s w = cond (eqb w.code 0) (cond (ltb w.at (length s)) (blank 6) w) w

-- a reading that nothing has refused
abbrev pub going : Progress → Scan
going w = record { code = 0; at = w.at; terms = w.terms; paths = w.paths; reductions = w.reductions; table = w.table }

-- what a step of a reading leaves: how far it has come, or the refusal
abbrev pub scanned : {A : Type 0} → Result A Refusal → Progress → Scan
scanned (Ok x) w = going w
scanned (Err e) w = blank (number e)

-- a whole reading
abbrev pub scan_of : Result Progress Refusal → Scan
scan_of (Ok w) = going w
scan_of (Err e) = blank (number e)
