-- NO LEGAL QUERY IS LONGER THAN 1,286 BYTES: 6, and of 64 terms. Two terms more are at most 40 bytes more, an operator of 2 and a path reduction of 38, with
-- three keys and 16 starts; a term of an odd number has 38 more. Assumes nothing.
use Prim.Native.Nat.{ℕ, zero, suc, ◌+◌, ◌*◌, ◌≤◌}
use mathlib.Core.Path.{◌≡◌, refl}
use mathlib.Core.List.{List, ◌∷◌, ◌++◌}
use native.Mathlib.Omega.{arith}
use lib.Dec.{T, leb→le}
use lib.ListN.{length, length-append}
use Rattle.meaning.specs.Limits.{QueryLegal, TermFits, size_of}
use Rattle.meaning.specs.Query.{Kind, PathReduction, Query, QueryTerm, each, number, operator, over, over_where, path, path_set, result, single, vertex}
use Rattle.term_text.specs.Text.{query_bytes, start_of, starts_bytes}
use Rattle.term_text.proofs.Sources.{starts_size}
use Rattle.packed_path.proofs.Keys.{legal_parts}
use Rattle.walks.specs.Keys.{legal_keys}
use Rattle.wire.specs.Wire.{le16}
use Rattle.query.specs.Query.{encode}

-- so many bytes of so many terms: 2 * k of them, and one where they are odd
record Short (bytes terms : ℕ) : Type 0 where
  pairs : ℕ
  odd : ℕ
  one : odd ≤ 1
  counted : terms ≡ 2 * pairs + odd
  short : bytes ≤ 40 * pairs + 38 * odd

-- two bytes and a term more; two bytes and two terms
one_more : {bytes terms : ℕ} → Short bytes terms → Short (suc (suc bytes)) (suc terms)
one_more {bytes} {terms} a = go a.odd refl
  where
    go : (b : ℕ) → a.odd ≡ b → Short (suc (suc bytes)) (suc terms)
    go zero e = record { pairs = a.pairs; odd = 1; one = omega arith; counted = omega (arith, a.counted); short = omega (arith, a.short) }
    go (suc b) e = record {
      pairs = suc a.pairs;
      odd = 0;
      one = omega arith;
      counted = omega (arith, a.counted, a.one);
      short = omega (arith, a.short, a.one);
    }

two_more : (l m : List ℕ) {x y : ℕ} → Short (length l) x → Short (length m) y → Short (suc (suc (length (l ++ m)))) (suc (x + y))
two_more l m {x} {y} a b = go (a.odd + b.odd) refl
  where
    both : length (l ++ m) ≡ length l + length m
    both = length-append l m

    go : (k : ℕ) → a.odd + b.odd ≡ k → Short (suc (suc (length (l ++ m)))) (suc (x + y))
    go zero e = record {
      pairs = a.pairs + b.pairs;
      odd = 1;
      one = omega arith;
      counted = omega (arith, a.counted, b.counted);
      short = omega (arith, a.short, b.short, both);
    }
    go (suc zero) e = record {
      pairs = suc (a.pairs + b.pairs);
      odd = 0;
      one = omega arith;
      counted = omega (arith, a.counted, b.counted);
      short = omega (arith, a.short, b.short, both);
    }
    go (suc (suc k)) e = record {
      pairs = suc (a.pairs + b.pairs);
      odd = 1;
      one = omega arith;
      counted = omega (arith, a.counted, b.counted, a.one, b.one);
      short = omega (arith, a.short, b.short, both, a.one, b.one);
    }

-- at most three keys
few_keys : (c : PathReduction) → T (legal_keys c.keys) → length c.keys ≤ 3
few_keys c t = leb→le (length c.keys) 3 (legal_parts c.keys t).1

module _ (n : ℕ) where
  term_short : (κ : Kind) (t : QueryTerm κ) → TermFits n t → Short (length (query_bytes κ t)) (size_of t)
  term_short κ (path c) f = record {
    pairs = 0;
    odd = 1;
    one = omega arith;
    counted = refl;
    short = omega (arith, few_keys c f.0.0, length-append c.keys (le16 (start_of c.sources)));
  }
  term_short κ (path_set c) f = record {
    pairs = 0;
    odd = 1;
    one = omega arith;
    counted = refl;
    short = omega (
      arith,
      few_keys c f.0.0,
      f.0.1.2,
      starts_size c.sources,
      length-append c.keys (length c.sources ∷ starts_bytes c.sources),
    );
  }
  term_short κ (over o t) f = one_more (term_short vertex t f.2)
  term_short κ (over_where o c t) f =
      two_more (query_bytes vertex c) (query_bytes vertex t) (term_short vertex c f.2) (term_short vertex t f.3)
  term_short κ (number x) f = record { pairs = 0; odd = 1; one = omega arith; counted = refl; short = omega arith }
  term_short κ (operator o s t) f = two_more (query_bytes κ s) (query_bytes κ t) (term_short κ s f.2) (term_short κ t f.3)

-- THE LONGEST QUERY
pub query_short : (n : ℕ) (q : Query) → QueryLegal n q → length (encode q) ≤ 1286
query_short n (each t) l = let s = term_short n vertex t l.legal in omega (arith, s.one, s.counted, s.short, l.few_terms)
query_short n (single t) l = let s = term_short n result t l.legal in omega (arith, s.one, s.counted, s.short, l.few_terms)
