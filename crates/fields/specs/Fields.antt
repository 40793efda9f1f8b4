-- Fields of terms, judged: "missing (1) before wrong". A byte past the end reads as 256.
use Rattle.std.specs.Prelude.{ℕ, ◌+◌, ◌*◌, Bool, cond, List, ltb, eqb, get_or}
use Rattle.walks.specs.Keys.{early, known}
use Rattle.wire.specs.Header.{header_code, then}

-- "a kind byte, 0 for a value at each place, 1 for one result"; "9 | code | an illegal kind"
abbrev pub kind_code : ℕ → ℕ
kind_code b = cond (ltb 255 b) 1 (cond (ltb 1 b) 9 0)

-- how a question or a worksheet begins: its header, and its kind behind five bytes
abbrev pub opening_code : ℕ → ℕ → List ℕ → ℕ
opening_code letter newest s = then (header_code letter newest 5 s) (kind_code (get_or s 5 256))

-- a byte from 1 to `most`: "9 | code | an illegal .. key count, key, operator, reduction .. byte"
abbrev pub code_of : ℕ → ℕ → ℕ
code_of b most = cond (ltb 255 b) 1 (cond (eqb b 0) 9 (cond (ltb most b) 9 0))

-- "a key 9 before 10"; "10 | key order | key 5 or 6 before the last"
abbrev pub key_code : ℕ → Bool → ℕ
key_code b last = cond (ltb 255 b) 1 (cond (known b) (cond last 0 (cond (early b) 0 10)) 9)

-- "13 | start | start 256 to 65,534"
abbrev pub source_code : ℕ → ℕ → ℕ
source_code low high = cond (ltb 255 high) 1 (cond (ltb (low + 256 * high) 256) 0 (cond (eqb (low + 256 * high) 65535) 0 13))
