-- A path reduction's figures at a vertex AS ONE NUMBER, of which less is better: each figure in bits of its own, the first key's highest.
use Rattle.std.specs.Prelude.{ℕ, ◌+◌, ◌*◌, ◌-◌, ◌/◌, ◌%◌, ◌^◌, ◌≤◌, ◌<◌, min, max, ◌≡◌, List, [], ◌∷◌}
use Rattle.std.specs.Prelude.{cond, false, not, map, eqb}
use Rattle.std.proofs.Math.Option.{Option, none, some}
use Rattle.std.specs.Int.Bits.{bit_and}
use Rattle.walks.specs.declared.Measure.{Measure}
use Rattle.walks.specs.declared.Measure.TheVariants.{Edges, Weight, Source, Bottleneck}
use Rattle.walks.specs.declared.Extreme.{Extreme}
use Rattle.walks.specs.declared.Extreme.TheVariants.{Least, Greatest}
use Rattle.walks.specs.Keys.{kept, measure}
use Rattle.walks.specs.Meaning.{last}
use Rattle.packed_figures.specs.declared.PathConstants.{PathConstants}

-- how many bits a figure has
abbrev pub width : Measure → ℕ
width Edges = 10
width Weight = 26
width Source = 8
width Bottleneck = 16

-- how many figures of a key its bits tell apart
abbrev pub room : ℕ → ℕ
room k = 2 ^ width (measure k)

-- a figure of at most `top` so that less is better; done twice it is the figure again
abbrev pub flipped : Extreme → ℕ → ℕ → ℕ
flipped Least top x = x
flipped Greatest top x = top - x

-- the figure x of the key k as it stands in the word
abbrev pub code : ℕ → ℕ → ℕ
code k x = flipped (kept k) (room k - 1) x

-- the keys without k; without repeated ones, whose figures stand already
unfoldable pub without : ℕ → List ℕ → List ℕ
without k [] = []
without k (j ∷ ks) = cond (eqb k j) (without k ks) (j ∷ without k ks)

unfoldable pub distinct : List ℕ → List ℕ
distinct [] = []
distinct (k ∷ ks) = k ∷ without k (distinct ks)

-- the bits of the keys together
unfoldable pub bits : List ℕ → ℕ
bits [] = 0
bits (k ∷ ks) = width (measure k) + bits ks

-- a number for each key, each above the bits of the keys after it
unfoldable pub total : (ℕ → ℕ) → List ℕ → ℕ
total f [] = 0
total f (k ∷ ks) = f k * 2 ^ bits ks + total f ks

-- the figure of the key k among those of some keys
unfoldable pub figure_in : List ℕ → List ℕ → ℕ → ℕ
figure_in [] xs k = 0
figure_in (j ∷ ks) [] k = 0
figure_in (j ∷ ks) (x ∷ xs) k = cond (eqb j k) x (figure_in ks xs k)

-- THE WORD of a list of figures
unfoldable pub word : List ℕ → List ℕ → ℕ
word ks xs = total (λ k. code k (figure_in ks xs k)) (distinct ks)

-- where there is no walk: above every word
abbrev pub absent : ℕ
absent = 4611686018427387904

abbrev pub word_of : List ℕ → Option (List ℕ) → ℕ
word_of ks none = absent
word_of ks (some xs) = word ks xs

-- xs are figures of the keys, equal keys with equal figures, and each has room
pub record Small (ks xs : List ℕ) : Type 0 where
  pub of : ℕ → ℕ
  pub listed : xs ≡ map of ks
  pub small : (k : ℕ) → of k < room k

abbrev pub Packs : List ℕ → Option (List ℕ) → Type 0
Packs ks none = Unit {0}
Packs ks (some xs) = Small ks xs

-- 2 to the bits after the key j, what one more of its figure adds to a word; 0 where it is not among the keys
abbrev pub unit_of : ℕ → List ℕ → ℕ
unit_of j ks = total (λ k. cond (eqb k j) 1 0) ks

-- the bits after the key j
unfoldable pub shift_of : ℕ → List ℕ → ℕ
shift_of j [] = 0
shift_of j (k ∷ ks) = cond (eqb k j) (bits ks) (shift_of j ks)

-- back: the figure of the key k in the word x, and the figures of all keys, where there are any
abbrev pub figure_at : List ℕ → ℕ → ℕ → ℕ
figure_at ks x k = flipped (kept k) (room k - 1) (bit_and (x / 2 ^ shift_of k (distinct ks)) (room k - 1))

unfoldable pub figures_of : List ℕ → ℕ → Option (List ℕ)
figures_of ks x = cond (eqb x absent) none (some (map (figure_at ks x) ks))

-- the greatest figure, where the greatest is kept
abbrev pub flip_of : Extreme → ℕ → ℕ
flip_of Least top = 0
flip_of Greatest top = top

-- the constants of a path reduction, of its keys without repeated ones and its last key. Keys 1 to 4 by their units; keys 5 and 6, of which only the
-- last can be one, stand in the low 16 bits
abbrev pub packing : List ℕ → ℕ → PathConstants
packing ks j = record {
  edges = unit_of 1 ks;
  weight = unit_of 2 ks;
  weighs = not (eqb (unit_of 2 ks) 0);
  up = unit_of 3 ks;
  down = unit_of 4 ks;
  last = j;
  base = cond (eqb j 6) 65535 0;
  shift = shift_of j ks;
  mask = room j - 1;
  flip = flip_of (kept j) (room j - 1);
}

unfoldable pub constants : List ℕ → PathConstants
constants ks = packing (distinct ks) (last ks)

-- the low 16 bits t after an edge: by key 5 they are a complement of the walk's capacity, by key 6 that capacity, which is the smallest of its edges; by others
-- they are not bounded
abbrev pub held : PathConstants → ℕ → ℕ → ℕ
held c capacity t = cond (eqb c.last 5) (max t (65535 - capacity)) (cond (eqb c.last 6) (min t capacity) t)

abbrev pub within : PathConstants → ℕ → ℕ → ℕ
within c capacity y = y - y % 65536 + held c capacity (y % 65536)

-- what an edge's weight and capacity make of a word that counts the edge already; what one more edge makes of the word x
unfoldable pub along : PathConstants → ℕ → ℕ → ℕ → ℕ
along c y weight capacity = within c capacity (y + c.weight * weight)

abbrev pub onward : PathConstants → ℕ → ℕ → ℕ → ℕ
onward c x weight capacity = along c (x + c.edges) weight capacity

-- the word of the empty walk at v
unfoldable pub base_word : PathConstants → ℕ → ℕ
base_word c v = c.base + c.up * v + c.down * (255 - v)

-- the last key's figure in the word x
unfoldable pub figure_of : PathConstants → ℕ → ℕ
figure_of c x = let f = bit_and (x / 2 ^ c.shift) c.mask in cond (eqb c.flip 0) f (c.flip - f)

-- what keeps the code within 64 bits: one more edge adds less than 2^43 to a word
pub record Sound (c : PathConstants) : Type 0 where
  pub edges_fit : c.edges ≤ 4398046511104
  pub weight_fits : c.weight ≤ 67108864
  pub weighs_right : c.weighs ≡ false → c.weight ≡ 0
  pub up_fits : c.up ≤ 4398046511104
  pub down_fits : c.down ≤ 4398046511104
  pub base_fits : c.base ≤ 65535
  pub shift_fits : c.shift < 64
  pub mask_fits : c.mask ≤ 67108863
  pub flip_small : c.flip ≤ 67108863
  pub flip_fits : (c.flip ≡ 0 → ⊥) → c.mask ≤ c.flip

-- what the code asks for an edge along which a word goes that counts it already; for the empty walk at v
pub record Extends (c : PathConstants) (y weight capacity : ℕ) : Type 0 where
  pub sound : Sound c
  pub at_most_absent : y ≤ absent + c.edges
  pub weight_fits : weight < 65536
  pub capacity_fits : capacity < 65536

pub record Starts (c : PathConstants) (v : ℕ) : Type 0 where
  pub sound : Sound c
  pub vertex_fits : v < 256
