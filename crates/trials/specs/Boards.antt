-- Samples of boards (document 02, d), worked out by hand: the numbers that judging them gives, and the answers on map A.
use Rattle.std.specs.Prelude.{ℕ, List, [], ◌∷◌, ◌++◌, length}
use Rattle.board.specs.Reply.{board_reply}
use Rattle.engine.specs.declared.Limit.{Limit}
use Rattle.engine.specs.declared.Limit.TheVariants.{Quiet, Rounds}
use Rattle.wire.specs.Wire.{Reply, done, le64, refused}
use Rattle.trials.specs.Samples.{Reading}

-- a question behind its length, which is below 256
abbrev behind : List ℕ → List ℕ
behind q = length q ∷ 0x00 ∷ q

abbrev asked : List ℕ → ℕ → Reading
asked b k = record { bytes = b; number = k }

-- the marked question, "on map A the result is 2, rounds 3"; "key 6 from 0: 65,535, 4, 4, 4; rounds 4"; a literal, of no chain
abbrev marked : List ℕ
marked = 0x4c ∷ 0x50 ∷ 0x51 ∷ 0x01 ∷ 0x00 ∷ 0x01 ∷ 0x20 ∷ 0x02 ∷ 0x10 ∷ 0x01 ∷ 0x01 ∷ 0x00 ∷ 0x00 ∷ []

abbrev narrowest : List ℕ
narrowest = 0x4c ∷ 0x50 ∷ 0x51 ∷ 0x01 ∷ 0x00 ∷ 0x00 ∷ 0x10 ∷ 0x01 ∷ 0x06 ∷ 0x00 ∷ 0x00 ∷ []

abbrev nine : List ℕ
nine = 0x4c ∷ 0x50 ∷ 0x51 ∷ 0x01 ∷ 0x00 ∷ 0x01 ∷ 0x21 ∷ 0x09 ∷ 0x00 ∷ 0x00 ∷ 0x00 ∷ []

-- the sum of the seconds from each of some starts: as many chains
abbrev chains : List ℕ → List ℕ
chains [] = []
chains (s ∷ []) = 0x10 ∷ 0x01 ∷ 0x02 ∷ s ∷ 0x00 ∷ []
chains (s ∷ (t ∷ ss)) = 0x12 ∷ 0x03 ∷ 0x10 ∷ 0x01 ∷ 0x02 ∷ s ∷ 0x00 ∷ chains (t ∷ ss)

abbrev seconds : List ℕ → List ℕ
seconds ss = 0x4c ∷ 0x50 ∷ 0x51 ∷ 0x01 ∷ 0x00 ∷ 0x00 ∷ chains ss

-- the numbers
abbrev pub judged : List Reading
judged =
    -- "A missing count is 1, a count of 0 or above eight is 12."
    asked [] 1
    ∷ asked (0 ∷ behind nine) 12
    ∷ asked (9 ∷ behind nine) 12
    ∷ asked (1 ∷ behind nine) 0
    -- "a missing length or one running past the end being 1"
    ∷ asked (1 ∷ []) 1
    ∷ asked (1 ∷ 0x0b ∷ []) 1
    ∷ asked (1 ∷ 0x0c ∷ 0x00 ∷ nine) 1
    ∷ asked (2 ∷ behind nine) 1
    -- a question of exactly these bytes: none, cut, or with one left over, judged before what follows
    ∷ asked (1 ∷ 0x00 ∷ 0x00 ∷ nine) 1
    ∷ asked (1 ∷ 0x0a ∷ 0x00 ∷ nine) 1
    ∷ asked (1 ∷ 0x0c ∷ 0x00 ∷ (nine ++ (0x00 ∷ []))) 6
    ∷ asked (2 ∷ (behind (seconds (0 ∷ [])) ++ behind (0x4c ∷ 0x50 ∷ 0x57 ∷ 0x01 ∷ 0x00 ∷ []))) 2
    -- "left-over bytes are 6"
    ∷ asked (1 ∷ (behind nine ++ (0x00 ∷ []))) 6
    -- "a ninth different chain over them all is 14": eight, nine, nine with one written twice; after what the questions themselves are refused by, and after 6
    ∷ asked (2 ∷ (behind (seconds (0 ∷ 1 ∷ 2 ∷ 3 ∷ 4 ∷ [])) ++ behind (seconds (5 ∷ 6 ∷ 7 ∷ [])))) 0
    ∷ asked (2 ∷ (behind (seconds (0 ∷ 1 ∷ 2 ∷ 3 ∷ 4 ∷ [])) ++ behind (seconds (5 ∷ 6 ∷ 7 ∷ 8 ∷ [])))) 14
    ∷ asked (2 ∷ (behind (seconds (0 ∷ 1 ∷ 2 ∷ 3 ∷ 4 ∷ [])) ++ behind (seconds (5 ∷ 6 ∷ 7 ∷ 4 ∷ [])))) 0
    ∷ asked (3 ∷ (behind (seconds (0 ∷ 1 ∷ 2 ∷ 3 ∷ 4 ∷ [])) ++ behind (seconds (5 ∷ 6 ∷ 7 ∷ 8 ∷ [])) ++ behind (0x4c ∷ []))) 1
    ∷ asked (2 ∷ (behind (seconds (0 ∷ 1 ∷ 2 ∷ 3 ∷ 4 ∷ [])) ++ behind (seconds (5 ∷ 6 ∷ 7 ∷ 8 ∷ [])) ++ (0x00 ∷ []))) 6
    -- its own ninth chain in its turn, before a question that is cut
    ∷ asked (2 ∷ (behind (seconds (0 ∷ 1 ∷ 2 ∷ 3 ∷ 4 ∷ 5 ∷ 6 ∷ 7 ∷ 8 ∷ [])) ++ behind (0x4c ∷ []))) 14
    ∷ []

-- map A
abbrev map_a : List ℕ
map_a =
    0x4c ∷ 0x50 ∷ 0x4d ∷ 0x01 ∷ 0x00 ∷ 0x04 ∷ 0x00 ∷ 0x04 ∷ 0x00
    ∷ 0x00 ∷ 0x00 ∷ 0x01 ∷ 0x00 ∷ 0x05 ∷ 0x00 ∷ 0x0a ∷ 0x00
    ∷ 0x00 ∷ 0x00 ∷ 0x02 ∷ 0x00 ∷ 0x02 ∷ 0x00 ∷ 0x04 ∷ 0x00
    ∷ 0x02 ∷ 0x00 ∷ 0x01 ∷ 0x00 ∷ 0x03 ∷ 0x00 ∷ 0x14 ∷ 0x00
    ∷ 0x01 ∷ 0x00 ∷ 0x03 ∷ 0x00 ∷ 0x00 ∷ 0x00 ∷ 0x07 ∷ 0x00 ∷ []

-- an answer on it: rounds, kind, rows
abbrev answer_a : ℕ → ℕ → List ℕ → List ℕ
answer_a rounds kind rows = 0x4c ∷ 0x50 ∷ 0x41 ∷ 0x01 ∷ 0x00 ∷ 0x04 ∷ 0x00 ∷ rounds ∷ 0x00 ∷ kind ∷ rows

abbrev row : ℕ → List ℕ
row x = 0x01 ∷ le64 x

abbrev absent : List ℕ
absent = 0x00 ∷ le64 0

-- a board on a map, for a limit and a room; and what it is answered
pub record Asked : Type 0 where
  pub limit : Limit
  pub board : List ℕ
  pub map : List ℕ
  pub room : ℕ
  pub reply : Reply

abbrev pub replied : Asked → Reply
replied a = board_reply a.limit a.board a.map a.room

abbrev on_a : Limit → List ℕ → ℕ → Reply → Asked
on_a limit b room r = record { limit = limit; board = b; map = map_a; room = room; reply = r }

-- the answers
abbrev pub replies : List Asked
replies =
    -- "Every answer equals that of its question alone, except that rounds is the greatest of the separate counts": 3 and 4, in either order
    on_a Quiet (2 ∷ (behind marked ++ behind narrowest)) 65
    (done (answer_a 4 1 (row 2) ++ answer_a 4 0 (row 65535 ++ row 4 ++ row 4 ++ row 4)))
    ∷ on_a Quiet (2 ∷ (behind narrowest ++ behind marked)) 65
    (done (answer_a 4 0 (row 65535 ++ row 4 ++ row 4 ++ row 4) ++ answer_a 4 1 (row 2)))
    -- "one after another or not at all": 15 for both together
    ∷ on_a Quiet (2 ∷ (behind marked ++ behind narrowest)) 64 (refused 15)
    -- alone it has its own count; with no chain that is round 1
    ∷ on_a Quiet (1 ∷ behind marked) 19 (done (answer_a 3 1 (row 2)))
    ∷ on_a Quiet (2 ∷ (behind nine ++ behind nine)) 38 (done (answer_a 1 1 (row 9) ++ answer_a 1 1 (row 9)))
    -- stopped, every answer reports the number given
    ∷ on_a (Rounds 1) (2 ∷ (behind marked ++ behind narrowest)) 65
    (done (answer_a 1 1 (row 1) ++ answer_a 1 0 (row 65535 ++ row 10 ++ row 4 ++ absent)))
    -- the board before the map, the map before the starts (4 is no place of map A), the starts before 15
    ∷ record { limit = Quiet; board = 0 ∷ []; map = []; room = 0; reply = refused 12 }
    ∷ record { limit = Quiet; board = 1 ∷ behind (seconds (4 ∷ [])); map = []; room = 0; reply = refused 1 }
    ∷ on_a Quiet (2 ∷ (behind marked ++ behind (seconds (4 ∷ [])))) 0 (refused 13)
    ∷ on_a Quiet (1 ∷ behind marked) 18 (refused 15)
    ∷ []
