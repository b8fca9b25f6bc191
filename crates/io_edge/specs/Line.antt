-- Lines of an input. A line ends at an LF, or at the end of the input.
-- That it has at most 4,096 bytes is this project's own.
use Rattle.std.specs.Prelude.{◌≡◌, ◌≢◌, ◌<◌, ◌≤◌, ◌+◌, ◌↔◌, ℕ, List, [], ◌∷◌, ◌++◌, length, max}
use Rattle.std.specs.Prelude.{nat_lt, if◌then◌else◌, ◌⊎◌, Option, None, Some}
use Rattle.std.specs.List.{All}
use Rattle.cfg_base.specs.Bytes.{without_last_cr}
use Rattle.io_edge.specs.Feed.{LinesView}
use Rattle.io_edge.specs.declared.lines.TheConstants.{MAX_LINE}
use Rattle.io_edge.specs.declared.lines.Line.{Line}
use Rattle.io_edge.specs.declared.lines.Line.TheVariants.{Text, TooLong, End, Failed, InputFull}

-- no byte is an LF
abbrev pub HasNoLf : List ℕ → Type 0
HasNoLf bytes = All (λ byte. byte ≢ 10) bytes

-- the answer for a line that an LF ends
abbrev pub ended_line : List ℕ → Line
ended_line line = if nat_lt MAX_LINE (length line) then TooLong else Text (without_last_cr line)

-- the answer for a line that the end of the input ends
abbrev pub last_line_of : List ℕ → Line
last_line_of line = if nat_lt MAX_LINE (length line) then TooLong else Text line

-- a line and its LF were taken, and the answer is that line's
pub record IsEndedLine (answer : Line) (old : List ℕ) (old_room : ℕ) (now : List ℕ) (now_room : ℕ) : Type 0 where
  pub line : List ℕ
  pub no_lf : HasNoLf line
  pub bytes : old ≡ line ++ 10 ∷ now
  pub room : old_room ≡ length line + 1 + now_room
  pub answers : answer ≡ ended_line line

-- all that was left is one line without an LF, it was taken, and the answer is that line's
pub record IsLastLine (answer : Line) (old : List ℕ) (old_room : ℕ) (now : List ℕ) (now_room : ℕ) : Type 0 where
  pub line : List ℕ
  pub no_lf : HasNoLf line
  pub some : 0 < length line
  pub bytes : old ≡ line
  pub used_up : now ≡ []
  pub room : old_room ≡ length line + now_room
  pub answers : answer ≡ last_line_of line

-- a line is unfinished after as many bytes as might be taken, and there is another byte
pub record IsFull (old : List ℕ) (old_room : ℕ) (now : List ℕ) (now_room : ℕ) : Type 0 where
  pub part : List ℕ
  pub no_lf : HasNoLf part
  pub bytes : old ≡ part ++ now
  pub more : 0 < length now
  pub whole_room : length part ≡ old_room
  pub no_room : now_room ≡ 0

-- a line is unfinished where the source failed, and what was taken of it is gone
pub record IsCutOff (old : List ℕ) (old_room : ℕ) (now : List ℕ) (now_room : ℕ) : Type 0 where
  pub part : List ℕ
  pub no_lf : HasNoLf part
  pub bytes : old ≡ part ++ now
  pub room : old_room ≡ length part + now_room

-- the answer of a line reader that had the bytes `old`, of which `old_room` might be taken, and
-- that left `now` and `now_room`
abbrev pub Gives : Line → List ℕ → ℕ → List ℕ → ℕ → Type 0
Gives (Text bytes) old old_room now now_room =
    IsEndedLine (Text bytes) old old_room now now_room ⊎ IsLastLine (Text bytes) old old_room now now_room
Gives TooLong old old_room now now_room =
    IsEndedLine TooLong old old_room now now_room ⊎ IsLastLine TooLong old old_room now now_room
Gives End old old_room now now_room = (old ≡ []) × (now ≡ []) × (now_room ≡ old_room)
Gives InputFull old old_room now now_room = IsFull old old_room now now_room
Gives Failed old old_room now now_room = IsCutOff old old_room now now_room

-- a relation of what was left with what is left, where it is told; no call changes whether it is
abbrev pub TellsBoth : (List ℕ → List ℕ → Type 0) → Option (List ℕ) → Option (List ℕ) → Type 0
TellsBoth R None None = Unit {0}
TellsBoth R (Some old) (Some now) = R old now
TellsBoth R None (Some now) = ⊥
TellsBoth R (Some old) None = ⊥

-- the same, of bytes that are told or not
abbrev pub GivesLine : Line → Option (List ℕ) → ℕ → Option (List ℕ) → ℕ → Type 0
GivesLine answer old_left old_room now_left now_room =
    TellsBoth (λ old now. Gives answer old old_room now now_room) old_left now_left

-- how many bytes may still be taken after that answer: fewer after a line, as many at the end,
-- none where the input is full
abbrev pub Falls : Line → ℕ → ℕ → Type 0
Falls (Text bytes) old_room now_room = now_room < old_room
Falls TooLong old_room now_room = now_room < old_room
Falls End old_room now_room = now_room ≡ old_room
Falls InputFull old_room now_room = now_room ≡ 0
Falls Failed old_room now_room = now_room ≤ old_room

-- what was read ahead once a line was given: no more than may be taken, and one byte where none may be; the source gave a byte
-- more than may be taken exactly where the input is full
pub record ReadAhead (line : Line) (now : LinesView) : Type 0 where
  pub within : now.ahead ≤ max now.room 1
  pub full : line ≡ InputFull ↔ (now.room < now.ahead)
