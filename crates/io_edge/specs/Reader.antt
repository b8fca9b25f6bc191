-- How a line reader goes over its bytes, step by step.
use Rattle.std.specs.Prelude.{◌≡◌, ◌≢◌, ◌<◌, ◌≤◌, ◌+◌, ℕ, List, [], ◌∷◌, length, take, ◌==◌}
use Rattle.std.specs.Prelude.{if◌then◌else◌}
use Rattle.io_edge.specs.Ends.{onto, IsUsedUp, HasMore}
use Rattle.cfg_base.specs.Counts.{Rose}
use Rattle.io_edge.specs.Feed.{LinesView}
use Rattle.io_edge.specs.Line.{HasNoLf, ended_line, last_line_of}
use Rattle.io_edge.specs.declared.lines.Line.{Line}
use Rattle.io_edge.specs.declared.lines.Line.TheVariants.{InputFull, End as AtEnd}
use Rattle.io_edge.specs.declared.lines.Line.TheVariants.{Failed as AtFault}
use Rattle.io_edge.specs.declared.lines.TheConstants.{MAX_LINE}
use Rattle.io_edge.specs.declared.lines.Filled.{Filled}
use Rattle.io_edge.specs.declared.lines.Filled.TheVariants.{Ready, Out, Broken}
use Rattle.io_edge.specs.declared.lines.Taken.{Taken}
use Rattle.io_edge.specs.declared.lines.Taken.TheVariants.{Byte, Stop as stop_of}
use Rattle.io_edge.specs.declared.lines.Stop.{Stop}
use Rattle.io_edge.specs.declared.lines.Stop.TheVariants.{Lf, End, Full, Failed}

-- after a look for a byte: one is ahead, or the source is used up, or the source failed
abbrev pub IsFilled : Filled → LinesView → LinesView → Type 0
IsFilled Ready old now = 0 < now.ahead
IsFilled Out old now = (now.ahead ≡ 0) × IsUsedUp now.left
IsFilled Broken old now = (now.ahead ≡ 0) × Rose old.faults now.faults

-- a byte was taken, of those that may be taken
pub record TakesByte (byte : ℕ) (old now : LinesView) : Type 0 where
  pub bytes : old.left ≡ onto (byte ∷ []) now.left
  pub room : old.room ≡ now.room + 1
  pub ahead : now.ahead ≤ now.room

-- no byte was taken
pub record TakesNone (old now : LinesView) : Type 0 where
  pub bytes : now.left ≡ old.left
  pub room : now.room ≡ old.room

-- why a line stops: its LF was taken, nothing is left, none may be taken, or the source failed
abbrev pub Stops : Stop → LinesView → LinesView → Type 0
Stops Lf old now = TakesByte 10 old now
Stops End old now = TakesNone old now × (now.ahead ≡ 0) × IsUsedUp now.left
Stops Full old now = TakesNone old now × (now.room ≡ 0) × (now.ahead ≡ 1) × HasMore now.left
Stops Failed old now = TakesNone old now × (now.ahead ≡ 0) × Rose old.faults now.faults

-- a byte of the line was taken, or the line stops
abbrev pub Takes : Taken → LinesView → LinesView → Type 0
Takes (Byte byte) old now = (byte ≢ 10) × TakesByte byte old now
Takes (stop_of stop) old now = Stops stop old now

-- what a byte is that was taken: one of the line, or its LF
abbrev pub IsTakenAs : Taken → ℕ → Type 0
IsTakenAs (Byte taken) byte = (taken ≡ byte) × (byte ≢ 10)
IsTakenAs (stop_of Lf) byte = byte ≡ 10
IsTakenAs (stop_of End) byte = ⊥
IsTakenAs (stop_of Full) byte = ⊥
IsTakenAs (stop_of Failed) byte = ⊥

-- a part of a line was taken, of which the first bytes are kept: one more than a line may have
pub record Gathered (kept : List ℕ) (old now : LinesView) : Type 0 where
  pub part : List ℕ
  pub no_lf : HasNoLf part
  pub bytes : old.left ≡ onto part now.left
  pub room : old.room ≡ length part + now.room
  pub is_kept : kept ≡ take (MAX_LINE + 1) part
  pub later : old.faults ≤ now.faults

-- a line, or a part of one, was taken up to its stop
pub record GathersTo (stop : Stop) (kept : List ℕ) (old now : LinesView) : Type 0 where
  pub mid : LinesView
  pub gathered : Gathered kept old mid
  pub stops : Stops stop mid now
  pub later : mid.faults ≤ now.faults

-- the answer at the end of the input, after these bytes
abbrev pub end_of : List ℕ → Line
end_of line = if length line == 0 then AtEnd else last_line_of line

-- the answer for the bytes of a line up to its stop
abbrev pub answer_of : Stop → List ℕ → Line
answer_of Lf line = ended_line line
answer_of End line = end_of line
answer_of Full line = InputFull
answer_of Failed line = AtFault
