-- The lines of a source's bytes, as far as they may be read. A line ends at an LF, or at the end of the bytes.
use Rattle.std.specs.Prelude.{◌≡◌, ◌+◌, ◌==◌, ℕ, zero, suc, List, [], ◌∷◌, ◌++◌, length, if◌then◌else◌, ◌⊎◌}
use Rattle.io_edge.specs.declared.lines.Line.{Line}
use Rattle.io_edge.specs.declared.lines.Line.TheVariants.{End, InputFull}
use Rattle.io_edge.specs.Line.{ended_line, last_line_of}

-- the end, after a last line without its LF where there is one
abbrev pub ends_of : List ℕ → List Line
ends_of [] = End ∷ []
ends_of (byte ∷ part) = last_line_of (byte ∷ part) ∷ End ∷ []

-- the lines of the bytes after a part of a line, of which so many may be read
abbrev pub lines_from : List ℕ → ℕ → List ℕ → List Line
lines_from part room [] = ends_of part
lines_from part zero (byte ∷ bytes) = InputFull ∷ []
lines_from part (suc room) (byte ∷ bytes) =
    if byte == 10 then ended_line part ∷ lines_from [] room bytes else lines_from (part ++ byte ∷ []) room bytes

-- the lines of the bytes, of which so many may be read
abbrev pub lines_read : ℕ → List ℕ → List Line
lines_read limit bytes = lines_from [] limit bytes

-- these are the first lines of the bytes, and those the others; the bytes that are left are theirs, of which so many may be
-- read
pub record AreFirstLines (lines rest : List Line) (limit : ℕ) (bytes : List ℕ) (room : ℕ) (left : List ℕ) : Type 0 where
  pub taken : List ℕ
  pub split : bytes ≡ taken ++ left
  pub within : limit ≡ length taken + room
  pub are : lines_read limit bytes ≡ lines ++ rest
  pub others : (rest ≡ lines_read room left) ⊎ ((rest ≡ []) × (left ≡ []))
