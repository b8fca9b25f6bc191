-- The lines of a text, and the changes that they ask for. Junos OS CLI User Guide, on load set; which token of a line is refused is this
-- project's own.
use Rattle.std.specs.Prelude.{◌≡◌, ◌⊎◌, ◌<◌, ◌≤◌, ◌+◌, ℕ, ◌==◌, ◌&&◌, List, [], ◌∷◌, ◌++◌, length, take, drop}
use Rattle.std.specs.Prelude.{Option, Some, None, if◌then◌else◌}
use Rattle.commands.specs.declared.command.Op.{Op}
use Rattle.cfg_lex.specs.declared.token.Token.{Token}
use Rattle.cfg_lex.specs.declared.fault.LexFault.{LexFault}
use Rattle.cfg_lex.specs.declared.fault.LexFault.TheVariants as lexical
use Rattle.cfg_lex.specs.Bytes.{begins_with}
use Rattle.cfg_lex.specs.Tokens.{IsCut, capped}
use Rattle.set_text.specs.declared.op_lines.OpLine.{OpLine}
use Rattle.set_text.specs.declared.fault.LineFault.{LineFault}
use Rattle.set_text.specs.declared.fault.LineFault.TheVariants as fault
use Rattle.set_text.specs.Form.{parts_in, Spells, Begins, IsNoLine}

-- a byte before the first line
abbrev pub in_first : ℕ → List (List ℕ) → List (List ℕ)
in_first b [] = (b ∷ []) ∷ []
in_first b (line ∷ lines) = (b ∷ line) ∷ lines

-- a byte before a text of these lines: an LF ends a line, and a CR right before it is of the line's end
abbrev pub with_byte : ℕ → List ℕ → List (List ℕ) → List (List ℕ)
with_byte b rest lines = if b == 10 then [] ∷ lines else (if b == 13 && begins_with 10 rest then lines else in_first b lines)

-- the lines of a text; what stands after the last LF is a line, where it has a byte
abbrev pub lines_in : List ℕ → List (List ℕ)
lines_in [] = []
lines_in (b ∷ rest) = with_byte b rest (lines_in rest)

-- a line without tokens and without a lexical fault
abbrev pub IsSkipped : List ℕ → Type 0
IsSkipped line = IsCut line [] None

-- a line of a form, with what it asks
pub record AsksChange (line : List ℕ) (change : Op) : Type 0 where
  pub tokens : List Token
  pub cut : IsCut line tokens None
  pub spelled : Spells (parts_in line tokens) change

-- the place that a lexical fault reports
abbrev pub IsPlaceOf : LexFault → ℕ → Type 0
IsPlaceOf (lexical.BadByte at) place = place ≡ at
IsPlaceOf (lexical.OpenComment at) place = place ≡ at
IsPlaceOf (lexical.OpenQuote at) place = place ≡ at
IsPlaceOf (lexical.LongWord at) place = place ≡ at
IsPlaceOf lexical.NoMemory place = ⊥

-- where a line stops whose tokens all begin a line: at its lexical fault, or else at its end, where more would have to stand
abbrev pub EndsAt : List ℕ → List Token → Option LexFault → ℕ → Type 0
EndsAt line tokens (Some fault) place = IsPlaceOf fault place
EndsAt line tokens None place = (0 < length tokens) × IsNoLine (parts_in line tokens) × (place ≡ capped (length line))

-- where a line stops whose first tokens begin a line, so many of them: at the next one, with which they begin none
abbrev pub StopsAt : List ℕ → List Token → ℕ → List Token → Option LexFault → ℕ → Type 0
StopsAt line tokens count [] fault place = EndsAt line tokens fault place
StopsAt line tokens count (token ∷ rest) fault place = ¬ (Begins (parts_in line (take (count + 1) tokens))) × (place ≡ capped token.start)

-- a line of no form, and the place of what doesn't fit: the first token with which the tokens up to it begin no line, or what stands
-- after them all
pub record IsRefused (line : List ℕ) (place : ℕ) : Type 0 where
  pub tokens : List Token
  pub fault : Option LexFault
  pub cut : IsCut line tokens fault
  pub count : ℕ
  pub within : count ≤ length tokens
  pub begun : Begins (parts_in line (take count tokens))
  pub stops : StopsAt line tokens count (drop count tokens) fault place

abbrev pub op_line : ℕ → Op → OpLine
op_line number change = record { line = capped number; op = change }

-- the lines from a number on are skipped or ask for these changes
abbrev pub AreRead : ℕ → List (List ℕ) → List OpLine → Type 0
AreRead number [] changes = changes ≡ []
AreRead number (line ∷ lines) changes =
    (IsSkipped line × AreRead (number + 1) lines changes)
    ⊎ ((change : Op) × (rest : List OpLine) × AsksChange line change × (changes ≡ op_line number change ∷ rest) × AreRead (number + 1) lines rest)

-- what a text asks for
abbrev pub AsksFor : List ℕ → List OpLine → Type 0
AsksFor text changes = AreRead 1 (lines_in text) changes

-- the first line of no form
pub record IsFirstRefused (text : List ℕ) (number place : ℕ) : Type 0 where
  pub before : List (List ℕ)
  pub line : List ℕ
  pub after : List (List ℕ)
  pub joined : lines_in text ≡ before ++ line ∷ after
  pub changes : List OpLine
  pub read : AreRead 1 before changes
  pub refused : IsRefused line place
  pub numbered : number ≡ capped (length before + 1)

-- why a text asks for nothing
abbrev pub IsLineFault : List ℕ → LineFault → Type 0
IsLineFault text (fault.Line number place) = IsFirstRefused text number place
IsLineFault text fault.NoMemory = Unit {0}
