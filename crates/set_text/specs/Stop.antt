-- What the code answers to one line. No public clause cites it.
use Rattle.std.specs.Prelude.{◌≡◌, ℕ, List, ◌++◌, length, Option, Some, None, Result, Ok, Err}
use Rattle.cfg_lex.specs.Tokens.{capped}
use Rattle.commands.specs.declared.command.Op.{Op}
use Rattle.cfg_lex.specs.declared.fault.LexFault.{LexFault}
use Rattle.set_text.specs.declared.op_lines.OpLine.{OpLine}
use Rattle.set_text.specs.declared.stop.Stop.{Stop}
use Rattle.set_text.specs.declared.stop.Stop.TheVariants.{At, NoMemory}
use Rattle.set_text.specs.Lines.{lines_in, IsPlaceOf, IsSkipped, AsksChange, IsRefused, AreRead}

-- what a lexical fault makes of its line
abbrev pub IsStopOf : LexFault → Stop → Type 0
IsStopOf fault (At place) = IsPlaceOf fault place
IsStopOf fault NoMemory = Unit {0}

-- a line is skipped, asks for a change, or is refused at a place
abbrev pub Says : List ℕ → Result (Option Op) Stop → Type 0
Says line (Ok None) = IsSkipped line
Says line (Ok (Some change)) = AsksChange line change
Says line (Err (At place)) = IsRefused line place
Says line (Err NoMemory) = Unit {0}

-- a text is read up to what is left of it: so many lines, which ask for these changes
pub record IsReadTo (text rest : List ℕ) (count : ℕ) (changes : List OpLine) : Type 0 where
  pub lines : List (List ℕ)
  pub joined : lines_in text ≡ lines ++ lines_in rest
  pub read : AreRead 1 lines changes
  pub counted : count ≡ capped (length lines)
