-- What printed lines ask for. This project's own.
use Rattle.std.specs.Prelude.{ℕ, ◌<◌, ◌+◌, List, [], ◌∷◌, length}
use Rattle.std.specs.List.{AllByRecursion}
use Rattle.cfg_lex.specs.Printed.{IsPrintable}
use Rattle.set_text.specs.declared.op_lines.OpLine.{OpLine}
use Rattle.commands.specs.Verb.{op_of}
use Rattle.set_text.specs.Lines.{op_line}
use Rattle.set_text.specs.Printed.{Line}

-- the changes that lines ask for, the first of which has this number
abbrev pub changes_of : ℕ → List Line → List OpLine
changes_of number [] = []
changes_of number (it ∷ lines) = op_line number (op_of it.verb it.words) ∷ changes_of (number + 1) lines

-- a line with words, each of which can be printed so that it is read again
pub record IsReadable (it : Line) : Type 0 where
  pub some : 0 < length it.words
  pub words : AllByRecursion IsPrintable it.words

abbrev pub AreReadable : List Line → Type 0
AreReadable lines = AllByRecursion IsReadable lines
