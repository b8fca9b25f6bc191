-- What the lines of a text make of the statements that are there. Junos OS CLI User Guide, on load set; that all is made or nothing
-- is this project's own.
use Rattle.std.specs.Prelude.{◌≡◌, ◌≢◌, ℕ, Bool, List, [], ◌∷◌, ◌++◌}
use Rattle.cfg_tree.specs.Statements.{Statements}
use Rattle.edit_ops.specs.declared.fault.EditFault.{EditFault}
use Rattle.edit_ops.specs.declared.fault.EditFault.TheVariants as edit
use Rattle.edit_ops.specs.Answer.{IsChange, IsEditFault}
use Rattle.set_text.specs.declared.op_lines.OpLine.{OpLine}
use Rattle.set_text.specs.declared.fault.LineFault.TheVariants as line
use Rattle.set_text.specs.Lines.{AsksFor, IsLineFault}
use Rattle.load_ops.specs.declared.fault.LoadFault.{LoadFault}
use Rattle.load_ops.specs.declared.fault.LoadFault.TheVariants.{Text, Line, Edit, Protected, TooMany, NoMemory}

-- these changes are made at the top, one after another
abbrev pub AreMade : Statements → List OpLine → Statements → Type 0
AreMade old [] new = new ≡ old
AreMade old (line ∷ lines) new = (next : Statements) × (told : Bool) × IsChange old next [] line.op told × AreMade next lines new

-- a text's lines are loaded
pub record IsLineLoad (old : Statements) (text : List ℕ) (new : Statements) : Type 0 where
  pub lines : List OpLine
  pub asks : AsksFor text lines
  pub made : AreMade old lines new

-- the first of these changes that isn't made, with the number of its line: those before it are made, and it is refused then
pub record IsFirstUnmade (old : Statements) (lines : List OpLine) (number : ℕ) (fault : EditFault) : Type 0 where
  pub before : List OpLine
  pub refused : OpLine
  pub after : List OpLine
  pub joined : lines ≡ before ++ refused ∷ after
  pub next : Statements
  pub made : AreMade old before next
  pub cause : IsEditFault next [] refused.op fault
  pub not_memory : fault ≢ edit.NoMemory
  pub numbered : number ≡ refused.line

-- all lines of a text ask for changes, and one of them isn't made
pub record IsUnmade (old : Statements) (text : List ℕ) (number : ℕ) (fault : EditFault) : Type 0 where
  pub lines : List OpLine
  pub asks : AsksFor text lines
  pub first : IsFirstUnmade old lines number fault

-- why a text's lines aren't loaded
abbrev pub IsLineLoadFault : Statements → List ℕ → LoadFault → Type 0
IsLineLoadFault old text (Text fault) = ⊥
IsLineLoadFault old text (Line fault) = (fault ≢ line.NoMemory) × IsLineFault text fault
IsLineLoadFault old text (Edit number fault) = IsUnmade old text number fault
IsLineLoadFault old text (Protected path) = ⊥
IsLineLoadFault old text TooMany = ⊥
IsLineLoadFault old text NoMemory = Unit {0}
