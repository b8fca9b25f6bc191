-- The commands that may be answered from a snapshot of the list of commits, what shows of the whole active configuration print, and
-- which commits were made. This project's own.
use Rattle.std.specs.Prelude.{◌≡◌, ℕ, List, [], Bool, true, false, Option, Some, None, IfSome}
use Rattle.cfg_tree.specs.Statements.{Statements}
use Rattle.cfg_tree.specs.Tree.{IsTree}
use Rattle.commands.specs.declared.command.Command.{Command}
use Rattle.commands.specs.declared.command.Command.TheVariants.{ShowActive, ShowCommits}
use Rattle.commands.specs.declared.command.Form.TheVariants.{Curly}
use Rattle.config_core.specs.declared.reply.Reply.{Reply}
use Rattle.config_core.specs.declared.reply.Reply.TheVariants.{Text, Committed}
use Rattle.curly_print.specs.Printed.{printed}
use Rattle.session_shell.specs.declared.door.Given0.{Given0}
use Rattle.session_shell.specs.declared.door.Given0.TheVariants.{Kept, Seen, Denied, Unready, NoMemory}

-- the command shows the active configuration or the commits
abbrev pub IsActiveShow : Command → Type 0
IsActiveShow (ShowActive words form) = Unit {0}
IsActiveShow ShowCommits = Unit {0}
IsActiveShow command = ⊥

-- what was given for a command was read from a snapshot only where the command is such a show
abbrev pub SeesShow : Command → Given0 → Type 0
SeesShow command (Kept place reply) = Unit {0}
SeesShow command (Seen front reply) = IsActiveShow command
SeesShow command (Denied front right) = Unit {0}
SeesShow command (Unready front) = Unit {0}
SeesShow command NoMemory = Unit {0}

-- the show of the whole active configuration in curly form
abbrev pub whole_show : Command
whole_show = ShowActive [] Curly

-- a reply's text, where it is one
abbrev pub text_in : Reply → Option (List ℕ)
text_in (Text bytes) = Some bytes
text_in reply = None

-- the text that was given, where one was
abbrev pub shown_text : Given0 → Option (List ℕ)
shown_text (Kept place reply) = text_in reply
shown_text (Seen front reply) = text_in reply
shown_text (Denied front right) = None
shown_text (Unready front) = None
shown_text NoMemory = None

-- a text is that of a whole configuration
pub record IsPrinted (text : List ℕ) : Type 0 where
  pub statements : Statements
  pub tree : IsTree statements
  pub is : text ≡ printed statements []

-- a text that was given for that show is that of a whole configuration
abbrev pub PrintsWhole : Command → Given0 → Type 0
PrintsWhole command given = command ≡ whole_show → IfSome (shown_text given) IsPrinted

-- the same of a reply
abbrev pub SaysWhole : Command → Reply → Type 0
SaysWhole command reply = command ≡ whole_show → IfSome (text_in reply) IsPrinted

-- an event was made that is a commit
abbrev pub is_committed : Given0 → Bool
is_committed (Kept place (Committed minutes quit)) = true
is_committed given = false
