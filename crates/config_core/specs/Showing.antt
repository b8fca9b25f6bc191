-- What a show says of a configuration. Junos OS CLI User Guide, on show, on display set and on displaying inherited configuration.
-- How many paths of an expansion are shown at most is this project's own.
use Rattle.std.specs.Prelude.{◌≡◌, ◌⊎◌, ℕ, ◌==◌, nat_le, List, length, if◌then◌else◌, MatchBool, Option, Some, None, Result, Ok, Err}
use Rattle.std.specs.FinMap as map
use Rattle.commands.specs.declared.command.Command.{Command}
use Rattle.commands.specs.declared.command.Command.TheVariants.{ShowActive}
use Rattle.commands.specs.declared.command.Form.{Form}
use Rattle.commands.specs.declared.command.Form.TheVariants.{Curly, SetLines, Inherited}
use Rattle.cfg_base.specs.declared.path.Step.{Step}
use Rattle.cfg_tree.specs.declared.limit.TheConstants.{MAX_EXPANDED}
use Rattle.cfg_resolve.specs.declared.target.Target.{Target}
use Rattle.cfg_resolve.specs.declared.target.WordsFault.{WordsFault}
use Rattle.cfg_tree.specs.Full.{Expansion}
use Rattle.cfg_tree.specs.Statements.{Statements}
use Rattle.cfg_resolve.specs.Resolve.{ResolvesTo}
use Rattle.curly_print.specs.Printed.{printed}
use Rattle.curly_print.specs.Inherited.{printed_full}
use Rattle.set_text.specs.Printed.{printed_set}
use Rattle.edit_ops.specs.declared.fault.EditFault.{EditFault}
use Rattle.edit_ops.specs.declared.fault.EditFault.TheVariants as edit
use Rattle.edit_ops.specs.Answer.{edit_fault}
use Rattle.curly_grammar.specs.declared.fault.TextFault.{TextFault}
use Rattle.curly_grammar.specs.declared.fault.TextFault.TheVariants as text
use Rattle.set_text.specs.declared.fault.LineFault.{LineFault}
use Rattle.set_text.specs.declared.fault.LineFault.TheVariants as line
use Rattle.load_ops.specs.declared.fault.LoadFault.{LoadFault}
use Rattle.load_ops.specs.declared.fault.LoadFault.TheVariants as load
use Rattle.private_merge.specs.declared.fault.MergeFault.{MergeFault}
use Rattle.private_merge.specs.declared.fault.MergeFault.TheVariants as merge
use Rattle.group_expand.specs.Expansion.{IsExpansion}
use Rattle.config_core.specs.declared.reply.Refusal.{Refusal}
use Rattle.config_core.specs.declared.reply.Refusal.TheVariants as refuse
use Rattle.config_core.specs.declared.reply.Reply.{Reply}
use Rattle.config_core.specs.declared.reply.Reply.TheVariants.{Text, Refused}

-- words and changes are refused so; want of memory is no refusal
abbrev pub refusal_of : EditFault → Option Refusal
refusal_of (edit.Unknown path) = Some (refuse.Unknown path)
refusal_of (edit.BadValue path) = Some (refuse.BadValue path)
refusal_of (edit.Incomplete path) = Some (refuse.Incomplete path)
refusal_of (edit.Extra path) = Some (refuse.Extra path)
refusal_of (edit.NotNamed path) = Some (refuse.NotNamed path)
refusal_of (edit.NotOrdered path) = Some (refuse.NotOrdered path)
refusal_of (edit.NotThere path) = Some (refuse.NotThere path)
refusal_of (edit.AlreadyThere path) = Some (refuse.AlreadyThere path)
refusal_of (edit.Protected path) = Some (refuse.Protected path)
refusal_of edit.TooMany = Some refuse.TooMany
refusal_of edit.NoMemory = None

-- a curly text is refused by its leftmost fault; one of too many statements as a change that makes too many
abbrev pub text_refusal_of : TextFault → Option Refusal
text_refusal_of text.TooMany = Some refuse.TooMany
text_refusal_of text.NoMemory = None
text_refusal_of fault = Some (refuse.Text fault)

-- texts of lines are refused so
abbrev pub line_refusal_of : LineFault → Option Refusal
line_refusal_of (line.Line number place) = Some (refuse.Line number place)
line_refusal_of line.NoMemory = None

-- loads are refused so
abbrev pub load_refusal_of : LoadFault → Option Refusal
load_refusal_of (load.Text fault) = text_refusal_of fault
load_refusal_of (load.Line fault) = line_refusal_of fault
load_refusal_of (load.Edit number fault) = Some (refuse.LineEdit number fault)
load_refusal_of (load.Protected path) = Some (refuse.Protected path)
load_refusal_of load.TooMany = Some refuse.TooMany
load_refusal_of load.NoMemory = None

-- what isn't merged is refused so
abbrev pub merge_refusal_of : MergeFault → Option Refusal
merge_refusal_of (merge.Conflict path) = Some (refuse.Conflict path)
merge_refusal_of merge.TooMany = Some refuse.TooMany
merge_refusal_of merge.NoMemory = None

-- words that name no statement from a level on are refused, and the answer is made of the refusal
pub record NamesNone {A : Type 0} (answer_of : Refusal → A) (level : List Step) (asked : List (List ℕ)) (answer : A) : Type 0 where
  pub why : WordsFault
  pub refusal : Refusal
  pub names : ResolvesTo level asked (Err why)
  pub told : refusal_of (edit_fault why) ≡ Some refusal
  pub is : answer ≡ answer_of refusal

-- words name a statement from a level on, and the answer is made of it
pub record NamesOne {A : Type 0} (answer_of : Target → A) (level : List Step) (asked : List (List ℕ)) (answer : A) : Type 0 where
  pub target : Target
  pub names : ResolvesTo level asked (Ok target)
  pub is : answer ≡ answer_of target

-- the path of a statement that words name; words after it are refused
abbrev pub path_alone : Target → Result (List Step) Refusal
path_alone target = if length target.words == 0 then Ok target.path else Err (refuse.Extra target.path)

-- words name a path from a level on, or they are refused
abbrev pub NamesPath : List Step → List (List ℕ) → Result (List Step) Refusal → Type 0
NamesPath level asked answer = NamesOne path_alone level asked answer ⊎ NamesNone Err level asked answer

-- a show asks for what its words name from a level on, and without words for the level
abbrev pub ShowAsksFor : List Step → List (List ℕ) → Result (List Step) Refusal → Type 0
ShowAsksFor level asked answer = MatchBool (length asked == 0) (answer ≡ Ok level) (NamesPath level asked answer)

-- an expansion is shown as its text below a path; one of more than 65,536 paths is refused
abbrev pub shown_full : Expansion → List Step → Reply
shown_full full path = if nat_le (map.len full) MAX_EXPANDED then Text (printed_full full path) else Refused refuse.TooWide

-- what is shown of the expansion of a configuration below a path
pub record ShowsExpansion (m : Statements) (path : List Step) (reply : Reply) : Type 0 where
  pub full : Expansion
  pub expansion : IsExpansion m full
  pub is : reply ≡ shown_full full path

-- what is shown of a configuration below a path, in a form
abbrev pub ShowsBelow : Form → Statements → List Step → Reply → Type 0
ShowsBelow Curly m path reply = reply ≡ Text (printed m path)
ShowsBelow SetLines m path reply = reply ≡ Text (printed_set m path)
ShowsBelow Inherited m path reply = ShowsExpansion m path reply

-- the same of what a show asks for; its words' refusal is the reply
abbrev pub ShowsAnswer : Form → Statements → Result (List Step) Refusal → Reply → Type 0
ShowsAnswer form m (Ok path) reply = ShowsBelow form m path reply
ShowsAnswer form m (Err refusal) reply = reply ≡ Refused refusal

-- what a show of a configuration says from a level on
pub record IsShow (m : Statements) (level : List Step) (asked : List (List ℕ)) (form : Form) (reply : Reply) : Type 0 where
  pub answer : Result (List Step) Refusal
  pub names : ShowAsksFor level asked answer
  pub shows : ShowsAnswer form m answer reply

-- a command is a show of the active configuration
pub record IsShowActive (command : Command) : Type 0 where
  pub asked : List (List ℕ)
  pub form : Form
  pub is : command ≡ ShowActive asked form
