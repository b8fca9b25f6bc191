-- What is written of a show that is asked for as JSON, and of a commit that is synchronized. This project's own.
use Rattle.std.specs.Prelude.{◌≡◌, ℕ, List, [], ◌∷◌, ◌++◌, true, false, Some, None, IsSome}
use Rattle.cfg_tree.specs.Statements.{Statements}
use Rattle.cfg_tree.specs.Tree.{IsTree}
use Rattle.commands.specs.declared.command.Command.{Command}
use Rattle.curly_print.specs.Printed.{printed}
use Rattle.json_text.specs.Written.{json_of}
use Rattle.serde_json.specs.Written.{compact_text}
use Rattle.session_shell.specs.declared.door.Given0.{Given0}
use Rattle.session_shell.specs.declared.json_show.Manner.{Manner}
use Rattle.session_shell.specs.declared.json_show.Manner.TheVariants.{Plain, Json, Dry, NoJson, Synchronized, NoCommit}
use Rattle.session_shell.specs.Shows.{is_committed, shown_text, whole_show}

-- a line of JSON is that of the configuration whose curly text this is
pub record IsJsonOf (curly json : List ℕ) : Type 0 where
  pub statements : Statements
  pub tree : IsTree statements
  pub shown : curly ≡ printed statements []
  pub is : json ≡ compact_text (json_of statements) ++ 10 ∷ []

-- a text was given, and this is its JSON
pub record HasJson (given : Given0) (json : List ℕ) : Type 0 where
  pub curly : List ℕ
  pub shown : shown_text given ≡ Some curly
  pub is_json : IsJsonOf curly json

-- how what was given for a command may be written: as it is; as JSON or dry, where that show was answered with a text; and where
-- it wasn't, as it is; with an answer to `synchronize`, where it is a commit that was made; and where it wasn't, as it is
abbrev pub MayBeWritten : Command → Given0 → Manner → Type 0
MayBeWritten command given Plain = Unit {0}
MayBeWritten command given (Json json) = (command ≡ whole_show) × HasJson given json
MayBeWritten command given Dry = (command ≡ whole_show) × IsSome (shown_text given)
MayBeWritten command given NoJson = (command ≡ whole_show) × (shown_text given ≡ None)
MayBeWritten command given (Synchronized synced) = is_committed given ≡ true
MayBeWritten command given NoCommit = is_committed given ≡ false
