-- A configuration that mode gen makes: what happened, and what is reported of it. This project's own.
use Rattle.std.specs.Prelude.{◌≡◌, ℕ, List, [], false, length, Some}
use Rattle.std.specs.FinMap as map
use Rattle.commands.specs.declared.command.Command.{Command}
use Rattle.commands.specs.declared.command.Command.TheVariants.{Configure, Load, Commit}
use Rattle.commands.specs.declared.command.LoadWay.TheVariants.{Override}
use Rattle.commands.specs.declared.command.Mode.TheVariants.{Shared}
use Rattle.cfg_tree.specs.Full.{Expansion}
use Rattle.cfg_tree.specs.Statements.{size_of}
use Rattle.commit_ledger.specs.Kept.{Kept, active_of, factory, kept_commits}
use Rattle.config_core.specs.declared.event.Event.TheVariants.{Command as CommandOf}
use Rattle.config_core.specs.declared.reply.Reply.{Reply}
use Rattle.config_core.specs.declared.reply.Reply.TheVariants.{Entered, Loaded, Committed}
use Rattle.config_core.specs.State.{State, opening_of}
use Rattle.curly_print.specs.Printed.{printed}
use Rattle.group_expand.specs.Expansion.{IsExpansion}
use Rattle.modes.specs.Generated.{configuration_text}
use Rattle.modes.specs.Texts.{gen_text}
use Rattle.session_history.specs.declared.history.Happened.{Happened}
use Rattle.session_history.specs.declared.history.History.{History}
use Rattle.session_history.specs.Events.{IsLegal}
use Rattle.service.specs.Taking.{Happens}

-- the first caller's command, at the moment of the state before it, is done with this reply
abbrev pub IsDone : Command → Reply → State → State → List Happened → List Happened → Type 0
IsDone command reply s s' events events' = Happens 1 s.greatest (CommandOf command) reply s s' events events'

-- what is reported of a list: the statements of its active configuration, the paths of their expansion, the bytes of their text,
-- and the commits that are kept
pub record IsToldOf (kept : Kept) (text : List ℕ) : Type 0 where
  pub full : Expansion
  pub expansion : IsExpansion (active_of kept) full
  pub told : text ≡ gen_text (size_of (active_of kept)) (map.len full) (length (printed (active_of kept) [])) (kept_commits kept)

-- the first caller enters configuration mode, loads the configuration of so many interfaces in the place of what was there, and
-- commits it
pub record Generates (number : ℕ) (s s' : State) (events events' : List Happened) : Type 0 where
  pub editing : State
  pub loading : State
  pub one : List Happened
  pub two : List Happened
  pub entered : IsDone (Configure Shared) (Entered Shared) s editing events one
  pub loaded : IsDone (Load Override (configuration_text number)) Loaded editing loading one two
  pub committed : IsDone (Commit 0 [] false) (Committed 0 false) loading s' two events'

-- that happens over the factory commit, for these users, and the text reports what resulted
pub record IsMadeFor (number : ℕ) (users : List (List ℕ)) (events : List Happened) (text : List ℕ) : Type 0 where
  pub last : State
  pub generates : Generates number (opening_of factory users) last [] events
  pub counted : IsToldOf last.kept text

-- and it is all that happened
pub record IsGenerated (number : ℕ) (users : List (List ℕ)) (history : History) (text : List ℕ) : Type 0 where
  pub opening : history.opening ≡ Some factory
  pub users_is : history.users ≡ users
  pub no_calls : history.made ≡ record { a = 0; b = 0 }
  pub legal : IsLegal (opening_of factory users) history.events.items
  pub made : IsMadeFor number users history.events.items text
