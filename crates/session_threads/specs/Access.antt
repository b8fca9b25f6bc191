-- Whose rights are asked of each command, and what was found of them. This project's own.
use Rattle.std.specs.Prelude.{◌≡◌, ◌≢◌, ℕ, Bool, true, false, List, [], take, Option, None, Some, IsSome, Result, Ok, Err, ⊤}
use Rattle.access_rules.specs.Needs.{first_missing, needs_of}
use Rattle.access_rules.specs.Rights.{rights_of}
use Rattle.access_rules.specs.declared.fault.AccessFault.{AccessFault}
use Rattle.access_rules.specs.declared.fault.AccessFault.TheVariants.{Denied as Lacking, NoMemory as Wanting}
use Rattle.access_rules.specs.declared.right.Right.{Right}
use Rattle.cfg_base.specs.declared.path.Step.{Step}
use Rattle.cfg_tree.specs.Full.{Expansion}
use Rattle.commands.specs.declared.command.Command.{Command}
use Rattle.commit_ledger.specs.Kept.{Kept, active_of}
use Rattle.config_core.specs.Callers.{level_of}
use Rattle.config_core.specs.State.{State}
use Rattle.group_expand.specs.Expansion.{IsExpansion}
use Rattle.session_history.specs.declared.history.Happened.{Happened}
use Rattle.session_history.specs.Events.{Leads}
use Rattle.session_shell.specs.declared.door.Given0.{Given0}
use Rattle.session_shell.specs.declared.door.Given0.TheVariants.{Kept as KeptAt, Seen, Denied, Unready, NoMemory}

-- a caller of a run that began in a state, with its user where the user's rights are asked of each command
pub record Asker : Type 0 where
  pub opening : State
  pub caller : ℕ
  pub asks : Option (List ℕ)

-- the user whose rights are asked, where they are asked at all
abbrev pub asks_of : Bool → List ℕ → Option (List ℕ)
asks_of true user = Some user
asks_of false user = None

-- the first right that a user lacks for a command at a level, or none: by the active configuration of a list of commits, with all
-- that its groups give
abbrev pub Lacks : Kept → List ℕ → List Step → Command → Option Right → Type 0
Lacks kept user level command lacking =
    (full : Expansion) → IsExpansion (active_of kept) full → first_missing (rights_of full user) (needs_of level command) ≡ lacking

-- a command is allowed: its user lacks no right, or nobody's rights are asked
abbrev pub IsAllowed : Option (List ℕ) → Kept → List Step → Command → Type 0
IsAllowed None kept level command = Unit {0}
IsAllowed (Some user) kept level command = Lacks kept user level command None

-- a command is denied by that right
abbrev pub IsDenied : Option (List ℕ) → Kept → List Step → Command → Right → Type 0
IsDenied None kept level command right = ⊥
IsDenied (Some user) kept level command right = Lacks kept user level command (Some right)

-- rights are asked, and the command needs one
abbrev pub NeedsRight : Option (List ℕ) → List Step → Command → Type 0
NeedsRight None level command = ⊥
NeedsRight (Some user) level command = needs_of level command ≢ []

-- nobody's rights are asked, or the command needs none
abbrev pub IsFree : Option (List ℕ) → List Step → Command → Type 0
IsFree None level command = Unit {0}
IsFree (Some user) level command = needs_of level command ≡ []

-- what is found of a user's rights; want of memory finds nothing
abbrev pub Finds : Option (List ℕ) → Kept → List Step → Command → Result ⊤ AccessFault → Type 0
Finds asks kept level command (Ok done) = IsAllowed asks kept level command
Finds asks kept level command (Err (Lacking right)) = IsDenied asks kept level command right
Finds asks kept level command (Err Wanting) = Unit {0}

-- the events before a place lead to a state in which the caller may ask the command
pub record IsAllowedAt (asker : Asker) (events : List Happened) (place : ℕ) (command : Command) : Type 0 where
  pub before : State
  pub leads : Leads asker.opening (take place events) before
  pub allowed : IsAllowed asker.asks before.kept (level_of before asker.caller) command

-- the events lead to a state in which the caller's command is denied, with so many entries
pub record IsDeniedBehind (asker : Asker) (events : List Happened) (command : Command) (front : ℕ) (right : Right) : Type 0 where
  pub after : State
  pub leads : Leads asker.opening events after
  pub is_front : front ≡ after.kept.count
  pub denied : IsDenied asker.asks after.kept (level_of after asker.caller) command right

-- the events lead to a state in which an entry is still in flight, and the caller's command needs a right
pub record IsUnreadyBehind (asker : Asker) (events : List Happened) (command : Command) (front : ℕ) : Type 0 where
  pub after : State
  pub leads : Leads asker.opening events after
  pub is_front : front ≡ after.kept.count
  pub in_flight : IsSome after.flight
  pub needs : NeedsRight asker.asks (level_of after asker.caller) command

-- what was found of a command's rights in its turn, behind which the run has these events
abbrev pub IsJudged : Asker → List Happened → Command → Given0 → Type 0
IsJudged asker events command (KeptAt place reply) = IsAllowedAt asker events place command
IsJudged asker events command (Seen front reply) = ⊥
IsJudged asker events command (Denied front right) = IsDeniedBehind asker events command front right
IsJudged asker events command (Unready front) = IsUnreadyBehind asker events command front
IsJudged asker events command NoMemory = Unit {0}
