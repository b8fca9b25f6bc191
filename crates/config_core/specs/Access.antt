-- Who may do what: the commands of each mode, those that another session's exclusive mode bars, those that a scheduled commit bars,
-- and those that uncommitted changes bar. Junos OS CLI User Guide, on operational and configuration mode, on configure private, on
-- configure exclusive and on scheduling a commit; the order is this project's own.
use Rattle.std.specs.Prelude.{ℕ, ◌==◌, nat_lt, ◌&&◌, List, Bool, true, false, not, if◌then◌else◌, Option, None, Some, is_some}
use Rattle.commands.specs.declared.command.Command.{Command}
use Rattle.commands.specs.declared.command.Command.TheVariants.{Configure, ShowActive, ShowCommits, ClearCommit, Logout, Change, Load, Rollback, CheckOnly, Commit, CommitAt, Update}
use Rattle.commands.specs.declared.command.Mode.{Mode}
use Rattle.commands.specs.declared.command.Mode.TheVariants.{Private, Exclusive}
use Rattle.commands.specs.When.{at_of}
use Rattle.commit_ledger.specs.declared.entry.Scheduled.{Scheduled}
use Rattle.commit_ledger.specs.Kept.{Kept, Unconfirmed}
use Rattle.config_core.specs.declared.reply.Refusal.{Refusal}
use Rattle.config_core.specs.declared.reply.Refusal.TheVariants.{WrongMode, Locked, Waiting, Unconfirmed as NotConfirmed, NotLater, NothingWaits, Modified}
use Rattle.config_core.specs.State.{State}
use Rattle.config_core.specs.Callers.{caller_of}

abbrev pub is_private : Option Mode → Bool
is_private (Some Private) = true
is_private mode = false

-- a command is one of the mode that its session is in; a logout is one of both, an update one of private mode alone
abbrev pub is_of_mode : Command → Option Mode → Bool
is_of_mode Logout mode = true
is_of_mode (Configure next) mode = not (is_some mode)
is_of_mode (ShowActive asked form) mode = not (is_some mode)
is_of_mode ShowCommits mode = not (is_some mode)
is_of_mode ClearCommit mode = not (is_some mode)
is_of_mode Update mode = is_private mode
is_of_mode command mode = is_some mode

-- what another session's exclusive mode bars: the exclusive mode, every form of commit, and but in private mode changes, loads
-- and rollbacks
abbrev pub wants_lock : Command → Option Mode → Bool
wants_lock (Configure Exclusive) mode = true
wants_lock (Change op) mode = not (is_private mode)
wants_lock (Load way text) mode = not (is_private mode)
wants_lock (Rollback n) mode = not (is_private mode)
wants_lock CheckOnly mode = true
wants_lock (Commit minutes comment quit) mode = true
wants_lock (CommitAt when comment) mode = true
wants_lock command mode = false

-- while a commit is scheduled, no other one is made
abbrev pub if_scheduled : Option Scheduled → Option Refusal → Option Refusal
if_scheduled (Some waiting) bar = Some (Waiting waiting.at)
if_scheduled None bar = bar

-- while a run is unconfirmed, none is scheduled
abbrev pub if_unconfirmed : Option Unconfirmed → Option Refusal → Option Refusal
if_unconfirmed (Some run) bar = Some (NotConfirmed run.deadline)
if_unconfirmed None bar = bar

-- a commit is scheduled for a time after now
abbrev pub unless_later : ℕ → ℕ → Option Refusal
unless_later at moment = if nat_lt moment at then None else Some (NotLater at moment)

-- what is called off is there
abbrev pub unless_scheduled : Option Scheduled → Option Refusal
unless_scheduled None = Some NothingWaits
unless_scheduled (Some waiting) = None

-- what the list of commits, and the moment, bar
abbrev pub kept_bar : Command → Kept → ℕ → Option Refusal
kept_bar (Commit minutes comment quit) kept moment = if_scheduled kept.scheduled None
kept_bar (CommitAt when comment) kept moment =
    if_scheduled kept.scheduled (if_unconfirmed kept.pending (unless_later (at_of when moment) moment))
kept_bar ClearCommit kept moment = unless_scheduled kept.scheduled
kept_bar command kept moment = None

-- what a modified shared candidate bars: the private and the exclusive mode, and a private commit
abbrev pub wants_unmodified : Command → Option Mode → Bool
wants_unmodified (Configure Private) mode = true
wants_unmodified (Configure Exclusive) mode = true
wants_unmodified (Commit minutes comment quit) mode = is_private mode
wants_unmodified (CommitAt when comment) mode = is_private mode
wants_unmodified command mode = false

-- the user of the session in exclusive mode, where it is another one
abbrev pub locked_in : State → ℕ → Option ℕ → Option (List ℕ)
locked_in s caller None = None
locked_in s caller (Some holder) = if holder == caller then None else Some (caller_of s holder).user

abbrev pub locked_by : State → ℕ → Option (List ℕ)
locked_by s caller = locked_in s caller s.exclusive

-- the first of the causes that holds
abbrev pub first_bar : Bool → Option (List ℕ) → Option Refusal → Bool → Option Refusal
first_bar false user bar modified = Some WrongMode
first_bar true (Some user) bar modified = Some (Locked user)
first_bar true None (Some bar) modified = Some bar
first_bar true None None true = Some Modified
first_bar true None None false = None

-- why a caller that edits so may not ask a command, whatever the command would do
abbrev pub bar_in : State → ℕ → Command → Option Mode → Option Refusal
bar_in s caller command mode =
    first_bar (is_of_mode command mode) (if wants_lock command mode then locked_by s caller else None)
    (kept_bar command s.kept s.greatest) (wants_unmodified command mode && s.shared.modified)

abbrev pub bar_to : State → ℕ → Command → Option Refusal
bar_to s caller command = bar_in s caller command (caller_of s caller).mode
