-- What a command does, where nothing comes before it.
-- Junos OS CLI User Guide, on entering and leaving configuration mode, on moves through levels, on changes of the candidate,
-- on load and rollback, on commit, commit confirmed and commit check, on scheduling a commit, on private candidates and update, and
-- on show.
use Rattle.std.specs.Prelude.{◌≡◌, ◌⊎◌, ℕ, ◌==◌, nat_lt, List, [], Bool, false, if◌then◌else◌, MatchBool, Option, None, Some}
use Rattle.commands.specs.declared.command.Form.{Form}
use Rattle.commands.specs.declared.command.LoadWay.{LoadWay}
use Rattle.commands.specs.declared.command.Op.{Op}
use Rattle.commands.specs.declared.command.Command.{Command}
use Rattle.commands.specs.declared.command.Command.TheVariants.{Configure, ShowActive, ShowCommits, Logout, Edit, Up, Top, Exit, ExitAll, Show, Change, Load, Rollback, CheckOnly, Commit as CommitAsked, CommitAt, ClearCommit, Update, Status}
use Rattle.commands.specs.When.{at_of}
use Rattle.cfg_base.specs.declared.path.Step.{Step}
use Rattle.cfg_tree.specs.Statements.{Statements}
use Rattle.edit_ops.specs.declared.fault.EditFault.{EditFault}
use Rattle.edit_ops.specs.Answer.{IsEditFault}
use Rattle.candidate.specs.Edits.{CandidateView, IsCandidateChange, IsEdited}
use Rattle.load_ops.specs.declared.fault.LoadFault.{LoadFault}
use Rattle.load_ops.specs.Answer.{IsLoad, IsLoadFault}
use Rattle.private_merge.specs.declared.fault.MergeFault.{MergeFault}
use Rattle.private_merge.specs.Merge.{IsMerge, IsMergeFault}
use Rattle.commit_check.specs.Accepts.{Accepts, IsFirst}
use Rattle.commit_ledger.specs.declared.entry.Commit.{Commit}
use Rattle.commit_ledger.specs.declared.entry.Entry.{Entry}
use Rattle.commit_ledger.specs.declared.entry.Entry.TheVariants.{Commit as CommitOf, Confirm as ConfirmOf, Scheduled as ScheduledOf, Cleared as ClearedOf}
use Rattle.commit_ledger.specs.declared.limit.TheConstants.{MAX_ENTRIES}
use Rattle.commit_ledger.specs.Kept.{Unconfirmed, active_of, nth_last, kept_commits}
use Rattle.commit_ledger.specs.Listing.{IsListing}
use Rattle.config_core.specs.declared.reply.Refusal.{Refusal}
use Rattle.config_core.specs.declared.reply.Refusal.TheVariants.{NotALevel, NoRollback, Check, Exhausted}
use Rattle.config_core.specs.declared.reply.Reply.{Reply}
use Rattle.config_core.specs.declared.reply.Reply.TheVariants.{Done, LoggedOut, Text, Entered, Left, Loaded, Checked, Committed, Scheduled, ClearedCommit, Refused}
use Rattle.config_core.specs.State.{State, Made, fresh_of}
use Rattle.config_core.specs.Levels.{Position, at_top, is_level_at, moved_to, moved_up, moved_back}
use Rattle.config_core.specs.Callers.{position_of, level_of, own_of, candidate_of, with_position, with_candidate, entered, out_of_mode, without_mode}
use Rattle.config_core.specs.Access.{bar_to}
use Rattle.config_core.specs.Status.{session_lines}
use Rattle.config_core.specs.Entries.{cleared_of, commit_of, confirm_of, made_by, scheduled_of, taken}
use Rattle.config_core.specs.Showing.{refusal_of, load_refusal_of, merge_refusal_of, NamesNone, NamesOne, IsShow}

-- what an event leaves: the state after it, its reply, and the entry that it makes
pub record Turned : Type 0 where
  pub state : State
  pub reply : Reply
  pub made : Option Made

-- no entry is made
abbrev pub answered : State → Reply → Turned
answered s reply = record { state = s; reply = reply; made = None }

abbrev pub refused : State → Refusal → Turned
refused s refusal = answered s (Refused refusal)

-- `exit` as its move says
abbrev pub exited : State → ℕ → Option Position → Turned
exited s caller None = answered (without_mode s caller) Left
exited s caller (Some position) = answered (with_position s caller position) Done

-- `edit` goes to the level that the words name
abbrev pub edited : State → ℕ → List Step → Turned
edited s caller path =
    if is_level_at path then answered (with_position s caller (moved_to (position_of s caller) path)) Done
    else refused s (NotALevel path)

abbrev pub Moves : State → ℕ → List (List ℕ) → Turned → Type 0
Moves s caller asked turned = NamesOne (λ target. edited s caller target.path) (level_of s caller) asked turned

-- words that name no statement from a level on are refused
abbrev pub IsLost : State → List Step → List (List ℕ) → Turned → Type 0
IsLost s level asked turned = NamesNone (refused s) level asked turned

-- a show of statements from a level on changes nothing
pub record Shows (s : State) (m : Statements) (level : List Step) (asked : List (List ℕ)) (form : Form) (turned : Turned) : Type 0 where
  pub reply : Reply
  pub show : IsShow m level asked form reply
  pub is : turned ≡ answered s reply

-- the commits that are kept are listed; nothing changes
pub record Lists (s : State) (turned : Turned) : Type 0 where
  pub text : List ℕ
  pub listing : IsListing s.kept text
  pub is : turned ≡ answered s (Text text)

-- a change makes another candidate of the one that the caller edits, or leaves it as it was
pub record Changes (s : State) (caller : ℕ) (op : Op) (turned : Turned) : Type 0 where
  pub next : CandidateView
  pub change : IsCandidateChange (candidate_of s caller) next (level_of s caller) op
  pub is : turned ≡ answered (with_candidate s caller next) Done

-- or it is refused
pub record IsUnchanged (s : State) (caller : ℕ) (op : Op) (turned : Turned) : Type 0 where
  pub fault : EditFault
  pub refusal : Refusal
  pub cause : IsEditFault (candidate_of s caller).map (level_of s caller) op fault
  pub told : refusal_of fault ≡ Some refusal
  pub is : turned ≡ refused s refusal

-- a map takes the place of the caller's candidate's
pub record Replaces (s : State) (caller : ℕ) (made : Statements) (turned : Turned) : Type 0 where
  pub next : CandidateView
  pub edited : IsEdited (candidate_of s caller) next made
  pub is : turned ≡ answered (with_candidate s caller next) Loaded

-- a load makes another candidate of the one that the caller edits and of a text, or leaves it as it was
pub record Loads (s : State) (caller : ℕ) (way : LoadWay) (text : List ℕ) (turned : Turned) : Type 0 where
  pub made : Statements
  pub told : Bool
  pub load : IsLoad way (candidate_of s caller).map text made told
  pub replaces : Replaces s caller made turned

-- or it is refused
pub record IsNotLoaded (s : State) (caller : ℕ) (way : LoadWay) (text : List ℕ) (turned : Turned) : Type 0 where
  pub fault : LoadFault
  pub refusal : Refusal
  pub cause : IsLoadFault way (candidate_of s caller).map text fault
  pub told : load_refusal_of fault ≡ Some refusal
  pub is : turned ≡ refused s refusal

-- the caller's candidate is that of the last commit, without edits
abbrev pub freshened : State → ℕ → State
freshened s caller = with_candidate s caller (fresh_of s.kept.last)

-- rollback 0 leaves the active map, unmodified; another one the map of that commit; one that isn't kept is refused
abbrev pub RollsTo : State → ℕ → ℕ → Option Commit → Turned → Type 0
RollsTo s caller n None turned = turned ≡ refused s (NoRollback n (kept_commits s.kept))
RollsTo s caller n (Some commit) turned =
    MatchBool (n == 0) (turned ≡ answered (freshened s caller) Loaded) (Replaces s caller commit.tree turned)

-- what a caller's candidate changed is merged into the active configuration
abbrev pub IsOwnMerge : State → CandidateView → Statements → Type 0
IsOwnMerge s own merged = IsMerge own.base (active_of s.kept) own.map merged

-- or it conflicts with it, or makes too many statements
pub record IsNotMerged (s : State) (own : CandidateView) (turned : Turned) : Type 0 where
  pub fault : MergeFault
  pub refusal : Refusal
  pub cause : IsMergeFault own.base (active_of s.kept) own.map fault
  pub told : merge_refusal_of fault ≡ Some refusal
  pub is : turned ≡ refused s refusal

-- an update leaves what is merged, as an edit of the last commit
pub record Updates (s : State) (caller : ℕ) (turned : Turned) : Type 0 where
  pub merged : Statements
  pub merge : IsOwnMerge s (candidate_of s caller) merged
  pub next : CandidateView
  pub edited : IsEdited (fresh_of s.kept.last) next merged
  pub is : turned ≡ answered (with_candidate s caller next) Done

-- a configuration breaks a rule, and is refused for the first fault
pub record BreaksRule (s : State) (m : Statements) (turned : Turned) : Type 0 where
  pub number : ℕ
  pub path : List Step
  pub first : IsFirst m number path
  pub is : turned ≡ refused s (Check number path)

-- a configuration is checked: where it is accepted this results from it
abbrev pub Checks : State → Statements → Turned → Turned → Type 0
Checks s m turned accepted = (Accepts m × (turned ≡ accepted)) ⊎ BreaksRule s m turned

-- what an own candidate changed is merged, and the whole is checked
pub record ChecksMerged (s : State) (own : CandidateView) (turned : Turned) (accepted : Statements → Turned) : Type 0 where
  pub merged : Statements
  pub merge : IsOwnMerge s own merged
  pub checks : Checks s merged turned (accepted merged)

-- what a caller would commit is checked: the shared candidate, or what is merged of its own one
abbrev pub ChecksWhole : State → Option CandidateView → Turned → (Statements → Turned) → Type 0
ChecksWhole s None turned accepted = Checks s s.shared.map turned (accepted s.shared.map)
ChecksWhole s (Some own) turned accepted = ChecksMerged s own turned accepted ⊎ IsNotMerged s own turned

-- with `and-quit` the caller leaves the mode; after its commit nothing is left to discard
abbrev pub left_if : Bool → ℕ → State → State
left_if quit caller s = if quit then out_of_mode s caller else s

-- a caller's command makes an entry, unless the list is full
abbrev pub makes : State → ℕ → Entry → Bool → Reply → Turned
makes s caller entry quit reply =
    if nat_lt s.kept.count MAX_ENTRIES
    then record { state = left_if quit caller (taken s (made_by caller entry)); reply = reply; made = Some (made_by caller entry) }
    else refused s Exhausted

-- what a check of an accepted candidate does: where commits are unconfirmed it confirms them
abbrev pub checked : State → ℕ → Option Unconfirmed → Turned
checked s caller None = answered s Checked
checked s caller (Some run) = makes s caller (ConfirmOf (confirm_of s caller)) false Checked

-- what a commit of an accepted configuration does
abbrev pub committed : State → ℕ → Statements → ℕ → List ℕ → Bool → Turned
committed s caller m minutes comment quit =
    makes s caller (CommitOf (commit_of s caller m minutes comment)) quit (Committed minutes quit)

-- what a commit of an accepted configuration does that is set for a later time
abbrev pub set_for : State → ℕ → Statements → ℕ → List ℕ → Turned
set_for s caller m at comment = makes s caller (ScheduledOf (scheduled_of s caller m at comment)) false (Scheduled at)

-- a command is refused for what bars it, or does this
abbrev pub Unless : Option Refusal → State → Turned → Type 0 → Type 0
Unless None s turned Served = Served
Unless (Some refusal) s turned Served = turned ≡ refused s refusal

-- what a command that nothing bars does at the state's own greatest moment
abbrev pub Does : State → ℕ → Command → Turned → Type 0
Does s caller (Configure mode) turned = turned ≡ answered (entered s caller mode) (Entered mode)
Does s caller (ShowActive asked form) turned = Shows s (active_of s.kept) [] asked form turned
Does s caller ShowCommits turned = Lists s turned
Does s caller Logout turned = turned ≡ answered (without_mode s caller) LoggedOut
Does s caller (Edit asked) turned = Moves s caller asked turned ⊎ IsLost s (level_of s caller) asked turned
Does s caller (Up count) turned = turned ≡ answered (with_position s caller (moved_up (position_of s caller) count)) Done
Does s caller Top turned = turned ≡ answered (with_position s caller at_top) Done
Does s caller Exit turned = turned ≡ exited s caller (moved_back (position_of s caller))
Does s caller ExitAll turned = turned ≡ answered (without_mode s caller) Left
Does s caller (Show asked form) turned = Shows s (candidate_of s caller).map (level_of s caller) asked form turned
Does s caller (Change op) turned = Changes s caller op turned ⊎ IsUnchanged s caller op turned
Does s caller (Load way text) turned = Loads s caller way text turned ⊎ IsNotLoaded s caller way text turned
Does s caller (Rollback n) turned = RollsTo s caller n (nth_last s.kept n) turned
Does s caller CheckOnly turned = ChecksWhole s (own_of s caller) turned (λ m. checked s caller s.kept.pending)
Does s caller (CommitAsked minutes comment quit) turned =
    ChecksWhole s (own_of s caller) turned (λ m. committed s caller m minutes comment quit)
Does s caller (CommitAt when comment) turned =
    ChecksWhole s (own_of s caller) turned (λ m. set_for s caller m (at_of when s.greatest) comment)
Does s caller ClearCommit turned = turned ≡ makes s caller (ClearedOf (cleared_of s caller)) false ClearedCommit
Does s caller Update turned = Updates s caller turned ⊎ IsNotMerged s (candidate_of s caller) turned
Does s caller Status turned = turned ≡ answered s (Text (session_lines 1 s.callers))

-- what a command does, where nothing comes before it
abbrev pub Serves : State → ℕ → Command → Turned → Type 0
Serves s caller command turned = Unless (bar_to s caller command) s turned (Does s caller command turned)
