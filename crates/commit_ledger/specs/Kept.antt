-- What a list of entries leaves. Junos OS CLI User Guide, on returning to an earlier configuration, on commits that
-- require a confirmation and on scheduling a commit. How many entries there may be is this project's own.
use Rattle.std.specs.Prelude.{ℕ, ◌≡◌, ◌≢◌, ◌≤◌, ◌<◌, ◌⊎◌, ◌-◌, ◌+◌, ◌==◌, nat_le, Bool, false, List, reverse, [], ◌∷◌, ◌++◌, length, drop, All, Option, Some, None, IfSome, IsSome, slice_get, if◌then◌else◌, codes}
use Rattle.std.specs.FinMap as map
use Rattle.cfg_tree.specs.Statements.{Statements}
use Rattle.confirm_timer.specs.Deadline.{after_minutes}
use Rattle.commit_ledger.specs.declared.entry.Commit.{Commit}
use Rattle.commit_ledger.specs.declared.entry.Confirm.{Confirm}
use Rattle.commit_ledger.specs.declared.entry.Entry.{Entry}
use Rattle.commit_ledger.specs.declared.entry.Cleared.{Cleared}
use Rattle.commit_ledger.specs.declared.entry.Scheduled.{Scheduled}
use Rattle.commit_ledger.specs.declared.entry.Entry.TheVariants.{Commit as CommitOf, Confirm as ConfirmOf, Scheduled as ScheduledOf, Cleared as ClearedOf}
use Rattle.commit_ledger.specs.declared.entry.Via.TheVariants.{Cli, Other}
use Rattle.commit_ledger.specs.declared.limit.TheConstants.{MAX_ENTRIES}

-- a run of commits that isn't confirmed yet: by when it must be, and the last commit before it
pub record Unconfirmed : Type 0 where
  pub deadline : ℕ
  pub target : Commit

-- how many entries there are, the last commit, those before it, oldest first, what is unconfirmed, what is scheduled, and the
-- last entry's moment
pub record Kept : Type 0 where
  pub count : ℕ
  pub last : Commit
  pub older : List Commit
  pub pending : Option Unconfirmed
  pub scheduled : Option Scheduled
  pub moment : ℕ

-- the commit that every list begins with: number 1, of no statement, by root, at moment 0
abbrev pub factory_commit : Commit
factory_commit = record {
  number = 1;
  user = codes "root";
  via = Other;
  moment = 0;
  comment = [];
  tree = map.empty;
  minutes = 0;
}

-- what a first commit alone leaves
abbrev pub opened : Commit → Kept
opened commit = record { count = 1; last = commit; older = []; pending = None; scheduled = None; moment = commit.moment }

abbrev pub factory : Kept
factory = opened factory_commit

-- the last n of a list
abbrev pub newest : ℕ → List Commit → List Commit
newest n commits = drop (length commits - n) commits

-- what an unconfirmed run goes back to; without one the last commit is what a new run goes back to
abbrev pub target_in : Option Unconfirmed → Commit → Commit
target_in None last = last
target_in (Some run) last = run.target

abbrev pub target_of : Kept → Commit
target_of kept = target_in kept.pending kept.last

-- a commit with minutes begins a run or goes on with it, from its own moment; one without confirms
abbrev pub pending_after : Kept → Commit → Option Unconfirmed
pending_after kept commit =
    if commit.minutes == 0 then None
    else Some (record { deadline = after_minutes commit.moment commit.minutes; target = target_of kept })

-- one more commit: with the last one 50 are kept, and none is scheduled any more
abbrev pub append_commit : Kept → Commit → Kept
append_commit kept commit = record {
  count = kept.count + 1;
  last = commit;
  older = newest 49 (kept.older ++ kept.last ∷ []);
  pending = pending_after kept commit;
  scheduled = None;
  moment = commit.moment;
}

-- a confirmation is no commit: nothing is unconfirmed from then on
abbrev pub append_confirm : Kept → Confirm → Kept
append_confirm kept confirm = record kept { count = kept.count + 1; pending = None; moment = confirm.moment }

-- a commit that is set for a later time is none yet: it waits
abbrev pub append_scheduled : Kept → Scheduled → Kept
append_scheduled kept waiting = record kept { count = kept.count + 1; scheduled = Some waiting; moment = waiting.moment }

-- nothing is scheduled any more
abbrev pub append_cleared : Kept → Cleared → Kept
append_cleared kept cleared = record kept { count = kept.count + 1; scheduled = None; moment = cleared.moment }

-- one more entry at the end of the list
abbrev pub append_entry : Kept → Entry → Kept
append_entry kept (CommitOf commit) = append_commit kept commit
append_entry kept (ConfirmOf confirm) = append_confirm kept confirm
append_entry kept (ScheduledOf waiting) = append_scheduled kept waiting
append_entry kept (ClearedOf cleared) = append_cleared kept cleared

-- when an entry was made
abbrev pub moment_of : Entry → ℕ
moment_of (CommitOf commit) = commit.moment
moment_of (ConfirmOf confirm) = confirm.moment
moment_of (ScheduledOf waiting) = waiting.moment
moment_of (ClearedOf cleared) = cleared.moment

-- what a list of further entries leaves
abbrev pub after_entries : Kept → List Entry → Kept
after_entries kept [] = kept
after_entries kept (entry ∷ entries) = after_entries (append_entry kept entry) entries

-- the commits of a list of entries
abbrev pub commits_in : List Entry → List Commit
commits_in [] = []
commits_in (CommitOf commit ∷ entries) = commit ∷ commits_in entries
commits_in (ConfirmOf confirm ∷ entries) = commits_in entries
commits_in (ScheduledOf waiting ∷ entries) = commits_in entries
commits_in (ClearedOf cleared ∷ entries) = commits_in entries

-- the active configuration: the map of the last commit
abbrev pub active_of : Kept → Statements
active_of kept = kept.last.tree

-- the commits that are kept, oldest first
abbrev pub commits_of : Kept → List Commit
commits_of kept = kept.older ++ kept.last ∷ []

-- and the last one first, as they are rolled back to
abbrev pub rollbacks : Kept → List Commit
rollbacks kept = kept.last ∷ reverse kept.older

-- the n-th last commit, counted from 0, where it is kept
abbrev pub nth_last : Kept → ℕ → Option Commit
nth_last kept n = slice_get (rollbacks kept) n

-- how many commits are kept
abbrev pub kept_commits : Kept → ℕ
kept_commits kept = length kept.older + 1

-- what a new entry takes with it: the commit that its run goes back to
abbrev pub target_for : Kept → Entry → Option Commit
target_for kept (CommitOf commit) = if commit.minutes == 0 then None else Some (target_of kept)
target_for kept (ConfirmOf confirm) = None
target_for kept (ScheduledOf waiting) = None
target_for kept (ClearedOf cleared) = None

-- not both wait: a run for its confirmation, and a scheduled commit for its time
abbrev pub HasOneWaiting : Kept → Type 0
HasOneWaiting kept = (kept.pending ≡ None) ⊎ (kept.scheduled ≡ None)

-- the list has room for the entry; where a run or a scheduled commit waits afterwards it keeps room for one more, which ends that
abbrev pub RoomFor : Kept → Entry → Type 0
RoomFor kept (CommitOf commit) = (kept.count ≤ MAX_ENTRIES) × (commit.minutes ≢ 0 → kept.count < MAX_ENTRIES)
RoomFor kept (ConfirmOf confirm) = (kept.count ≤ MAX_ENTRIES) × (IsSome kept.scheduled → kept.count < MAX_ENTRIES)
RoomFor kept (ScheduledOf waiting) = kept.count < MAX_ENTRIES
RoomFor kept (ClearedOf cleared) = (kept.count ≤ MAX_ENTRIES) × (IsSome kept.pending → kept.count < MAX_ENTRIES)

-- a commit's number isn't above the number of its entry
abbrev pub NumberFits : Kept → Entry → Type 0
NumberFits kept (CommitOf commit) = commit.number ≤ kept.count + 1
NumberFits kept (ConfirmOf confirm) = Unit {0}
NumberFits kept (ScheduledOf waiting) = Unit {0}
NumberFits kept (ClearedOf cleared) = Unit {0}

-- an unconfirmed run's deadline has come
abbrev pub is_missed : Option Unconfirmed → ℕ → Bool
is_missed None moment = false
is_missed (Some run) moment = nat_le run.deadline moment

abbrev pub is_revert_due : Kept → ℕ → Bool
is_revert_due kept moment = is_missed kept.pending moment

-- the commit that a missed deadline makes at a moment: the map from before the run, by root
abbrev pub revert_of : Kept → ℕ → Commit
revert_of kept moment = record {
  number = kept.last.number + 1;
  user = codes "root";
  via = Other;
  moment = moment;
  comment = [];
  tree = (target_of kept).tree;
  minutes = 0;
}

-- the scheduled commit, where its time has come
abbrev pub come_by : ℕ → Option Scheduled → Option Scheduled
come_by moment None = None
come_by moment (Some waiting) = if nat_le waiting.at moment then Some waiting else None

abbrev pub ready_in : Kept → ℕ → Option Scheduled
ready_in kept moment = come_by moment kept.scheduled

-- the commit that a scheduled one becomes at a moment, of the user who scheduled it
abbrev pub carry_of : Kept → Scheduled → ℕ → Commit
carry_of kept waiting moment = record {
  number = kept.last.number + 1;
  user = waiting.user;
  via = Cli;
  moment = moment;
  comment = waiting.comment;
  tree = waiting.tree;
  minutes = 0;
}

-- each map that is kept is one of these
pub record KeepsMaps (accepted : Statements → Type 0) (kept : Kept) : Type 0 where
  pub last : accepted kept.last.tree
  pub older : All (λ commit. accepted commit.tree) kept.older
  pub target : IfSome kept.pending (λ run. accepted run.target.tree)
  pub waiting : IfSome kept.scheduled (λ waiting. accepted waiting.tree)

-- an entry brings such a map, or none
abbrev pub BringsMap : (Statements → Type 0) → Entry → Type 0
BringsMap accepted (CommitOf commit) = accepted commit.tree
BringsMap accepted (ConfirmOf confirm) = Unit {0}
BringsMap accepted (ScheduledOf waiting) = accepted waiting.tree
BringsMap accepted (ClearedOf cleared) = Unit {0}
