-- What an entry of the list keeps to: its own fields, and its place after the entries before it.
-- The ranges are this project's own.
use Rattle.std.specs.Prelude.{ℕ, ◌≡◌, ◌≤◌, ◌<◌, ◌+◌, ◌==◌, ◌^◌, ◌⊎◌, ◌||◌, Bool, false, List, [], ◌∷◌, length, None, IfSome, IsSome}
use Rattle.cfg_base.specs.declared.moment.TheConstants.{MOMENT_MAX}
use Rattle.cfg_base.specs.Kind.{IsName}
use Rattle.cfg_tree.specs.FirstProfile.{IsFirstProfile}
use Rattle.cfg_tree.specs.Statements.{Statements}
use Rattle.cfg_tree.specs.Tree.{IsTree}
use Rattle.cfg_values.specs.Spelling.{IsText}
use Rattle.record_code.specs.Record.{Record}
use Rattle.commit_ledger.specs.declared.entry.Commit.{Commit}
use Rattle.commit_ledger.specs.declared.entry.Confirm.{Confirm}
use Rattle.commit_ledger.specs.declared.entry.Entry.{Entry}
use Rattle.commit_ledger.specs.declared.entry.Cleared.{Cleared}
use Rattle.commit_ledger.specs.declared.entry.Scheduled.{Scheduled}
use Rattle.commit_ledger.specs.declared.entry.Entry.TheVariants.{Commit as CommitOf, Confirm as ConfirmOf, Scheduled as ScheduledOf, Cleared as ClearedOf}
use Rattle.commit_ledger.specs.declared.entry.Via.TheVariants.{Cli}
use Rattle.commit_ledger.specs.declared.limit.TheConstants.{MAX_ENTRIES}
use Rattle.commit_ledger.specs.Kept.{Kept, RoomFor}
use Rattle.commit_ledger.specs.Payload.{entry_record, former_record, text_of, most_text}

-- the number of a commit
abbrev pub IsCommitNumber : ℕ → Type 0
IsCommitNumber n = (1 ≤ n) × (n < 2 ^ 64)

-- a commit's own fields: a user's name, a printable comment, at most 65,535 minutes, and an accepted configuration, whose
-- text isn't longer than a payload's may be
pub record IsCommit (accepted : Statements → Type 0) (commit : Commit) : Type 0 where
  pub number : IsCommitNumber commit.number
  pub moment : commit.moment ≤ MOMENT_MAX
  pub user : IsName commit.user
  pub comment : IsText commit.comment
  pub minutes : commit.minutes ≤ 65535
  pub tree : IsTree commit.tree
  pub text : length (text_of commit.tree) ≤ most_text
  pub passes : accepted commit.tree

-- a confirmation's own fields
pub record IsConfirm (confirm : Confirm) : Type 0 where
  pub number : IsCommitNumber confirm.number
  pub moment : confirm.moment ≤ MOMENT_MAX
  pub user : IsName confirm.user

-- a scheduled commit's own fields
pub record IsScheduled (accepted : Statements → Type 0) (waiting : Scheduled) : Type 0 where
  pub number : IsCommitNumber waiting.number
  pub moment : waiting.moment ≤ MOMENT_MAX
  pub at : waiting.at ≤ MOMENT_MAX
  pub user : IsName waiting.user
  pub comment : IsText waiting.comment
  pub tree : IsTree waiting.tree
  pub text : length (text_of waiting.tree) ≤ most_text
  pub passes : accepted waiting.tree

-- and of what calls one off
pub record IsCleared (cleared : Cleared) : Type 0 where
  pub number : IsCommitNumber cleared.number
  pub moment : cleared.moment ≤ MOMENT_MAX
  pub user : IsName cleared.user

abbrev pub IsEntry : (Statements → Type 0) → Entry → Type 0
IsEntry accepted (CommitOf commit) = IsCommit accepted commit
IsEntry accepted (ConfirmOf confirm) = IsConfirm confirm
IsEntry accepted (ScheduledOf waiting) = IsScheduled accepted waiting
IsEntry accepted (ClearedOf cleared) = IsCleared cleared

-- whether a commit as it is written now has come, after these records; before them `new` says it
abbrev pub new_after : Bool → List Record → Bool
new_after new [] = new
new_after new (r ∷ rs) = new_after (new || (r.kind == 4)) rs

-- the record is the former one of a commit. Such a one is read where its map is of the first profile, and before each commit as
-- it is written now
pub record IsFormer (new : Bool) (r : Record) (commit : Commit) : Type 0 where
  pub is : r ≡ former_record commit
  pub before : new ≡ false
  pub first : IsFirstProfile commit.tree

-- the record is the one that the entry is written as, or the former one of a commit
abbrev pub IsWritten : Bool → Record → Entry → Type 0
IsWritten new r (CommitOf commit) = (r ≡ entry_record (CommitOf commit)) ⊎ IsFormer new r commit
IsWritten new r (ConfirmOf confirm) = r ≡ entry_record (ConfirmOf confirm)
IsWritten new r (ScheduledOf waiting) = r ≡ entry_record (ScheduledOf waiting)
IsWritten new r (ClearedOf cleared) = r ≡ entry_record (ClearedOf cleared)

-- the record is of that entry, whose fields keep to their ranges
pub record IsRecordOf (accepted : Statements → Type 0) (new : Bool) (r : Record) (entry : Entry) : Type 0 where
  pub is : IsWritten new r entry
  pub is_entry : IsEntry accepted entry

-- the commit is the one that was scheduled, at its time or later
pub record IsCarried (waiting : Scheduled) (commit : Commit) : Type 0 where
  pub user : commit.user ≡ waiting.user
  pub via : commit.via ≡ Cli
  pub comment : commit.comment ≡ waiting.comment
  pub tree : commit.tree ≡ waiting.tree
  pub minutes : commit.minutes ≡ 0
  pub come : waiting.at ≤ commit.moment

-- commit numbers rise by 1 and moments don't fall; while a commit is scheduled, no other one is made
pub record CommitFollows (kept : Kept) (commit : Commit) : Type 0 where
  pub number : commit.number ≡ kept.last.number + 1
  pub moment : kept.moment ≤ commit.moment
  pub room : RoomFor kept (CommitOf commit)
  pub carries : IfSome kept.scheduled (λ waiting. IsCarried waiting commit)

-- a confirmation is of the last commit, and stands only where a run is unconfirmed
pub record ConfirmFollows (kept : Kept) (confirm : Confirm) : Type 0 where
  pub number : confirm.number ≡ kept.last.number
  pub moment : kept.moment ≤ confirm.moment
  pub waits : IsSome kept.pending

-- a commit is scheduled for a later time, where no run is unconfirmed and no other one is scheduled; the list keeps room for it
pub record ScheduledFollows (kept : Kept) (waiting : Scheduled) : Type 0 where
  pub number : waiting.number ≡ kept.last.number + 1
  pub moment : kept.moment ≤ waiting.moment
  pub later : waiting.moment < waiting.at
  pub within : waiting.at < MOMENT_MAX
  pub no_run : kept.pending ≡ None
  pub alone : kept.scheduled ≡ None
  pub room : RoomFor kept (ScheduledOf waiting)

-- it is called off only while it waits
pub record ClearedFollows (kept : Kept) (cleared : Cleared) : Type 0 where
  pub number : cleared.number ≡ kept.last.number + 1
  pub moment : kept.moment ≤ cleared.moment
  pub waits : IsSome kept.scheduled

-- a scheduled commit is the last entry, with its fields in their ranges; it has the number of the commit that it becomes, for which
-- there is room, and no run is unconfirmed
pub record IsWaiting (accepted : Statements → Type 0) (kept : Kept) (waiting : Scheduled) : Type 0 where
  pub is_scheduled : IsScheduled accepted waiting
  pub number : waiting.number ≡ kept.last.number + 1
  pub last : kept.moment ≡ waiting.moment
  pub later : waiting.moment < waiting.at
  pub within : waiting.at < MOMENT_MAX
  pub no_run : kept.pending ≡ None
  pub room : kept.count ≤ MAX_ENTRIES
  pub counted : kept.last.number < kept.count

-- the entry may be the next one
abbrev pub Follows : Kept → Entry → Type 0
Follows kept (CommitOf commit) = CommitFollows kept commit
Follows kept (ConfirmOf confirm) = ConfirmFollows kept confirm
Follows kept (ScheduledOf waiting) = ScheduledFollows kept waiting
Follows kept (ClearedOf cleared) = ClearedFollows kept cleared
