-- What holds of every state that the machine reaches, and of every entry that it makes.
-- Junos OS CLI User Guide, on the active configuration, which only a commit that was checked replaces.
use Rattle.std.specs.Prelude.{◌≡◌, ℕ, ◌≤◌, ◌+◌, List, [], ◌∷◌, Option, None, IsSome, IfSome, is_some}
use Rattle.candidate.specs.Edits.{CandidateView}
use Rattle.cfg_lex.specs.Printed.{IsPrintable}
use Rattle.commit_check.specs.Accepts.{Accepts}
use Rattle.commit_ledger.specs.declared.entry.Commit.{Commit}
use Rattle.commit_ledger.specs.declared.entry.Confirm.{Confirm}
use Rattle.commit_ledger.specs.declared.entry.Scheduled.{Scheduled}
use Rattle.commit_ledger.specs.declared.entry.Cleared.{Cleared}
use Rattle.commit_ledger.specs.declared.entry.Entry.{Entry}
use Rattle.commit_ledger.specs.declared.entry.Entry.TheVariants.{Commit as CommitOf, Confirm as ConfirmOf, Scheduled as ScheduledOf, Cleared as ClearedOf}
use Rattle.commit_ledger.specs.declared.limit.TheConstants.{MAX_ENTRIES}
use Rattle.commit_ledger.specs.Kept.{Kept, KeepsMaps, moment_of}
use Rattle.commit_ledger.specs.Rules.{CommitFollows, ConfirmFollows, ScheduledFollows, ClearedFollows}
use Rattle.config_core.specs.declared.caller.Caller.{Caller}
use Rattle.config_core.specs.Access.{is_private}
use Rattle.config_core.specs.State.{State, Made}

-- a commit may be the next entry: by its number, its moment and the room for it; its minutes, its comment and its map are such
-- as a commit may have
pub record IsSoundCommit (kept : Kept) (commit : Commit) : Type 0 where
  pub follows : CommitFollows kept commit
  pub minutes : commit.minutes ≤ 65535
  pub comment : IsPrintable commit.comment
  pub accepted : Accepts commit.tree

-- a confirmation may be the next entry: it is of the last commit, and a run is unconfirmed
pub record IsSoundConfirm (kept : Kept) (confirm : Confirm) : Type 0 where
  pub follows : ConfirmFollows kept confirm
  pub number : 1 ≤ confirm.number
  pub room : kept.count ≤ MAX_ENTRIES

-- a commit may be set for a later time
pub record IsSoundScheduled (kept : Kept) (waiting : Scheduled) : Type 0 where
  pub follows : ScheduledFollows kept waiting
  pub comment : IsPrintable waiting.comment
  pub accepted : Accepts waiting.tree

-- what waits may be called off
pub record IsSoundCleared (kept : Kept) (cleared : Cleared) : Type 0 where
  pub follows : ClearedFollows kept cleared
  pub number : 1 ≤ cleared.number
  pub room : kept.count ≤ MAX_ENTRIES

abbrev pub IsSoundEntry : Kept → Entry → Type 0
IsSoundEntry kept (CommitOf commit) = IsSoundCommit kept commit
IsSoundEntry kept (ConfirmOf confirm) = IsSoundConfirm kept confirm
IsSoundEntry kept (ScheduledOf waiting) = IsSoundScheduled kept waiting
IsSoundEntry kept (ClearedOf cleared) = IsSoundCleared kept cleared

-- an entry that is made may be the next one of a list, and isn't of a later moment than the last event
pub record IsSoundMade (kept : Kept) (greatest : ℕ) (made : Made) : Type 0 where
  pub entry : IsSoundEntry kept made.entry
  pub no_later : moment_of made.entry ≤ greatest

-- a scheduled commit has the number of the commit that it becomes, there is room for that one, and no run is unconfirmed
pub record IsSoundWaiting (kept : Kept) (waiting : Scheduled) : Type 0 where
  pub number : waiting.number ≡ kept.last.number + 1
  pub room : kept.count ≤ MAX_ENTRIES
  pub no_run : kept.pending ≡ None
  pub comment : IsPrintable waiting.comment

-- each map that the list keeps is accepted; commits are numbered from 1; where a run is unconfirmed there is room for a revert, and
-- where a commit is scheduled, for the one that it becomes
pub record IsSoundKept (kept : Kept) : Type 0 where
  pub maps : KeepsMaps Accepts kept
  pub number : 1 ≤ kept.last.number
  pub room : IsSome kept.pending → kept.count ≤ MAX_ENTRIES
  pub waits : IfSome kept.scheduled (IsSoundWaiting kept)

-- the list is so, none of its entries is of a later moment than the last event, and what is in flight may be the next one
pub record AreSound (entries : Kept) (flying : Option Made) (greatest : ℕ) : Type 0 where
  pub kept : IsSoundKept entries
  pub no_later : entries.moment ≤ greatest
  pub flight : IfSome flying (IsSoundMade entries greatest)

abbrev pub IsSoundState : State → Type 0
IsSoundState s = AreSound s.kept s.flight s.greatest

-- a session has a candidate of its own exactly in private mode
abbrev pub OwnByMode : List (Option CandidateView) → List Caller → Type 0
OwnByMode [] [] = Unit {0}
OwnByMode (own ∷ owns) (c ∷ callers) = (is_some own ≡ is_private c.mode) × OwnByMode owns callers
OwnByMode owns callers = ⊥
