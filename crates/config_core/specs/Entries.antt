-- The entries that events make, and what an entry makes of the state.
-- Junos OS CLI User Guide, on commit, on commit confirmed and its confirmation, on scheduling a commit, and on the comment of a
-- commit.
use Rattle.std.specs.Prelude.{ℕ, ◌+◌, Bool, List, if◌then◌else◌, Option, Some, None}
use Rattle.candidate.specs.Edits.{CandidateView}
use Rattle.cfg_tree.specs.Statements.{Statements}
use Rattle.commit_ledger.specs.declared.entry.Commit.{Commit}
use Rattle.commit_ledger.specs.declared.entry.Confirm.{Confirm}
use Rattle.commit_ledger.specs.declared.entry.Entry.{Entry}
use Rattle.commit_ledger.specs.declared.entry.Scheduled.{Scheduled}
use Rattle.commit_ledger.specs.declared.entry.Cleared.{Cleared}
use Rattle.commit_ledger.specs.declared.entry.Entry.TheVariants.{Commit as CommitOf, Confirm as ConfirmOf, Scheduled as ScheduledOf, Cleared as ClearedOf}
use Rattle.commit_ledger.specs.declared.entry.Via.TheVariants.{Cli}
use Rattle.commit_ledger.specs.Kept.{append_entry, carry_of, revert_of}
use Rattle.config_core.specs.declared.effect.Maker.{Maker}
use Rattle.config_core.specs.declared.effect.Maker.TheVariants.{Command, Deadline, Schedule}
use Rattle.config_core.specs.State.{State, Made, fresh_of}
use Rattle.config_core.specs.Callers.{caller_of, own_of, shared_with, owns_with}

-- the commit of a configuration that a caller makes
abbrev pub commit_of : State → ℕ → Statements → ℕ → List ℕ → Commit
commit_of s caller m minutes comment = record {
  number = s.kept.last.number + 1;
  user = (caller_of s caller).user;
  via = Cli;
  moment = s.greatest;
  comment = comment;
  tree = m;
  minutes = minutes;
}

-- a caller's confirmation of the last commit
abbrev pub confirm_of : State → ℕ → Confirm
confirm_of s caller = record { number = s.kept.last.number; user = (caller_of s caller).user; moment = s.greatest }

-- a caller's commit of a configuration that is set for a later time; its number is the one that the commit will have
abbrev pub scheduled_of : State → ℕ → Statements → ℕ → List ℕ → Scheduled
scheduled_of s caller m at comment = record {
  number = s.kept.last.number + 1;
  user = (caller_of s caller).user;
  moment = s.greatest;
  at = at;
  comment = comment;
  tree = m;
}

-- a caller calls it off
abbrev pub cleared_of : State → ℕ → Cleared
cleared_of s caller = record { number = s.kept.last.number + 1; user = (caller_of s caller).user; moment = s.greatest }

-- the entry of a caller
abbrev pub made_by : ℕ → Entry → Made
made_by caller entry = record { entry = entry; maker = Command caller }

-- the commit that a missed deadline makes
abbrev pub revert_made : State → Made
revert_made s = record { entry = CommitOf (revert_of s.kept s.greatest); maker = Deadline }

-- the commit that a scheduled one becomes, and whether the shared candidate has its map
abbrev pub carry_made : State → Scheduled → Bool → Made
carry_made s waiting same = record { entry = CommitOf (carry_of s.kept waiting s.greatest); maker = Schedule same }

-- the candidate of an entry that is a commit, without edits; another entry leaves all candidates as they are
abbrev pub fresh_in : Entry → Option CandidateView
fresh_in (CommitOf commit) = Some (fresh_of commit)
fresh_in (ConfirmOf confirm) = None
fresh_in (ScheduledOf waiting) = None
fresh_in (ClearedOf cleared) = None

-- a shared candidate that isn't modified follows a commit; a modified one stays as it is
abbrev pub followed : CandidateView → CandidateView → CandidateView
followed shared new = if shared.modified then shared else new

-- and one that has the map of a commit that was scheduled is that commit's
abbrev pub followed_by : Maker → CandidateView → CandidateView → CandidateView
followed_by (Schedule same) shared new = if same then new else followed shared new
followed_by maker shared new = followed shared new

-- the shared candidate after an entry: it follows a commit, and the candidate that a caller commits is the commit's
abbrev pub shared_after : State → Maker → Option CandidateView → CandidateView
shared_after s maker None = s.shared
shared_after s (Command caller) (Some new) = shared_with (own_of s caller) (followed s.shared new) new
shared_after s maker (Some new) = followed_by maker s.shared new

-- the private sessions' own candidates after an entry: but for that which its caller commits they stay as they are
abbrev pub own_after : State → Maker → Option CandidateView → List (Option CandidateView)
own_after s maker None = s.own
own_after s (Command caller) (Some new) = owns_with (own_of s caller) s.own caller new
own_after s maker (Some new) = s.own

-- all that an entry does but for leaving the mode
abbrev pub taken : State → Made → State
taken s made = record s {
  kept = append_entry s.kept made.entry;
  shared = shared_after s made.maker (fresh_in made.entry);
  own = own_after s made.maker (fresh_in made.entry);
  flight = None;
}
