-- The fields of a payload that was taken apart.
use Rattle.std.specs.Prelude.{◌≡◌, ◌≢◌, ◌≤◌, ◌<◌, ◌^◌, ℕ, List, length}
use Rattle.cfg_base.specs.declared.moment.TheConstants.{MOMENT_MAX}
use Rattle.cfg_tree.specs.Statements.{Statements}
use Rattle.commit_ledger.specs.declared.entry.Commit.{Commit}
use Rattle.commit_ledger.specs.declared.entry.Confirm.{Confirm}
use Rattle.commit_ledger.specs.declared.form.CommitRead.{CommitRead}
use Rattle.commit_ledger.specs.declared.form.ConfirmRead.{ConfirmRead}
use Rattle.commit_ledger.specs.declared.entry.Cleared.{Cleared}
use Rattle.commit_ledger.specs.declared.entry.Scheduled.{Scheduled}
use Rattle.commit_ledger.specs.declared.form.KeepRead.{KeepRead}
use Rattle.commit_ledger.specs.declared.form.ScheduledRead.{ScheduledRead}
use Rattle.commit_ledger.specs.Checkpoint.{KeepForm}
use Rattle.commit_ledger.specs.Payload.{CommitForm, ConfirmForm, ScheduledForm, form_of, confirm_form, cleared_form, scheduled_form, commit_bytes, confirm_bytes, scheduled_bytes, most_text}
use Rattle.commit_ledger.specs.Rules.{IsCommit, IsConfirm, IsScheduled, IsCleared}

abbrev pub commit_read : CommitRead → CommitForm
commit_read read = record {
  number = read.number;
  moment = read.moment;
  via = read.via;
  minutes = read.minutes;
  user = read.user.now;
  comment = read.comment.now;
  text = read.text.now;
}

abbrev pub confirm_read : ConfirmRead → ConfirmForm
confirm_read read = record { number = read.number; moment = read.moment; user = read.user.now }

abbrev pub scheduled_read : ScheduledRead → ScheduledForm
scheduled_read read = record {
  number = read.number;
  moment = read.moment;
  at = read.at;
  user = read.user.now;
  comment = read.comment.now;
  text = read.text.now;
}

abbrev pub keep_read : KeepRead → KeepForm
keep_read read = record { count = read.count; target = read.target; commits = read.commits }

-- the numbers are in their ranges, and the text isn't too long
pub record IsInRange (f : CommitForm) : Type 0 where
  pub number : f.number ≢ 0
  pub moment : f.moment ≤ MOMENT_MAX
  pub minutes : f.minutes ≤ 65535
  pub text : length f.text ≤ most_text

-- the commit has these fields, and they keep to their ranges
pub record IsCommitFrom (accepted : Statements → Type 0) (f : CommitForm) (commit : Commit) : Type 0 where
  pub form : f ≡ form_of commit
  pub is_commit : IsCommit accepted commit

-- the payload is the commit's
pub record IsCommitOf (accepted : Statements → Type 0) (payload : List ℕ) (commit : Commit) : Type 0 where
  pub bytes : payload ≡ commit_bytes (form_of commit)
  pub is_commit : IsCommit accepted commit

pub record IsConfirmFrom (f : ConfirmForm) (confirm : Confirm) : Type 0 where
  pub form : f ≡ confirm_form confirm
  pub is_confirm : IsConfirm confirm

pub record IsConfirmOf (payload : List ℕ) (confirm : Confirm) : Type 0 where
  pub bytes : payload ≡ confirm_bytes (confirm_form confirm)
  pub is_confirm : IsConfirm confirm

-- the moments are in their range, the number isn't 0, and the text isn't too long
pub record IsScheduledInRange (f : ScheduledForm) : Type 0 where
  pub number : f.number ≢ 0
  pub moment : f.moment ≤ MOMENT_MAX
  pub at : f.at ≤ MOMENT_MAX
  pub text : length f.text ≤ most_text

pub record IsScheduledFrom (accepted : Statements → Type 0) (f : ScheduledForm) (waiting : Scheduled) : Type 0 where
  pub form : f ≡ scheduled_form waiting
  pub is_scheduled : IsScheduled accepted waiting

pub record IsScheduledOf (accepted : Statements → Type 0) (payload : List ℕ) (waiting : Scheduled) : Type 0 where
  pub bytes : payload ≡ scheduled_bytes (scheduled_form waiting)
  pub is_scheduled : IsScheduled accepted waiting

pub record IsClearedOf (payload : List ℕ) (cleared : Cleared) : Type 0 where
  pub bytes : payload ≡ confirm_bytes (cleared_form cleared)
  pub is_cleared : IsCleared cleared

-- each number of a Keep fits its place
pub record KeepFits (f : KeepForm) : Type 0 where
  pub count : f.count < 2 ^ 64
  pub target : f.target < 2 ^ 64
  pub commits : f.commits < 2 ^ 32
