-- An entry that may be written, by what its types don't keep. This project's own.
use Rattle.std.specs.Prelude.{◌≤◌}
use Rattle.cfg_lex.specs.Printed.{IsPrintable}
use Rattle.commit_check.specs.Accepts.{Accepts}
use Rattle.commit_ledger.specs.declared.entry.Commit.{Commit}
use Rattle.commit_ledger.specs.declared.entry.Entry.{Entry}
use Rattle.commit_ledger.specs.declared.entry.Entry.TheVariants.{Commit as CommitOf, Confirm as ConfirmOf, Scheduled as ScheduledOf, Cleared as ClearedOf}
use Rattle.commit_ledger.specs.declared.entry.Scheduled.{Scheduled}

-- a commit that may be written
pub record IsWritableCommit (commit : Commit) : Type 0 where
  pub number : 1 ≤ commit.number
  pub minutes : commit.minutes ≤ 65535
  pub comment : IsPrintable commit.comment
  pub accepted : Accepts commit.tree

-- a scheduled commit that may be
pub record IsWritableScheduled (waiting : Scheduled) : Type 0 where
  pub number : 1 ≤ waiting.number
  pub comment : IsPrintable waiting.comment
  pub accepted : Accepts waiting.tree

-- and each entry
abbrev pub IsWritable : Entry → Type 0
IsWritable (CommitOf commit) = IsWritableCommit commit
IsWritable (ConfirmOf confirm) = 1 ≤ confirm.number
IsWritable (ScheduledOf waiting) = IsWritableScheduled waiting
IsWritable (ClearedOf cleared) = 1 ≤ cleared.number
