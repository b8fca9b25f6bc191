-- Why a journal that is there isn't opened, as it is reported.
use Rattle.std.specs.Prelude.{List}
use Rattle.record_code.specs.declared.payloads.Placed.{Placed}
use Rattle.commit_check.specs.Accepts.{Accepts}
use Rattle.commit_journal.specs.declared.why.AttachWhy.{AttachWhy}
use Rattle.commit_journal.specs.declared.why.AttachWhy.TheVariants.{NotAJournal as NoPair, Damaged as DamagedPair, DiskFault as PairFault, NoMemory as PairNoMemory}
use Rattle.stored_ledger.specs.declared.why.StartWhy.{StartWhy}
use Rattle.stored_ledger.specs.declared.why.StartWhy.TheVariants.{Exists, NotAJournal, Damaged, BadRecord, DiskFault, NoMemory}
use Rattle.commit_ledger.specs.Reading.{IsUnread}

-- why a journal couldn't be attached
abbrev pub why_of_opening : AttachWhy → StartWhy
why_of_opening NoPair = NotAJournal
why_of_opening (DamagedPair offset kept computed) = Damaged offset kept computed
why_of_opening PairFault = DiskFault
why_of_opening PairNoMemory = NoMemory

-- why records aren't a list of commits
abbrev pub IsUnreadFor : List Placed → StartWhy → Type 0
IsUnreadFor placed Exists = ⊥
IsUnreadFor placed NotAJournal = ⊥
IsUnreadFor placed (Damaged offset kept computed) = ⊥
IsUnreadFor placed (BadRecord offset) = IsUnread Accepts placed offset
IsUnreadFor placed DiskFault = ⊥
IsUnreadFor placed NoMemory = Unit {0}
