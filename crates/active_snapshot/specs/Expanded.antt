-- A view with its expansion. This is the project's own.
use Rattle.std.specs.Prelude.{◌≡◌, Option, Some, None}
use Rattle.cfg_tree.specs.Full.{Expansion}
use Rattle.group_expand.specs.Expansion.{IsExpansion}
use Rattle.commit_ledger.specs.declared.entry.Entry.{Entry}
use Rattle.commit_ledger.specs.declared.entry.Entry.TheVariants.{Commit as CommitOf, Confirm as ConfirmOf, Scheduled as ScheduledOf, Cleared as ClearedOf}
use Rattle.commit_ledger.specs.Kept.{Kept, active_of}

-- the active configuration with all that its groups give
abbrev pub IsExpanded : Kept → Expansion → Type 0
IsExpanded view full = IsExpansion (active_of view) full

-- the expansion that comes with an entry: of a commit's configuration, and none with another entry, which leaves that as it is
abbrev pub ComesWith : Entry → Option Expansion → Type 0
ComesWith (CommitOf commit) None = ⊥
ComesWith (CommitOf commit) (Some full) = IsExpansion commit.tree full
ComesWith (ConfirmOf confirm) full = full ≡ None
ComesWith (ScheduledOf waiting) full = full ≡ None
ComesWith (ClearedOf cleared) full = full ≡ None
