-- What a session's door answers to `synchronize`: no run has a backup. This project's own.
use Rattle.std.specs.Prelude.{◌≡◌}
use Rattle.commit_ledger.specs.declared.synced.Synced.TheVariants.{Alone}
use Rattle.session_shell.specs.declared.door.SyncedTurn.{SyncedTurn}
use Rattle.session_shell.specs.declared.door.SyncedTurn.TheVariants.{Synced}
use Rattle.session_shell.specs.declared.turn.Turn.{Turn}
use Rattle.session_shell.specs.declared.turn.Turn.TheVariants.{KeptSynced}

-- a door without a backup says that there is none, and stands as it did
abbrev pub WithoutBackup : {D : Type 0} → D → SyncedTurn → D → Type 0
WithoutBackup d synced e = (synced ≡ Synced Alone) × (e ≡ d)

-- the turn of a commit that was to be synchronized, and was made, says that there is no backup
abbrev pub SaysAlone : Turn → Type 0
SaysAlone (KeptSynced place synced) = synced ≡ Synced Alone
SaysAlone turn = Unit {0}
