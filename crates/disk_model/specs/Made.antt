-- A call of a disk in memory, as its record shows it.
use Rattle.disk_model.specs.declared.made.Made.{Made}
use Rattle.disk_model.specs.declared.made.Made.TheVariants.{Wrote, Missed as NotWritten, Synced, TurnedDown}
use Rattle.disk_model.specs.Disk.{Call, Write, Missed, Sync, Refused}

-- the call that is shown
abbrev pub call_of : Made → Call
call_of (Wrote at bytes) = Write at bytes.now
call_of (NotWritten at count) = Missed at count
call_of (Synced cleared) = Sync cleared
call_of TurnedDown = Refused
