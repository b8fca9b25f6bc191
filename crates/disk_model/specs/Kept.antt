-- How a disk in memory keeps the record of its calls: their kinds in a row, and the bytes of all writes one after another.
use Rattle.std.specs.Prelude.{◌+◌, ◌*◌, ◌&&◌, Bool, nat_lt, nat_le, ℕ, List, [], ◌∷◌, ◌++◌, length, take, drop, replicate, if◌then◌else◌}
use Rattle.disk_model.specs.declared.kept.Kept.{Kept}
use Rattle.disk_model.specs.declared.kept.Kept.TheVariants.{Written, Missed as NotWritten, Synced}
use Rattle.disk_model.specs.Disk.{Call, Write, Missed, Sync, Refused}
use Rattle.disk_model.specs.Memory.{written_bytes}

-- how many bytes of the writes one call takes
abbrev pub size_of : Kept → ℕ
size_of (Written at count) = count
size_of (NotWritten at count) = 0
size_of (Synced cleared) = 0

-- the call that is kept so, before these bytes
abbrev pub call_of : Kept → List ℕ → Call
call_of (Written at count) bytes = Write at (take count bytes)
call_of (NotWritten at count) bytes = Missed at count
call_of (Synced cleared) bytes = Sync cleared

-- the bytes of the calls after it
abbrev pub bytes_after : Kept → List ℕ → List ℕ
bytes_after (Written at count) bytes = drop count bytes
bytes_after (NotWritten at count) bytes = bytes
bytes_after (Synced cleared) bytes = bytes

-- how many bytes the writes among them have
abbrev pub total_of : List Kept → ℕ
total_of [] = 0
total_of (call ∷ kept) = size_of call + total_of kept

-- the calls that are kept so
abbrev pub calls_of : List Kept → List ℕ → List Call
calls_of [] bytes = []
calls_of (call ∷ kept) bytes = call_of call bytes ∷ calls_of kept (bytes_after call bytes)

-- those calls, and then some of which only the count is kept
unfoldable pub recorded : List Kept → List ℕ → ℕ → List Call
recorded kept bytes refused = calls_of kept bytes ++ replicate refused Refused

-- a record of calls: the bytes that it has room for, and how many calls may be done; it has room for twice as many
pub record RecordView : Type 0 where
  pub calls : List Call
  pub room : ℕ
  pub limit : ℕ

-- one call more may be done
abbrev pub keeps_call : RecordView → Bool
keeps_call v = nat_lt (length v.calls) v.limit

-- the record has room for one call more, done or failed
abbrev pub keeps_place : RecordView → Bool
keeps_place v = nat_lt (length v.calls) (2 * v.limit)

-- a failed call as the record keeps it
abbrev pub as_kept : RecordView → Call → Call
as_kept v call = if keeps_place v then call else Refused

-- a write of that many bytes may be done
abbrev pub keeps_write : RecordView → ℕ → Bool
keeps_write v count = keeps_call v && nat_le (written_bytes v.calls + count) v.room
