-- What a contract sees of a disk in memory, and what each call does to it.
use Rattle.std.specs.Prelude.{◌≡◌, ◌+◌, ◌*◌, ◌-◌, ◌^◌, min, ◌==◌, ◌&&◌, ◌⊎◌, Bool, true, false, nat_lt, nat_le, ℕ, List, [], ◌∷◌, length, Option, Some, None, is_none, find, if◌then◌else◌}
use Rattle.std.specs.List.{list_any}
use Rattle.std.specs.Option.{option_map}
use Rattle.disk_model.specs.declared.failing.FailAt.{FailAt}
use Rattle.disk_model.specs.declared.failing.FailMode.{FailMode}
use Rattle.disk_model.specs.declared.failing.FailMode.TheVariants.{Nothing, Effect}
use Rattle.disk_model.specs.Disk.{History, Call, Write, Missed, Sync, Refused, Called, Uncounted}

-- how many bytes the writes of these calls have
abbrev pub written_bytes : List Call → ℕ
written_bytes [] = 0
written_bytes (Write at bytes ∷ calls) = length bytes + written_bytes calls
written_bytes (Missed at count ∷ calls) = written_bytes calls
written_bytes (Sync cleared ∷ calls) = written_bytes calls
written_bytes (Refused ∷ calls) = written_bytes calls

-- a disk in memory, with the room and the number of calls that it was made with, and the calls that are to fail
pub record MemView : Type 0 where
  pub history : History
  pub faults : ℕ
  pub room : ℕ
  pub limit : ℕ
  pub failing : List FailAt
  -- the calls of `read_at` and `len` so far, and those that are to fail
  pub reads : ℕ
  pub failing_reads : List ℕ

-- the stated number of calls isn't reached
abbrev pub has_call : MemView → Bool
has_call v = nat_lt (length v.history.calls) v.limit

-- a write ends within the room, and its bytes have room in the record of all writes
abbrev pub has_room : MemView → ℕ → ℕ → Bool
has_room v at count =
    has_call v && (nat_le (at + count) v.room && nat_le (written_bytes v.history.calls + count) v.room)

-- how the call of that number is to fail
abbrev pub mode_of : List FailAt → ℕ → Option FailMode
mode_of failing number = option_map (λ (f : FailAt). f.mode) (find (λ (f : FailAt). f.call == number) failing)

-- how the next call of `write_at` or `sync` is to fail
abbrev pub next_mode : MemView → Option FailMode
next_mode v = mode_of v.failing (length v.history.calls + 1)

-- whether an effect is left by a call that fails so, or doesn't fail
abbrev pub takes : Option FailMode → Bool
takes None = true
takes (Some Effect) = true
takes (Some Nothing) = false

-- a failed call as its record keeps it: with its place up to twice the stated number of calls, and then as a count
abbrev pub kept_as : MemView → Call → Call
kept_as v call = if nat_lt (length v.history.calls) (2 * v.limit) then call else Refused

-- what a write does: one without room fails as one does that is to leave nothing
abbrev pub write_call : MemView → ℕ → List ℕ → Call
write_call v at bytes =
    if has_room v at (length bytes) && takes (next_mode v) then Write at bytes else kept_as v (Missed at (length bytes))

-- what a sync does
abbrev pub sync_call : MemView → Call
sync_call v = if has_call v && takes (next_mode v) then Sync true else kept_as v (Sync false)

-- whether a write is answered as done: there is room, and it isn't to fail
abbrev pub is_write_done : MemView → ℕ → ℕ → Bool
is_write_done v at count = has_room v at count && is_none (next_mode v)

-- whether a sync is answered as done
abbrev pub is_sync_done : MemView → Bool
is_sync_done v = has_call v && is_none (next_mode v)

-- the number of the next call of `read_at` or `len`; a count stands still at its last value
abbrev pub next_read : MemView → ℕ
next_read v = min (v.reads + 1) (2 ^ 64 - 1)

-- whether the next call of `read_at` or `len` is to fail
abbrev pub fails_read : MemView → Bool
fails_read v = list_any (λ n. n == next_read v) v.failing_reads

-- the count of faults after a call that failed; it stands still at its last value
abbrev pub one_fault : MemView → ℕ
one_fault v = min (v.faults + 1) (2 ^ 64 - 1)

-- the disk did that call, or its count stood at its end; only the count of faults may have changed with it
pub record DidCall (v : MemView) (call : Call) (v' : MemView) : Type 0 where
  pub history : Called v.history call v'.history ⊎ Uncounted v.history v'.history
  pub same : v' ≡ record v { history = v'.history; faults = v'.faults }

-- a read was counted; only the count of faults may have changed with it
abbrev pub DidRead : MemView → MemView → Type 0
DidRead v v' = v' ≡ record v { reads = next_read v; faults = v'.faults }
