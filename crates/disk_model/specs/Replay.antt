-- One crash image of a disk in memory, with the bytes of the pending places chosen.
use Rattle.std.specs.Prelude.{◌≡◌, ◌<◌, ◌+◌, Bool, true, false, max, ℕ, zero, suc, List, [], length, take, slice_index, if◌then◌else◌}
use Rattle.disk_model.specs.declared.torn.Torn.{Torn}
use Rattle.disk_model.specs.Disk.{DiskState, at_first, after}
use Rattle.disk_model.specs.Memory.{MemView}

-- how many places below k are pending
abbrev pub pending_below : (ℕ → Bool) → ℕ → ℕ
pending_below pending zero = 0
pending_below pending (suc k) = pending_below pending k + (if pending k then 1 else 0)

-- the torn length, or that of the last sync where it is greater; pending places have the torn bytes in order, and 0 after their end
pub record IsTorn (s : DiskState) (torn : Torn) (image : List ℕ) : Type 0 where
  pub size : length image ≡ max torn.length s.synced
  pub each : (k : ℕ) → k < length image → slice_index image k
      ≡ (if s.pending k then slice_index torn.bytes (pending_below s.pending k) else slice_index s.contents k)

-- the image with these torn bytes: the contents where nothing is pending
pub record IsChosenImage (s : DiskState) (torn : Torn) (image : List ℕ) : Type 0 where
  pub calm : ((k : ℕ) → s.pending k ≡ false) → image ≡ s.contents
  pub torn_is : (k : ℕ) → s.pending k ≡ true → IsTorn s torn image

-- a disk that holds this and has made no call, as large as another one
abbrev pub fresh : MemView → List ℕ → MemView
fresh v image = record {
  history = record { first = image; calls = [] };
  faults = 0;
  room = v.room;
  limit = v.limit;
  failing = [];
  reads = 0;
  failing_reads = [];
}

-- a disk that holds the image after so many calls
abbrev pub HoldsImage : MemView → ℕ → Torn → MemView → Type 0
HoldsImage v call torn d =
    (d ≡ fresh v d.history.first)
    × IsChosenImage (after (at_first v.history.first) (take call v.history.calls)) torn d.history.first
