-- What a call did to one file, by what is told of its disk before and after. A fact on content is of a disk that tells it.
use Rattle.std.specs.Prelude.{◌≡◌, ◌≢◌, ◌≤◌, ◌<◌, ◌+◌, ◌%◌, ◌^◌, Bool, IsTrue, true, ℕ, List, length}
use Rattle.disk_model.specs.Disk.{Call, Called, DiskView, DiskGoesOn, MadePart, MaySync, Sync, contents_of}
use Rattle.disk_model.specs.Pair.{BothTell, DiskPair}
use Rattle.record_code.specs.declared.payloads.Placed.{Placed}
use Rattle.record_code.specs.Listed.{PlacedFrom, records_of}
use Rattle.record_code.specs.Reading.{Spells, first_gate}
use Rattle.commit_journal.specs.Pair.{IsPair, b_counts, file_gate, first_of, generation}

-- a file that was read, and called no other way
pub record IsReadFile (before after : DiskView) : Type 0 where
  pub tells : after.tells ≡ before.tells
  pub history : after.history ≡ before.history

-- a file that was synced once at most and not written, and was synced where all was done
pub record IsSyncedFile (before after : DiskView) (done : Type 0) : Type 0 where
  pub tells : after.tells ≡ before.tells
  pub may : IsTrue before.tells → MaySync before.history after.history
  pub synced : done → IsTrue before.tells → Called before.history (Sync true) after.history

-- a file that was written by the first ones of these calls, and by all of them where all was done
pub record IsWrittenFile (before after : DiskView) (calls : List Call) (done : Type 0) : Type 0 where
  pub tells : after.tells ≡ before.tells
  pub part : IsTrue before.tells → MadePart before.history calls after.history
  pub made : done → IsTrue before.tells → DiskGoesOn before.history calls after.history

-- the records of a file up to its first closed gate
pub record IsListedFile (file : DiskView) (placed : List Placed) (gate : ℕ) : Type 0 where
  pub bound : gate < 2 ^ 62
  pub places : PlacedFrom first_gate placed gate
  pub spells : IsTrue file.tells → Spells (contents_of file.history) (records_of placed) gate

-- the records of the one of two files that counts
pub record AreListed (files : DiskPair) (choice : Bool) (placed : List Placed) (gate : ℕ) : Type 0 where
  pub listed : IsListedFile (first_of choice files.a files.b) placed gate
  pub pair : BothTell files → IsPair (contents_of files.a.history) (contents_of files.b.history)
  pub chosen : BothTell files → choice ≡ b_counts (contents_of files.a.history) (contents_of files.b.history)

-- the file that counts has this generation, and the other one is long enough and isn't the next one
pub record AreMarked (counting other : DiskView) (number : ℕ) : Type 0 where
  pub numbered : IsTrue counting.tells → generation (contents_of counting.history) ≡ number
  pub long : IsTrue other.tells → first_gate ≤ length (contents_of other.history)
  pub stale : IsTrue other.tells → file_gate (contents_of other.history) ≡ 1 → generation (contents_of other.history) ≢ (number + 1) % 2 ^ 64
