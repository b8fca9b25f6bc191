-- The file that doesn't count, at rest and while the records of an image are written to it, and the calls that write them.
use Rattle.std.specs.Prelude.{◌≡◌, ◌≢◌, ◌≤◌, ◌<◌, ◌+◌, ◌%◌, ◌^◌, ◌==◌, ◌⊎◌, Bool, true, ℕ, List, ◌∷◌, [], ◌++◌, length, All, if◌then◌else◌}
use Rattle.std.specs.Int.{w64, from_be_bytes, to_be_bytes}
use Rattle.disk_model.specs.Disk.{Call, History, IsImage, Sync, Write, state_of, contents_of}
use Rattle.record_code.specs.Record.{Record, IsSound, bodies, gated}
use Rattle.record_code.specs.Reading.{slice, Agree, Spells, first_gate}
use Rattle.commit_journal.specs.Pair.{file_gate, generation, IsQuiet, IsSettled, IsChosen}

-- the file is the new one: its gate is open, its generation is the one after that number, and it has these records
pub record IsReplacement (number : ℕ) (image : List Record) (next : ℕ) (d : List ℕ) : Type 0 where
  pub opened : file_gate d ≡ 1
  pub number_is : generation d ≡ (number + 1) % 2 ^ 64
  pub spells : Spells d image next
  pub bound : next < 2 ^ 62

-- beside a file that counted, this one is the next: its gate is open, and its generation is the one after
pub record IsNext (counting d : List ℕ) : Type 0 where
  pub opened : file_gate d ≡ 1
  pub number_is : generation d ≡ (generation counting + 1) % 2 ^ 64

-- a file that goes on from `file` while records are written to it: its gate is closed, or its header is as it was, or it is the new one
pub record IsReplacing (file : List ℕ) (number : ℕ) (image : List Record) (next : ℕ) (d : List ℕ) : Type 0 where
  pub long : first_gate ≤ length d
  pub begins : Agree file d 0 8
  pub either : (file_gate d ≢ 1) ⊎ (Agree file d 0 first_gate ⊎ IsReplacement number image next d)

-- its gate is closed, all of it on the disk
pub record IsShut (file : List ℕ) (h : History) : Type 0 where
  pub quiet : IsQuiet h
  pub long : first_gate ≤ length (contents_of h)
  pub begins : Agree file (contents_of h) 0 8
  pub shut : file_gate (contents_of h) ≢ 1

-- and generation and records stand in it
pub record IsStaged (file gen bytes : List ℕ) (h : History) : Type 0 where
  pub shut : IsShut file h
  pub number : slice (contents_of h) 8 8 ≡ gen
  pub there : slice (contents_of h) first_gate (length bytes) ≡ bytes
  pub whole : first_gate + length bytes ≤ length (contents_of h)

-- these bytes are the generation after that number and the records of an image
pub record IsImageOf (number : ℕ) (image : List Record) (next : ℕ) (gen bytes : List ℕ) : Type 0 where
  pub sound : All IsSound image
  pub some : 0 < length image
  pub bytes_are : bytes ≡ gated (bodies image)
  pub number_is : from_be_bytes w64 gen ≡ (number + 1) % 2 ^ 64
  pub place : next ≡ 16 + length bytes
  pub bound : next < 2 ^ 62

-- the file that doesn't count, at rest: no crash changes it, and its generation isn't the next one
pub record IsSpare (number : ℕ) (h : History) : Type 0 where
  pub quiet : IsQuiet h
  pub long : first_gate ≤ length (contents_of h)
  pub stale : file_gate (contents_of h) ≡ 1 → generation (contents_of h) ≢ (number + 1) % 2 ^ 64

-- the journal has these records, and of an image in the other file it isn't known whether it is the list
pub record WaitsReplaced (b : Bool) (counting other : History) (gate : ℕ) (rs : List Record)
    (number : ℕ) (image : List Record) (next : ℕ) : Type 0 where
  pub settled : IsSettled counting rs gate
  pub number_is : generation (contents_of counting) ≡ number
  pub small : number < 2 ^ 64
  pub file : List ℕ
  pub chosen : IsChosen b (contents_of counting) file
  pub images : (d : List ℕ) → IsImage (state_of other) d → IsReplacing file number image next d

-- each image of the file that doesn't count is so, from some file on whose generation isn't the next one
pub record ReplacesFrom (number : ℕ) (image : List Record) (next : ℕ) (h : History) : Type 0 where
  pub file : List ℕ
  pub stale : file_gate file ≡ 1 → generation file ≢ (number + 1) % 2 ^ 64
  pub images : (d : List ℕ) → IsImage (state_of h) d → IsReplacing file number image next d

-- the calls that close the gate of a file: none where it isn't open
abbrev pub closing : List ℕ → List Call
closing file = if file_gate file == 1 then Write 16 (0 ∷ []) ∷ (Sync true ∷ []) else []

-- the calls that write a generation and records to it
abbrev pub staging : ℕ → List ℕ → List Call
staging number bytes = Write 8 (to_be_bytes w64 number) ∷ (Write first_gate bytes ∷ (Sync true ∷ []))

-- the calls of a rotation to this file
abbrev pub rotating : List ℕ → ℕ → List ℕ → List Call
rotating file number bytes = (closing file ++ staging number bytes) ++ (Write 16 (1 ∷ []) ∷ (Sync true ∷ []))
