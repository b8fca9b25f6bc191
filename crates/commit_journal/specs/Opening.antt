-- What a journal that was just made or opened is, and what its disks did meanwhile. A and B are as 1 and 2 in the call.
use Rattle.std.specs.Prelude.{◌≡◌, ◌≤◌, ◌⊎◌, true, IsTrue, ℕ, List, [], ◌∷◌, ◌++◌}
use Rattle.disk_model.specs.Disk.{DiskView, Call, Write, Sync, Called, DiskGoesOn, MaySync, MadePart, contents_of}
use Rattle.record_code.specs.declared.payloads.Placed.{Placed}
use Rattle.record_code.specs.Record.{Record, bodies, gated}
use Rattle.record_code.specs.Reading.{first_gate}
use Rattle.commit_journal.specs.declared.why.CreateWhy.{CreateWhy}
use Rattle.commit_journal.specs.declared.why.CreateWhy.TheVariants.{Exists, DiskFault as CreateDiskFault, NoMemory as CreateNoMemory}
use Rattle.commit_journal.specs.declared.why.AttachWhy.{AttachWhy}
use Rattle.commit_journal.specs.declared.why.AttachWhy.TheVariants.{DiskFault}
use Rattle.commit_journal.specs.Pair.{head_a, head_b, Only, PairSpells}
use Rattle.commit_journal.specs.Journal.{JournalView, PairCause, Has, IsIdle, a_of, b_of, disk_a, disk_b}
use Rattle.commit_journal.specs.Attach.{ExplainsPair, IsFree, IsOwed, IsThere}
use Rattle.record_code.specs.Listed.{records_of, PlacedFrom}

-- a journal on these two disks that has made no call yet
pub record IsOpened (a b : DiskView) (limit : ℕ) (v : JournalView) : Type 0 where
  -- nothing is in flight
  pub idle : IsIdle v
  -- it has the limit that was given
  pub limit_is : v.limit ≡ limit
  -- its counts of calls begin at 0
  pub no_calls : (v.counting_calls ≡ 0) × (v.other_calls ≡ 0)
  -- its disks tell what they hold where those did
  pub tells_a : (disk_a v).tells ≡ a.tells
  pub tells_b : (disk_b v).tells ≡ b.tells
  -- no count of faults fell
  pub later_a : a.faults ≤ (disk_a v).faults
  pub later_b : b.faults ≤ (disk_b v).faults

-- the calls that make B: its header
abbrev pub making_b : List Call
making_b = Write 0 head_b ∷ (Sync true ∷ [])

-- the calls that write a file with its file gate closed, and open that gate once the file is kept
abbrev pub making : List ℕ → List Call
making file = Write 0 file ∷ (Sync true ∷ (Write 16 (1 ∷ []) ∷ (Sync true ∷ [])))

-- the calls that make A: its header and its first record after an open gate
abbrev pub making_a : List Record → List Call
making_a first = making (head_a ++ gated (bodies first))

-- the journal that was made of one record; each fact is of disks that tell
pub record IsCreated (a b : DiskView) (first : List Record) (v : JournalView) : Type 0 where
  -- no journal was there
  pub none_there : IsTrue a.tells → IsTrue b.tells → IsThere (contents_of a.history) (contents_of b.history) → ⊥
  -- it has that record
  pub has : IsTrue a.tells → IsTrue b.tells → (r : Record) → first ≡ r ∷ [] → Has v (r ∷ [])
  -- each pair of images spells the list of that record, and no other
  pub only : IsTrue a.tells → IsTrue b.tells → (r : Record) → first ≡ r ∷ [] → Only (a_of v) (b_of v) (r ∷ [])
  -- what was written where, and in which order
  pub made_a : IsTrue a.tells → DiskGoesOn a.history (making_a first) (a_of v)
  pub made_b : IsTrue b.tells → DiskGoesOn b.history making_b (b_of v)

-- the disks of a journal that couldn't be made, and why not
pub record IsNotCreated (a b : DiskView) (first : List Record) (why : CreateWhy) (a' b' : DiskView) : Type 0 where
  -- it is refused as there only where it is there
  pub exists : IsTrue a.tells → IsTrue b.tells → why ≡ Exists → IsThere (contents_of a.history) (contents_of b.history)
  -- a journal that is there is never written
  pub spared : IsTrue a.tells → IsTrue b.tells → IsThere (contents_of a.history) (contents_of b.history) → (a'.history ≡ a.history) × (b'.history ≡ b.history)
  -- only a fault may leave a disk with some of the calls that make it
  pub unchanged : (why ≡ Exists) ⊎ (why ≡ CreateNoMemory) → (a'.history ≡ a.history) × (b'.history ≡ b.history)
  pub part_a : IsTrue a.tells → MadePart a.history (making_a first) a'.history
  pub part_b : IsTrue b.tells → MadePart b.history making_b b'.history
  -- A is written only once B is made
  pub b_first : IsTrue b.tells → (a'.history ≡ a.history) ⊎ DiskGoesOn b.history making_b b'.history
  pub tells_a : a'.tells ≡ a.tells
  pub tells_b : b'.tells ≡ b.tells
  -- a disk's fault comes only where its count rose
  pub cause : PairCause a.faults a'.faults b.faults b'.faults (why ≡ CreateDiskFault)

-- the journal that two files held; each fact is of disks that tell
pub record IsAttached (a b : DiskView) (placed : List Placed) (v : JournalView) : Type 0 where
  -- no cause to refuse the files holds
  pub free : IsTrue a.tells → IsTrue b.tells → IsFree (contents_of a.history) (contents_of b.history)
  -- the records are those that the files spell
  pub spelled : IsTrue a.tells → IsTrue b.tells → PairSpells (contents_of a.history) (contents_of b.history) (records_of placed)
  -- the journal has them
  pub has : IsTrue a.tells → IsTrue b.tells → Has v (records_of placed)
  -- each pair of images spells them, and no other list
  pub only : IsTrue a.tells → IsTrue b.tells → Only (a_of v) (b_of v) (records_of placed)
  -- one sync of each disk, and no write
  pub synced_a : IsTrue a.tells → Called a.history (Sync true) (a_of v)
  pub synced_b : IsTrue b.tells → Called b.history (Sync true) (b_of v)
  pub contents : IsTrue a.tells → IsTrue b.tells → (contents_of (a_of v) ≡ contents_of a.history) × (contents_of (b_of v) ≡ contents_of b.history)
  -- each record has the place of its gate, also where a disk doesn't tell
  pub places : PlacedFrom first_gate placed v.gate

-- the disks of two files that couldn't be opened, and why not
pub record IsNotAttached (a b : DiskView) (why : AttachWhy) (a' b' : DiskView) : Type 0 where
  -- the bytes have the cause that is reported
  pub explained : IsTrue a.tells → IsTrue b.tells → ExplainsPair (contents_of a.history) (contents_of b.history) why
  -- where a cause holds, a refusal by the bytes is the one of that cause
  pub owed : IsTrue a.tells → IsTrue b.tells → IsOwed (contents_of a.history) (contents_of b.history) why
  -- one sync of each disk at most, and no write
  pub synced_a : IsTrue a.tells → MaySync a.history a'.history
  pub synced_b : IsTrue b.tells → MaySync b.history b'.history
  pub contents : IsTrue a.tells → IsTrue b.tells → (contents_of a'.history ≡ contents_of a.history) × (contents_of b'.history ≡ contents_of b.history)
  pub tells_a : a'.tells ≡ a.tells
  pub tells_b : b'.tells ≡ b.tells
  -- a disk's fault comes only where its count rose
  pub cause : PairCause a.faults a'.faults b.faults b'.faults (why ≡ DiskFault)
