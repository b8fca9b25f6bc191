-- How the records of a journal are read as what is kept, up to the first one that breaks a rule. This is this project's own.
use Rattle.std.specs.Prelude.{◌≡◌, ◌≢◌, ◌⊎◌, ◌||◌, ℕ, Bool, false, List, [], ◌∷◌, ◌++◌, is_some}
use Rattle.cfg_tree.specs.Statements.{Statements}
use Rattle.record_code.specs.declared.payloads.Placed.{Placed}
use Rattle.record_code.specs.Listed.{record_of, records_of}
use Rattle.record_code.specs.Reading.{first_gate}
use Rattle.record_code.specs.Record.{Record}
use Rattle.commit_ledger.specs.declared.entry.Commit.{Commit}
use Rattle.commit_ledger.specs.declared.entry.Entry.{Entry}
use Rattle.commit_ledger.specs.declared.entry.Entry.TheVariants.{Commit as CommitOf}
use Rattle.commit_ledger.specs.Kept.{Kept, opened, append_entry}
use Rattle.commit_ledger.specs.Checkpoint.{Restores}
use Rattle.commit_ledger.specs.Restoring.{IsBadCheckpoint}
use Rattle.commit_ledger.specs.Rules.{IsRecordOf, Follows, new_after}

-- a list begins with a commit numbered 1 that needs no confirmation
pub record IsFirstCommit (entry : Entry) (commit : Commit) : Type 0 where
  pub is : entry ≡ CommitOf commit
  pub number : commit.number ≡ 1
  pub plain : commit.minutes ≡ 0

-- the first record is of such a commit
pub record Opens (accepted : Statements → Type 0) (r : Record) (kept : Kept) : Type 0 where
  pub entry : Entry
  pub is_record : IsRecordOf accepted false r entry
  pub commit : Commit
  pub first : IsFirstCommit entry commit
  pub is : kept ≡ opened commit

-- records begin a list: the record of a first commit, or a checkpoint
abbrev pub Begins : (Statements → Type 0) → List Record → Kept → Type 0
Begins accepted front kept = ((r : Record) × (front ≡ r ∷ []) × Opens accepted r kept) ⊎ Restores accepted front kept

-- a further record is of an entry that may be the next one; `new` says whether a commit as it is written now has come. A scheduled
-- commit becomes one as it is written now
pub record GoesOn (accepted : Statements → Type 0) (new : Bool) (kept : Kept) (r : Record) (next : Kept) : Type 0 where
  pub entry : Entry
  pub is_record : IsRecordOf accepted (new || is_some kept.scheduled) r entry
  pub follows : Follows kept entry
  pub is : next ≡ append_entry kept entry

-- further records are read after a value
abbrev pub GoesThrough : (Statements → Type 0) → Bool → Kept → List Record → Kept → Type 0
GoesThrough accepted new kept [] last = kept ≡ last
GoesThrough accepted new kept (r ∷ rs) last =
    (next : Kept) × GoesOn accepted new kept r next × GoesThrough accepted (new_after new (r ∷ [])) next rs last

-- the records of a journal are read as this
pub record ReadsAs (accepted : Statements → Type 0) (rs : List Record) (kept : Kept) : Type 0 where
  pub front : List Record
  pub rest : List Record
  pub cut : rs ≡ front ++ rest
  pub first : Kept
  pub begins : Begins accepted front first
  pub reads : GoesThrough accepted (new_after false front) first rest kept

-- the further record at that offset is the first one that isn't read
pub record IsFirstBad (accepted : Statements → Type 0) (new : Bool) (before : Kept) (placed : List Placed) (offset : ℕ) : Type 0 where
  pub good : List Placed
  pub bad : Placed
  pub rest : List Placed
  pub here : Kept
  pub cut : placed ≡ good ++ bad ∷ rest
  pub reads : GoesThrough accepted new before (records_of good) here
  pub broken : (next : Kept) → GoesOn accepted (new_after new (records_of good)) here (record_of bad) next → ⊥
  pub place : offset ≡ bad.offset

-- no list begins with these records: the first of them that breaks a rule is at that offset
abbrev pub BeginsBadly : (Statements → Type 0) → Placed → List Placed → ℕ → Type 0
BeginsBadly accepted p behind offset =
    ((p.kind ≡ 3) × IsBadCheckpoint accepted p behind offset)
    ⊎ ((p.kind ≢ 3) × (offset ≡ p.offset) × ((kept : Kept) → Opens accepted (record_of p) kept → ⊥))

-- a list begins with some of these records, and the others stand after them
pub record IsBegun (accepted : Statements → Type 0) (placed : List Placed) (kept : Kept) (new : Bool) (rest : List Placed) : Type 0 where
  pub front : List Placed
  pub cut : placed ≡ front ++ rest
  pub begins : Begins accepted (records_of front) kept
  pub newness : new ≡ new_after false (records_of front)

-- a list begins with these records, and one after them breaks a rule
pub record IsBadBehind (accepted : Statements → Type 0) (placed : List Placed) (offset : ℕ) : Type 0 where
  pub first : Kept
  pub new : Bool
  pub rest : List Placed
  pub begun : IsBegun accepted placed first new rest
  pub bad : IsFirstBad accepted new first rest offset

-- the records of a journal aren't read: there are none, or one of them breaks a rule
abbrev pub IsUnread : (Statements → Type 0) → List Placed → ℕ → Type 0
IsUnread accepted [] offset = offset ≡ first_gate
IsUnread accepted (p ∷ ps) offset = BeginsBadly accepted p ps offset ⊎ IsBadBehind accepted (p ∷ ps) offset
