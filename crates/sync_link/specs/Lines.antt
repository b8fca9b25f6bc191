-- A master's list in one run, and what its backup may have of it. This project's own.
use Rattle.std.specs.Prelude.{◌≡◌, ◌≤◌, ◌<◌, ◌⊎◌, ℕ, List, [], ◌∷◌, ◌++◌, length, take}
use Rattle.commit_ledger.specs.declared.entry.Entry.{Entry}
use Rattle.commit_ledger.specs.Checkpoint.{AreAlike}
use Rattle.commit_ledger.specs.Kept.{Kept, append_entry, after_entries}
use Rattle.stored_ledger.specs.Stored.{IsNext}
use Rattle.stored_ledger.specs.Standing.{CanKeep}

-- each of these entries may be the next one behind those before it
abbrev pub AllFollow : Kept → List Entry → Type 0
AllFollow kept [] = Unit {0}
AllFollow kept (entry ∷ entries) = IsNext kept entry × AllFollow (append_entry kept entry) entries

-- a master's list in one run, and its backup: what the list was at the opening, the entries since, those after so many events, and
-- what the backup had when it started
pub record Line : Type 0 where
  pub first : Kept
  pub entries : List Entry
  pub by : ℕ → List Entry
  pub own : Kept

-- a front of these entries leaves the value
pub record IsLeft (first : Kept) (entries : List Entry) (kept : Kept) : Type 0 where
  pub front : List Entry
  pub rest : List Entry
  pub cut : entries ≡ front ++ rest
  pub is : kept ≡ after_entries first front

-- or one that is alike: equal in all but the last moment
pub record IsLike (first : Kept) (entries : List Entry) (kept : Kept) : Type 0 where
  pub value : Kept
  pub left : IsLeft first entries value
  pub alike : AreAlike kept value

-- the backup may have this once the master's list went on by these entries: a front of that list, or what it had when it started,
-- where that is a shorter list than the master's was
abbrev pub MayHave : Line → List Entry → Kept → Type 0
MayHave line entries kept = ((kept ≡ line.own) × (line.own.count < line.first.count)) ⊎ IsLike line.first entries kept

-- the master's list keeps its rules: it began as one that a journal can hold, and each entry could be the next one
pub record IsLine (line : Line) : Type 0 where
  pub keeps : CanKeep line.first
  pub follow : AllFollow line.first line.entries

-- after so many events the list had gone on by all its entries
abbrev pub IsNow : Line → ℕ → Type 0
IsNow line events = line.by events ≡ line.entries

-- a line goes on: the master's list got more entries, and how it was after so many events is as it was
pub record LineGoesOn (events : ℕ) (line line' : Line) : Type 0 where
  pub first : line'.first ≡ line.first
  pub own : line'.own ≡ line.own
  pub more : List Entry
  pub entries : line'.entries ≡ line.entries ++ more
  pub by : (n : ℕ) → n ≤ events → line'.by n ≡ line.by n

-- for each number of a run's events the line has a front of its entries that leaves what was kept behind so many of them
pub record IsFrontAt {E : Type 0} (Leads : List E → Kept → Type 0) (events : List E) (line : Line) (n : ℕ) : Type 0 where
  pub rest : List Entry
  pub cut : line.entries ≡ line.by n ++ rest
  pub leads : Leads (take n events) (after_entries line.first (line.by n))

abbrev pub IsLineOf : {E : Type 0} → (List E → Kept → Type 0) → List E → Line → Type 0
IsLineOf Leads events line = (n : ℕ) → IsFrontAt Leads events line n

-- the line behind one more event, which added these entries
pub record IsLineBehind {E : Type 0} (Leads : List E → Kept → Type 0) (events : List E) (event : E) (added : List Entry) (line line' : Line) : Type 0 where
  pub is : IsLineOf Leads (events ++ event ∷ []) line'
  pub entries : line'.entries ≡ line.entries ++ added
  pub on : LineGoesOn (length events) line line'
