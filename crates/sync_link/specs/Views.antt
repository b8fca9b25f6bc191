-- What a contract sees of a backup, and how a call of its list changes it. This project's own.
use Rattle.std.specs.Prelude.{◌≡◌, ◌≤◌, ℕ, Bool, true, false, List, [], ◌∷◌, ◌++◌, Option, None, Some, IfSome}
use Rattle.std.specs.List.{AllByRecursion}
use Rattle.disk_model.specs.Pair.{DiskPair}
use Rattle.disk_model.specs.declared.disk.DiskDone.{DiskDone}
use Rattle.disk_model.specs.declared.disk.DiskDone.TheVariants.{Done, Failed}
use Rattle.commit_journal.specs.Held.{calls_of}
use Rattle.commit_journal.specs.Journal.{JournalView}
use Rattle.commit_journal.specs.Opening.{IsOpened}
use Rattle.commit_journal.specs.Spans.{AreRising, last_calls, none_called}
use Rattle.commit_ledger.specs.Kept.{Kept, HasOneWaiting, NumberFits, RoomFor, append_entry, target_for}
use Rattle.commit_ledger.specs.Ready.{ReadyView}
use Rattle.stored_ledger.specs.declared.change.Change.{Change}
use Rattle.stored_ledger.specs.declared.change.Change.TheVariants.{Entry as EntryMore, Whole as WholeList}
use Rattle.stored_ledger.specs.Growing.{MakesList}
use Rattle.stored_ledger.specs.Standing.{Stands, StandsBetween}
use Rattle.sync_link.specs.declared.flight.Flight.{Flight}
use Rattle.sync_link.specs.declared.flight.Flight.TheVariants.{Entry as EntryIn, Whole as WholeIn}
use Rattle.sync_link.specs.declared.mark.Mark.{Mark}
use Rattle.sync_link.specs.Lines.{Line, MayHave}
use Rattle.sync_link.specs.Marks.{CountsUp, IsSafe, calls_in, last_count, mark_of}

-- another list that a change was to make of the one that is kept
pub record Making : Type 0 where
  pub change : Change
  pub list : Kept

-- what is in flight was to make this of a list
abbrev pub making_of : Kept → Flight → Making
making_of kept (EntryIn ready) = record { change = EntryMore; list = append_entry kept ready.entry }
making_of kept (WholeIn whole) = record { change = WholeList; list = whole }

abbrev pub flight_of : Kept → Option Flight → Option Making
flight_of kept None = None
flight_of kept (Some flight) = Some (making_of kept flight)

-- an entry was made ready for a list, which can take it in
pub record CanAccept (kept : Kept) (ready : ReadyView) : Type 0 where
  pub room : RoomFor kept ready.entry
  pub number : NumberFits kept ready.entry
  pub target : ready.target ≡ target_for kept ready.entry
  pub one : HasOneWaiting (append_entry kept ready.entry)

-- an entry in flight was made ready for this list
abbrev pub CanLand : Kept → Option Flight → Type 0
CanLand kept None = Unit {0}
CanLand kept (Some (EntryIn ready)) = CanAccept kept ready
CanLand kept (Some (WholeIn whole)) = Unit {0}

-- the list behind a call that was to make another of it, by what is known
abbrev pub kept_by : Option Bool → Kept → Kept → Kept
kept_by None kept other = kept
kept_by (Some true) kept other = other
kept_by (Some false) kept other = kept

-- what is in flight behind it
abbrev pub flight_by : Option Bool → Option Making → Option Making
flight_by None flight = flight
flight_by (Some is_made) flight = None

-- the list behind what was in flight
abbrev pub landed_in : Option Bool → Kept → Option Making → Kept
landed_in answer kept None = kept
landed_in answer kept (Some making) = kept_by answer kept making.list

-- a backup: the journal of its list, what is kept of that, the list that is in flight, its marks and the room for them, and how many
-- events the master's history has, as it was last told
pub record BackupView : Type 0 where
  pub files : JournalView
  pub kept : Kept
  pub flight : Option Making
  pub marks : List Mark
  pub room : ℕ
  pub events : ℕ

-- the journal holds the list, or what is in flight is a list with no fewer entries and it holds either
abbrev pub HoldsIn : JournalView → Kept → Option Making → Type 0
HoldsIn files kept None = Stands files kept
HoldsIn files kept (Some making) = (kept.count ≤ making.list.count) × StandsBetween making.change files kept making.list

-- what is always true of a backup
pub record IsBackup (v : BackupView) : Type 0 where
  pub has : HoldsIn v.files v.kept v.flight
  pub rising : AreRising calls_in none_called v.marks (calls_of v.files)
  -- the last mark is this very moment
  pub at_rest : last_calls calls_in none_called v.marks ≡ calls_of v.files

-- a backup that was just started on two disks: nothing is in flight, and nothing happened yet
pub record IsBegun (disks : DiskPair) (limit : ℕ) (v : BackupView) : Type 0 where
  pub opened : IsOpened disks.a disks.b limit v.files
  pub stands : Stands v.files v.kept
  pub idle : v.flight ≡ None
  pub no_marks : v.marks ≡ []
  pub no_events : v.events ≡ 0

-- one call of a backup's list, which was to make another one of it: what it has then, and the mark of the call
pub record Moves (change : Change) (answer : Option Bool) (other : Kept) (v v' : BackupView) : Type 0 where
  pub kept_is : v'.kept ≡ kept_by answer v.kept other
  pub flight_is : v'.flight ≡ flight_by answer (Some (record { change = change; list = other }))
  pub no_fewer : v.kept.count ≤ other.count
  pub marked : v'.marks ≡ v.marks ++ mark_of v.events (calls_of v'.files) v'.kept.count ∷ []
  pub events_are : v'.events ≡ v.events
  pub room_is : v'.room ≡ v.room
  -- a crash at any moment of it leaves one of the two lists
  pub makes : MakesList change answer v.kept other v.files v'.files
  -- the last mark was the moment before the call
  pub at_rest : last_calls calls_in none_called v.marks ≡ calls_of v.files
  pub rising : AreRising calls_in none_called v.marks (calls_of v.files)

-- a call that made another list in one way or the other
pub record Moved (answer : Option Bool) (other : Kept) (v v' : BackupView) : Type 0 where
  pub change : Change
  pub moves : Moves change answer other v v'

-- whether it was found out which list the disks have
abbrev pub done_of : Option Bool → DiskDone
done_of None = Failed
done_of (Some is_made) = Done

-- what was in flight was to be found out, if something was
abbrev pub SettlesIn : Option Making → DiskDone → BackupView → BackupView → Type 0
SettlesIn None done v v' = (v' ≡ v) × (done ≡ Done)
SettlesIn (Some making) done v v' = (answer : Option Bool) × (done ≡ done_of answer) × Moves making.change answer making.list v v'

-- what the backup has, and has in flight, is the master's, and so is what a crash at any moment so far leaves
pub record IsBacked (line : Line) (v : BackupView) : Type 0 where
  pub value : MayHave line line.entries v.kept
  pub flight : IfSome v.flight (λ making. MayHave line line.entries making.list)
  pub counted : last_count line.own.count v.marks ≡ v.kept.count
  pub rises : CountsUp line.own.count v.marks v.kept.count
  -- no mark is of a later event than the last one that was told
  pub said : AllByRecursion (λ mark. mark.events ≤ v.events) v.marks
  pub safe : IsSafe line v.marks v.files
