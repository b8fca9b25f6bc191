-- How a database ends, and what is handed back.
use Rattle.std.specs.Prelude.{◌≡◌, ◌⊎◌, Bool, true, List, [], Some, is_some}
use Rattle.disk_model.specs.Pair.{BothTell, DiskPair, FaultOnEither}
use Rattle.commit_journal.specs.Journal.{disks_of}
use Rattle.session_history.specs.declared.history.Happened.{Happened}
use Rattle.session_history.specs.declared.history.History.{History}
use Rattle.session_history.specs.Events.{Leads, StaysAccepted}
use Rattle.stored_ledger.specs.Stored.{HoldsKept}
use Rattle.config_db.specs.View.{DatabaseView, opened}
use Rattle.config_db.specs.Added.{AddsSome}
use Rattle.config_db.specs.Numbers.{AreRising, calls_of, none_called}
use Rattle.config_db.specs.Crash.{IsCrashSafe}
use Rattle.config_db.specs.Moves.{Extends}
use Rattle.config_db.specs.Answers.{IsOneSettling}
use Rattle.config_db.specs.Writing.{entry_in}

-- what is in flight was settled, by nobody, at the greatest moment; or there was nothing, or a disk failed
pub record SettlesLast (fault : Bool) (v v' : DatabaseView) : Type 0 where
  pub own : List Happened
  pub closing : (own ≡ []) ⊎ IsOneSettling own
  pub extends : Extends 0 v.state.greatest own v v'
  -- whether an entry is in flight still, which is so only where a disk's count of faults rose, and nothing was settled
  pub fault_is : fault ≡ is_some v'.state.flight
  pub cause : fault ≡ true → (own ≡ []) × FaultOnEither (disks_of v.journal) (disks_of v'.journal)

-- a database as it is handed back
pub record IsHandedBack (v : DatabaseView) (happened : History) (disks : DiskPair) : Type 0 where
  pub opening : happened.opening ≡ Some v.opening
  pub users : happened.users ≡ v.users
  pub events : happened.events.items ≡ v.events
  pub made : happened.made ≡ calls_of v.journal
  pub legal : Leads (opened v) v.events v.state
  -- the list is that of the opening with the entries that the events added
  pub added : AddsSome (opened v) v.events v.state
  pub rising : AreRising none_called v.events (calls_of v.journal)
  pub accepted : StaysAccepted (opened v) v.events
  pub disks_are : disks ≡ disks_of v.journal
  -- a crash at any moment since the opening leaves what the state of that moment says
  pub crash_safe : BothTell disks → IsCrashSafe (opened v) v.events happened.made disks.a.history disks.b.history
  pub held : BothTell disks → HoldsKept disks.a.history disks.b.history v.state.kept (entry_in v.state.flight)

-- a database that ended: what happened in it, whether an entry is in flight, and its disks
pub record IsClosed (v : DatabaseView) (happened : History) (fault : Bool) (disks : DiskPair) : Type 0 where
  pub last : DatabaseView
  pub settles : SettlesLast fault v last
  pub handed : IsHandedBack last happened disks
