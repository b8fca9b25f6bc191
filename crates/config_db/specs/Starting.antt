-- How a database begins on two disks.
use Rattle.std.specs.Prelude.{◌≡◌, ℕ, List, [], length, max, replicate}
use Rattle.disk_model.specs.Pair.{DiskPair}
use Rattle.commit_journal.specs.Opening.{IsOpened}
use Rattle.config_core.specs.State.{opening_of}
use Rattle.active_snapshot.specs.States.{first_read, first_written}
use Rattle.config_db.specs.View.{DatabaseView}

-- a database that was just begun on these two disks, for these users: nothing happened in it
pub record IsBegun (disks : DiskPair) (users : List (List ℕ)) (limit : ℕ) (v : DatabaseView) : Type 0 where
  -- they are the users of callers 1, 2 and so on
  pub users_are : v.users ≡ users
  pub no_events : v.events ≡ []
  -- its state is that in which the service starts over the list
  pub starts : v.state ≡ opening_of v.opening users
  -- no call was counted yet, the limit is the one that was given, the disks tell where they did, and no count of faults fell
  pub opened : IsOpened disks.a disks.b limit v.journal
  -- the view of the list is kept and published; there is a reader of it for each user, and one where there is no user
  pub shown : v.shown ≡ first_written v.opening
  pub readers : v.readers ≡ replicate (max 1 (length users)) (first_read v.opening)
