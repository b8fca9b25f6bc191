-- Sessions that were served over a database, which was closed after them. This project's own.
use Rattle.std.specs.Prelude.{◌≡◌, ℕ, Bool, true, false, List}
use Rattle.config_db.specs.Closing.{IsClosed}
use Rattle.config_db.specs.View.{DatabaseView}
use Rattle.modes.specs.declared.did.StartWhy0.TheVariants.{None as NoWhy}
use Rattle.session_threads.specs.Served.{AreServed}
use Rattle.service.specs.World.{Told, Views, World}

-- the status of a run whose sessions came to one, by whether an entry is in flight at its end
abbrev pub status_over : Bool → ℕ → ℕ
status_over true status = 4
status_over false status = status

-- all sessions were served over a database, with rights asked of each command or not, and it was closed
pub record IsServedOver {E T D : Type 0} (see : Views E T D) (limit : ℕ) (access : Bool) (ends : List E) (ticker : T)
    (first : DatabaseView) (after : World E T D) (told : Told) : Type 0 where
  pub v : DatabaseView
  pub status : ℕ
  pub fault : Bool
  pub served : AreServed see.end limit access first ends (see.ticker ticker) (record {
    ends = after.ends;
    ticker = see.ticker after.ticker;
    turns = told.turns;
    database = v;
    status = status;
  })
  pub closes : IsClosed v told.history fault (see.disks after.a after.b)
  pub status_is : told.status ≡ status_over fault status
  pub why : told.why ≡ NoWhy
