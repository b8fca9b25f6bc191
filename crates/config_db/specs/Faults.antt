-- How many events end with a fault: never more than the disks' counts of faults rose by. This project's own.
use Rattle.std.specs.Prelude.{ℕ, ◌≤◌, ◌+◌, ◌-◌, ◌^◌, ◌⊎◌, ◌&&◌, Bool, true, false, not, List, count_by}
use Rattle.disk_model.specs.Pair.{DiskPair}
use Rattle.config_core.specs.declared.event.Outcome.{Outcome}
use Rattle.config_core.specs.declared.event.Outcome.TheVariants.{Done, Fault}
use Rattle.session_history.specs.declared.history.Happened.{Happened}
use Rattle.session_history.specs.Events.{is_command}

abbrev pub is_fault : Outcome → Bool
is_fault Done = false
is_fault Fault = true

-- a command that ended with a fault
abbrev pub is_failed_command : Happened → Bool
is_failed_command event = is_fault event.outcome && is_command event.event

-- a settling or a revert that did
abbrev pub is_failed_other : Happened → Bool
is_failed_other event = is_fault event.outcome && not (is_command event.event)

-- the counts of faults of two disks rose by so many together, or a count stands at its last value
abbrev pub RoseBy : ℕ → DiskPair → DiskPair → Type 0
RoseBy many before now =
    (2 ^ 64 - 1 ≤ now.a.faults)
    ⊎ ((2 ^ 64 - 1 ≤ now.b.faults) ⊎ (many + before.a.faults + before.b.faults ≤ now.a.faults + now.b.faults))

-- the commands that ended with a fault are at most as many as the two disks' counts of faults rose by, and so are the other
-- events
pub record FaultsAreCounted (events : List Happened) (before now : DiskPair) : Type 0 where
  pub commands : RoseBy (count_by is_failed_command events) before now
  pub others : RoseBy (count_by is_failed_other events) before now
