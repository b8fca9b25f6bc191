-- Two disks, as what is told of them. This project's own.
use Rattle.std.specs.Prelude.{◌≤◌, ◌⊎◌, IsTrue}
use Rattle.cfg_base.specs.Counts.{Rose}
use Rattle.disk_model.specs.Disk.{DiskView}

-- what is told of two disks
pub record DiskPair : Type 0 where
  pub a : DiskView
  pub b : DiskView

abbrev pub pair_of : {D : Type 0} → (D → DiskView) → D → D → DiskPair
pair_of view a b = record { a = view a; b = view b }

-- both disks tell what they hold
abbrev pub BothTell : DiskPair → Type 0
BothTell disks = IsTrue disks.a.tells × IsTrue disks.b.tells

-- the count of faults of one of two disks rose
abbrev pub FaultOnEither : DiskPair → DiskPair → Type 0
FaultOnEither before now = Rose before.a.faults now.a.faults ⊎ Rose before.b.faults now.b.faults

-- no count of faults of two disks fell
abbrev pub NoneFell : DiskPair → DiskPair → Type 0
NoneFell before now = (before.a.faults ≤ now.a.faults) × (before.b.faults ≤ now.b.faults)
