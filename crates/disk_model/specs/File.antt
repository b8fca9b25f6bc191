-- What a contract sees of a disk on a real file: its faults, and nothing of what it holds.
use Rattle.std.specs.Prelude.{ℕ, []}
use Rattle.disk_model.specs.Disk.{History}

-- how many of its calls have failed
pub record FileView : Type 0 where
  pub faults : ℕ

-- what a file did isn't told
abbrev pub untold : History
untold = record { first = []; calls = [] }
