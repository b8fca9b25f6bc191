-- What the calls of a journal leave of its disks, as whoever looks for it here finds it.
pub use Rattle.commit_journal.specs.Held.{GoesOn}
