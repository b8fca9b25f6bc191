-- What calls of a journal leave of its disks.
pub use Rattle.commit_journal.proofs.HeldLemmas.{calls_is, goes_further, goes_nowhere, rose_first, rose_last, tell_ab, tell_on, tell_since}
