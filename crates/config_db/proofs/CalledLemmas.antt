-- Calls that the disks of a journal made, and the numbers that are reported of them.
pub use Rattle.commit_journal.proofs.CalledLemmas.{agrees_a, agrees_b, called_none, called_then, history_first, history_second}
