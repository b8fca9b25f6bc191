mod AllLemmas
mod SafeLemmas
pub mod DiskLemmas
mod StandingLemmas
mod WritingLemmas
mod MachineLemmas
mod ShownLemmas
mod BookLemmas
pub mod AddedLemmas
mod HeldLemmas
mod EventLemmas
pub mod FaultLemmas
mod MoveLemmas
mod AnswerLemmas
mod NextLemmas
pub mod CalledLemmas
mod ClosingLemmas
