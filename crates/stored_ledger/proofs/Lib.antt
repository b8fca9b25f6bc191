mod SoundLemmas
mod StoredLemmas
mod CauseLemmas
mod HeldLemmas
pub mod StandingLemmas
mod GrowingLemmas
mod RangeLemmas
