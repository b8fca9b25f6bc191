pub mod CommandLemmas
pub mod GivenLemmas
pub mod LawLemmas
pub mod ReadingLemmas
pub mod SessionLemmas
