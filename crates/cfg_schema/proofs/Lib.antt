pub mod RowFacts
pub mod TestLemmas
pub mod ChildLemmas
pub mod PlaceLemmas
pub mod LevelLemmas
pub mod BegunLemmas
pub mod SearchLemmas
pub mod WordsLemmas
