pub mod TokenLemmas
pub mod RowLemmas
pub mod TypedLemmas
pub mod LoadedLemmas
pub mod LineLemmas
