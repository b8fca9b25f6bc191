pub mod KeptLemmas
pub mod States
pub mod Replayed
pub mod Images
mod LeftLemmas
pub mod MarkLemmas
