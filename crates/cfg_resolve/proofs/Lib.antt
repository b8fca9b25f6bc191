mod SpelledLemmas
mod ReadsLemmas
pub mod TargetLemmas
pub mod UniqueLemmas
pub mod OwnLemmas
