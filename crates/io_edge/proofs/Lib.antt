pub mod EndLemmas
pub mod WroteLemmas
pub mod RoseLemmas
mod PlaceLemmas
pub mod LineLemmas
mod ReaderLemmas
pub mod UniqueLemmas
