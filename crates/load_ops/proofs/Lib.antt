pub mod OrderLemmas
pub mod DifferLemmas
pub mod BlockedLemmas
pub mod TextLemmas
pub mod LeftLemmas
pub mod LeftTreeLemmas
pub mod LineLemmas
pub mod OnceLemmas
