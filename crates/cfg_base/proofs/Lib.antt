pub mod FlatLemmas
pub mod OrderLemmas
pub mod StepLemmas
pub mod WordLemmas
