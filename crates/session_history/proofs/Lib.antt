pub mod EventLemmas
pub mod KeptLemmas
mod AcceptedLemmas
mod OutcomeLemmas
