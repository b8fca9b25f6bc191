mod AddingLemmas
pub mod PrefixLemmas
mod PublishLemmas
mod ReadLemmas
pub mod SendLemmas
mod ViewLemmas
