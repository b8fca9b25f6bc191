mod PairLemmas
mod ValueLemmas
mod BackedLemmas
mod StepLemmas
mod TakeLemmas
pub mod LineLemmas
