pub mod TurnLemmas
pub mod CutLemmas
pub mod TakeLemmas
pub mod StepLemmas
pub mod EndLemmas
mod JsonLemmas
pub mod LawLemmas
