pub mod ValueLemmas
pub mod WalkLemmas
pub mod PassedLemmas
pub mod MergedLemmas
pub mod LawLemmas
