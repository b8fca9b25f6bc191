pub mod LookLemmas
pub mod SetLemmas
pub mod FillLemmas
pub mod BareLemmas
pub mod ChangeLemmas
pub mod MarkLemmas
pub mod LawLemmas
