pub mod OrderBackLemmas
pub mod FillLemmas
pub mod LexedLemmas
pub mod PrintableLemmas
pub mod LayoutLemmas
pub mod WrittenLemmas
pub mod LaidLemmas
