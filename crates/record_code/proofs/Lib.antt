pub mod Slices
pub mod ReadingLemmas
pub mod BodiesLemmas
pub mod EncodedLemmas
