pub mod OrderLemmas
pub mod RowLemmas
pub mod PlaceLemmas
pub mod BlockLemmas
pub mod SpliceLemmas
pub mod ChangeLemmas
pub mod PageLemmas
pub mod BelowLemmas
pub mod CutLemmas
mod MakerLemmas
pub mod SharingLemmas
