pub mod ClassLemmas
pub mod MatchLemmas
pub mod ItemLemmas
pub mod TailLemmas
pub mod ScanLemmas
pub mod CutLemmas
pub mod TestLemmas
