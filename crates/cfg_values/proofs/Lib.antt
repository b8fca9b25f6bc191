pub mod NumberLemmas
pub mod CutLemmas
pub mod DotLemmas
pub mod AddressLemmas
pub mod Address6Lemmas
pub mod ChoiceLemmas
pub mod InterfaceLemmas
pub mod SpellingLemmas
