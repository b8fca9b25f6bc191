pub mod AppendLemmas
pub mod PairLemmas
pub mod SettleLemmas
pub mod ReadLemmas
pub mod CreateLemmas
pub mod CauseLemmas
pub mod CallLemmas
pub mod SideLemmas
mod FileLemmas
mod StepLemmas
mod OpenLemmas
mod RotateLemmas
pub mod TurnLemmas
mod JournalLemmas
pub mod SpanLemmas
pub mod RisingLemmas
pub mod SafeLemmas
pub mod HeldLemmas
pub mod CalledLemmas
pub mod AnewLemmas
