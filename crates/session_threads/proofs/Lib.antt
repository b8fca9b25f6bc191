mod AskedLemmas
mod AskingLemmas
mod CountLemmas
mod FoundLemmas
mod GateLemmas
pub mod LaterLemmas
pub mod ListLemmas
pub mod LogLemmas
mod NotedLemmas
mod PassLemmas
mod RowLemmas
mod SeatLemmas
mod SendLemmas
pub mod SyncLemmas
mod TickLemmas
mod TraceLemmas
mod WholeLemmas
mod WholeShowLemmas
