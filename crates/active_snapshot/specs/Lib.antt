pub mod Views
pub mod States
pub mod Expanded
pub mod Book
pub mod Reads
