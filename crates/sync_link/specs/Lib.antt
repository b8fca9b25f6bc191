pub mod Pairs
pub mod Sending
pub mod Lines
pub mod Marks
pub mod Views
pub mod Takes
