pub mod Changes
pub mod Differences
pub mod Roots
pub mod Part
pub mod Splice
