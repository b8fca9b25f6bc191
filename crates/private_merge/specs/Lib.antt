pub mod Merge
pub mod Walking
