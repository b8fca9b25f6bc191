pub mod Stored
pub mod Starting
pub mod Whys
pub mod Writable
pub mod Standing
pub mod Appending
pub mod Growing
