pub mod Causes
pub mod Command
pub mod Given
pub mod Asked
