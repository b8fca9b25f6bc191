pub mod Keys
pub mod Written
pub mod Said
pub mod Faults
pub mod Reading
pub mod Writing
pub mod Checking
pub mod Collecting
