pub mod Number
pub mod Cut
pub mod Address
pub mod Address6
pub mod Interface
pub mod Choice
pub mod Pattern
pub mod Spelling
