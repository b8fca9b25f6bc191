pub mod Value
pub mod Change
pub mod Block
pub mod Answer
pub mod Made
