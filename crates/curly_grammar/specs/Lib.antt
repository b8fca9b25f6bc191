pub mod Grammar
pub mod Reading
pub mod Fault
pub mod Unknown
pub mod Answer
pub mod Held
pub mod Parsed
