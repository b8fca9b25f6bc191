pub mod Left
pub mod Texts
pub mod Lines
pub mod Answer
pub mod Parts
