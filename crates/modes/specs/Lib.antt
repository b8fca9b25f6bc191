pub mod Texts
pub mod Generated
pub mod Modes
