pub mod Verb
pub mod Mover
pub mod When
pub mod Sound
