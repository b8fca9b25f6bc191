pub mod PlaceLemmas
pub mod RunLemmas
pub mod FrontLemmas
pub mod LexLemmas
pub mod LexerLemmas
pub mod WordLemmas
