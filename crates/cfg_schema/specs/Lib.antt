pub mod Keyword
pub mod Profile
pub mod Child
pub mod Place
pub mod Facts
pub mod Query
