pub mod Bytes
pub mod Lexeme
pub mod Tokens
pub mod Lexed
pub mod Front
pub mod Mark
pub mod Printed
