pub mod Codes
pub mod Bytes
pub mod Tokens
