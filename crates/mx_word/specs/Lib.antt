pub mod Bits
pub mod Word
pub mod Names
