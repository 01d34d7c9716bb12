pub mod FoundText
pub mod Exploring
