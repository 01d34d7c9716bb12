pub mod Limits
pub mod Refusals
pub mod File
pub mod Written
pub mod Alike
