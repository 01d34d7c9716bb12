pub mod Flags
pub mod Last
