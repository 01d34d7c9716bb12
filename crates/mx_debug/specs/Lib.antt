pub mod Points
pub mod Halts
pub mod Finding
pub mod Errors
