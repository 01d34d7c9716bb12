pub mod One
pub mod Shown
pub mod Assembling
pub mod Around
pub mod Failure
