pub mod Running
pub mod Halting
pub mod Marking
