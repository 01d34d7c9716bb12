pub mod Ended
pub mod Joining
pub mod RunLemmas
