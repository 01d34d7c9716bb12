pub mod Json
pub mod Shown
pub mod Rows
pub mod Heads
pub mod Strips
