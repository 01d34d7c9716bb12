pub mod Files
pub mod Parts
pub mod Tables
pub mod Words
pub mod Mistakes
