pub mod Run
pub mod Calls
pub mod Shows
