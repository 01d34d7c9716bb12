pub mod Living
pub mod Session
