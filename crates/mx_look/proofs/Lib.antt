pub mod Rows
pub mod Filled
pub mod TraceRows
pub mod Unserved
pub mod Used
