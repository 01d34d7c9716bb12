pub mod Fields
pub mod NumberFields
pub mod Errors
pub mod Bytes
pub mod Numbers
pub mod Names
pub mod Lines
