pub mod Parting
pub mod Spelled
pub mod Digits
pub mod Feeds
