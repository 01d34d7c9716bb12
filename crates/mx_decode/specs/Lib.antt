pub mod Reading
pub mod Decode
pub mod Given
pub mod Map
