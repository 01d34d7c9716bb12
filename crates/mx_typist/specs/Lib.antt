pub mod Keys
pub mod Protocol
pub mod Typing
