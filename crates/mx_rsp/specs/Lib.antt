pub mod Damage
pub mod Fields
pub mod Hearing
pub mod Moves
pub mod Packets
pub mod Replies
pub mod Requests
pub mod Words
