pub mod PacketLemmas
pub mod HeardLemmas
pub mod ReplyLemmas
pub mod Lists
mod Features
