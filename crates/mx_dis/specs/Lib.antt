pub mod Parting
pub mod Listing
pub mod Names
