mod Naming
mod Partings
pub mod Listings
