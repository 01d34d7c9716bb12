pub mod Answering
pub mod Telling
mod Showing
mod Placing
mod WayListing
