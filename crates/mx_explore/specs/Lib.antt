pub mod Offers
pub mod Passing
pub mod Passages
pub mod Outcomes
pub mod Schedules
pub mod Tree
pub mod Histories
pub mod Exploring
