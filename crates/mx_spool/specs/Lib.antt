pub mod Spools
pub mod Written
