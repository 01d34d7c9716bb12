pub mod EndComparing
pub mod Numbers
pub mod Again
pub mod Comparing
pub mod Once
