mod Comments
pub mod Services
pub mod Taking
mod EventKindWords
mod ReadSoFar
mod WrittenWords
mod WrittenNumbers
mod Ended
mod Faults
mod ReadAgain
mod OneHistory
mod Fronts
pub mod Held
pub mod Unended
