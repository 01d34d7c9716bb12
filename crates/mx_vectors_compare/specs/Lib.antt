pub mod Ends
pub mod CaseFailure
pub mod Line
pub mod Failure
pub mod Agreement
