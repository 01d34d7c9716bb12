pub mod PieceLemmas
pub mod FrontLemmas
pub mod DrivingLemmas
pub mod ScriptLemmas
pub mod StepLemmas
pub mod RecordLemmas
pub mod ReplayLemmas
pub mod AcceptedLemmas
pub mod TraceLemmas
mod PartLemmas
