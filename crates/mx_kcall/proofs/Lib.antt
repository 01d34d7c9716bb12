pub mod FrameLemmas
pub mod AlarmLemmas
