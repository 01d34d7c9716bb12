pub mod WorldLemmas
pub mod SeatLemmas
pub mod BootLemmas
pub mod LoopLemmas
pub mod OutsiderLemmas
pub mod DrivingLemmas
