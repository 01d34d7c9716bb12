pub mod GoingLemmas
pub mod KeyboardLemmas
pub mod LivingLemmas
pub mod ScreenLemmas
pub mod SessionLemmas
pub mod WrittenLemmas
