pub mod SetupLemmas
pub mod BootLemmas
pub mod Appended
