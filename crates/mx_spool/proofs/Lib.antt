pub mod ConsoleLemmas
pub mod SpoolLemmas
pub mod WrittenLemmas
