pub mod PieceLemmas
pub mod TurnedLemmas
pub mod BlockLemmas
pub mod ReadyLemmas
pub mod SweptLemmas
