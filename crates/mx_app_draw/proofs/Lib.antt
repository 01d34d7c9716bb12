mod Joins
mod SeenLemmas
mod DrawnLemmas
pub mod Rows
pub mod Within
pub mod Runs
pub mod Same
pub mod Covered
pub mod Edges
pub mod Paper
