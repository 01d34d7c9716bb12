mod Spelled
mod Closing
mod Parting
mod Sorted
mod Valuing
pub mod Widths
mod Slices
mod Unique
mod Total
pub mod LineWidths
pub mod Beginnings
