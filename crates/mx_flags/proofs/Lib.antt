pub mod Bits
pub mod Extended
pub mod Wholes
