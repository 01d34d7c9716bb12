pub mod Alu
pub mod Shifts
pub mod Products
pub mod Extension
pub mod Bits
