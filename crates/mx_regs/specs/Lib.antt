pub mod RegisterValues
pub mod Regs
