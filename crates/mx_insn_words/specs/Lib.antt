pub mod Named
pub mod Instructions
pub mod Words
pub mod Registers
pub mod Numbers
pub mod Operands
pub mod Statement
pub mod Listed
