pub mod Lasting
mod Operated
mod Exchanged
