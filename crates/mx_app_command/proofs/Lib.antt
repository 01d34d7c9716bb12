pub mod Asked
mod Given
mod AskedWords
mod Tables
mod Digits
mod NumberText
