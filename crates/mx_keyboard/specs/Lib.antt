pub mod Keyboard
