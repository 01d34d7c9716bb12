mod WordLemmas
mod Printed
mod Spaced
mod Reserved
mod Passing
mod Masks
mod Folders
mod Slots
