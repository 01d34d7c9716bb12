pub mod Numbers
pub mod SlotDoing
pub mod Words
pub mod Report
