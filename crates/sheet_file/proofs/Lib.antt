pub mod Fronts
pub mod Refused
pub mod Words
pub mod Heads
pub mod Records
pub mod Reached
