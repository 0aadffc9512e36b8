pub mod Brackets
pub mod Readings
pub mod Screens
pub mod Words
