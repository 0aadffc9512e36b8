pub mod Choices
pub mod Joins
