pub mod Lines
pub mod Reported
