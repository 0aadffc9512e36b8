pub mod Walks
pub mod Groups
pub mod Sums
pub mod Passes
