pub mod Told
pub mod Shares
