pub mod Standings
pub mod Causes
pub mod Refusals
pub mod Sheets
pub mod Answers
pub mod Settled
pub mod Tries
