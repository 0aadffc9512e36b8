pub mod Held
pub mod Outcomes
pub mod Settled
pub mod Reliable
pub mod Struck
pub mod Measured
