pub mod Order
pub mod Chances
pub mod Scaling
pub mod Filling
pub mod Descent
