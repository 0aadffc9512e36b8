pub mod Clutters
