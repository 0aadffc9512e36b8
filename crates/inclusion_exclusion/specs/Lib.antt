pub mod States
pub mod WholeNumberLaws
pub mod WholeNumbers
pub mod Reliability
pub mod Bonferroni
pub mod Changes
