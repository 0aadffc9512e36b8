pub mod Kinds
pub mod Layout
pub mod Reading
pub mod Faults
pub mod Steps
pub mod Layers
pub mod Texts
pub mod Forms
