pub mod Model
pub mod Residues
pub mod ResidueLaws
pub mod Models
pub mod Meanings
