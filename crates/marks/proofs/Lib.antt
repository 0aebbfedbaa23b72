pub mod Endings
pub mod Letters
