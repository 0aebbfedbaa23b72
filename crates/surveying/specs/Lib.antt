pub mod Turns
pub mod Blocks
pub mod Checks
pub mod Surveyed
