pub mod Picks
pub mod Records
pub mod Links
pub mod Checks
pub mod Surveyed
