pub mod Marks
pub mod Listing
pub mod Lines
pub mod Together
