pub mod Turning
pub mod Waiting
pub mod Marking
pub mod Charting
pub mod Telling
