pub mod Checks
pub mod Marks
pub mod Places
pub mod Spans
pub mod Starts
pub mod Codes
pub mod Rectangles
