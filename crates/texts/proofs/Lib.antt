pub mod Options
pub mod Fronts
pub mod Scans
pub mod Going
pub mod Rows
pub mod Heads
pub mod Whole
pub mod Ends
