pub mod Lines
pub mod Cells
pub mod Decoded
pub mod Writes
