pub mod Steps
pub mod Found
pub mod Back
pub mod Along
pub mod Puts
pub mod Rowwise
pub mod Decodings
