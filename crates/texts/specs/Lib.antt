pub mod Tokens
pub mod Cursors
pub mod Parts
pub mod Texts
