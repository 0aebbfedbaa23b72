pub mod Grammars
pub mod Decimals
