pub mod Rules
pub mod Plans
pub mod Mouths
pub mod Laws
pub mod Bandings
