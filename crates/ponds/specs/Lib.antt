pub mod Ponds
pub mod Laws
