pub mod Sifts
pub mod Counts
pub mod Places
pub mod Accepted
pub mod Laws
pub mod Routes
pub mod Spread
pub mod Ends
