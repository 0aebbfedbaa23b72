pub mod Grounds
pub mod Sills
