pub mod Whole
pub mod Outcome
pub mod OfKind
