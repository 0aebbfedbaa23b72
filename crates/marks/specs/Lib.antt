pub mod Refusals
pub mod Orders
pub mod Heights
pub mod Classes
pub mod Spellings
pub mod Spells
pub mod HeightsLemmas
