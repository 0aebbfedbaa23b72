pub mod Rounds
pub mod Settles
pub mod Surveys
