pub mod Tilings
pub mod Trees
pub mod Joins
pub mod Sheets
pub mod Surveys
pub mod MouthGraphs
pub mod Theorems
