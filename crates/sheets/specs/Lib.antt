pub mod Grids
pub mod Runs
pub mod Layouts
pub mod Copies
