pub mod Rising
pub mod Borders
pub mod Bands
pub mod Scans
pub mod Tilings
pub mod Numberings
pub mod Indices
pub mod Seams
