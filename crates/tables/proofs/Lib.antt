pub mod Picking
pub mod Linked
pub mod Reading
pub mod Graphs
