pub mod Cells
pub mod TreeReading
