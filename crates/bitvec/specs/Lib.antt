pub mod Cells
pub mod Parts
