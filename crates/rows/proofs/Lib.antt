pub mod Writing
pub mod Filling
pub mod Opening
pub mod Theorems
