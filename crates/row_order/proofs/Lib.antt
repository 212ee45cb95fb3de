pub mod Asked
pub mod Theorems
