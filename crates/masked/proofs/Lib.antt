pub mod Differing
pub mod Packing
pub mod Asked
pub mod Theorems
