pub mod Walk
pub mod Xor
pub mod Rows
pub mod Mask
pub mod Ones
pub mod Counts
