pub mod Pieces
pub mod Decimals
pub mod Hex
