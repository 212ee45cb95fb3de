pub mod Words
pub mod Decimals
pub mod Pairs
