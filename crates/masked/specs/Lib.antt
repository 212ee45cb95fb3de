pub mod Inner
pub mod Calls
