pub mod Making
pub mod Calls
