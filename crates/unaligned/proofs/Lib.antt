pub mod Little
pub mod Runs
