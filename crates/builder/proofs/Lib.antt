pub mod Finishing
pub mod Outcomes
pub mod Once
pub mod Steps
