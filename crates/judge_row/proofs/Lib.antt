pub mod Lengths
pub mod Entries
pub mod High
pub mod Faults
pub mod Verdicts
